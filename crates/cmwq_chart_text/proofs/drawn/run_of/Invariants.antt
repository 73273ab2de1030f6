use Rattle.std.proofs.Common.{◌≡◌, ℕ, ◌-◌, ◌<◌, ◌≤◌, length, slice_index_or}
use Rattle.cmwq_chart_text.specs.declared.figures.Figure.{Figure}
use Rattle.cmwq_chart_text.specs.Figures.{figure_number, most_rows}
use Rattle.cmwq_chart_text.proofs.drawn.run_of.Given as goal

abbrev pub invariant-loop-many : goal.invariant-loop-many
invariant-loop-many l = record {
  some : 0 < l.many;
  numbered : l.row < most_rows;
  within : l.many ≤ length l.own;
  row : (d : Figure) → figure_number (slice_index_or l.own 0 d) ≡ l.row;
  same : (k : ℕ) (d : Figure) → k < l.many → figure_number (slice_index_or l.own k d) ≡ l.row;
}

abbrev pub decreases-loop-many : goal.decreases-loop-many
decreases-loop-many l = length l.own - l.many
