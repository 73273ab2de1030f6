use Rattle.std.proofs.Common.{◌≡◌, length}
use Rattle.std.specs.List.Sorted.{IsNonDecreasingBy}
use Rattle.cmwq_chart_text.specs.Drawings.{with_rows}
use Rattle.cmwq_chart_text.specs.Figures.{figure_number}
use Rattle.cmwq_chart_text.proofs.drawn.Drawn.draw_rows.Given as goal

abbrev pub invariant-loop-rest : goal.invariant-loop-rest
invariant-loop-rest l = record {
  order : IsNonDecreasingBy figure_number l.rest;
  drawn : with_rows l.page l.band l.rest l.self ≡ with_rows l.page l.band l.own l.initial.self;
}

abbrev pub decreases-loop-rest : goal.decreases-loop-rest
decreases-loop-rest l = length l.rest
