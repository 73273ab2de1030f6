use Rattle.std.proofs.Common.{◌≡◌, ℕ, ◌<◌, ◌≤◌, [], filter, fold, length, slice_index_or}
use Rattle.std.specs.Global.{Vec}
use Rattle.std.specs.List.{range_with_len}
use Rattle.cmwq_chart_text.specs.declared.figures.Figure.{Figure}
use Rattle.cmwq_chart_text.specs.Bands.{stands_in}
use Rattle.cmwq_chart_text.specs.Drawings.{with_band_of}
use Rattle.cmwq_chart_text.proofs.drawn.Drawn.new.Given as goal

abbrev pub invariant-loop-band : goal.invariant-loop-band
invariant-loop-band l = record {
  drawn : l.drawn ≡ fold (with_band_of l.page l.figures) (record { parts = []; top = 74 }) (range_with_len 0 l.band);
  long : length (l.bands).items ≡ length (l.initial.bands).items;
  own : (k : ℕ) (d : Vec Figure) → l.band ≤ k → k < length (l.bands).items
      → (slice_index_or (l.bands).items k d).items ≡ filter (stands_in l.page k) l.figures;
}
