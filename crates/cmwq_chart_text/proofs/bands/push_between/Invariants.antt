use Rattle.std.proofs.Common.{◌&&◌, ◌≤◌, length, max, min, nat_le, nat_lt}
use Rattle.cmwq_chart_text.specs.Bands.{IsAdded}
use Rattle.cmwq_chart_text.proofs.bands.push_between.Given as goal

abbrev pub invariant-loop-band : goal.invariant-loop-band
invariant-loop-band l = record {
  added : IsAdded (λ k. nat_le l.from k && nat_lt k l.band) l.figure (l.initial.lists).items (l.lists).items;
  within : l.band ≤ max l.from (min l.end (length (l.initial.lists).items));
}
