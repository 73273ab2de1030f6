use Rattle.std.proofs.Common.{◌≡◌, length}
use Rattle.cmwq_chart_text.specs.Bands.{AreEmpty}
use Rattle.cmwq_chart_text.proofs.bands.no_shapes.Given as goal

abbrev pub invariant-loop : goal.invariant-loop
invariant-loop l = record { long : length (l.lists).items ≡ l.counter; none : AreEmpty (l.lists).items }
