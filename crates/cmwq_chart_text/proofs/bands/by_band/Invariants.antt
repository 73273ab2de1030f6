use Rattle.std.proofs.Common.{take}
use Rattle.cmwq_chart_text.specs.Bands.{AreByBand}
use Rattle.cmwq_chart_text.proofs.bands.by_band.Given as goal

abbrev pub invariant-loop-figure : goal.invariant-loop-figure
invariant-loop-figure l = AreByBand l.page (take l.figure-index l.figures) (l.lists).items
