use Rattle.std.proofs.Common.{◌≡◌, ◌<◌, take}
use Rattle.cmwq_chart_text.specs.PictureText.{scale_of}
use Rattle.cmwq_chart_text.proofs.picture.scale_of.Given as goal

abbrev pub invariant-loop-figure : goal.invariant-loop-figure
invariant-loop-figure l = record { most : l.most ≡ scale_of (take l.figure-index l.figures); some : 0 < l.most }
