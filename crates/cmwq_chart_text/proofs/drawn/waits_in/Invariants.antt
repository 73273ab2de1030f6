use Rattle.std.proofs.Common.{◌≡◌, ◌≤◌, take}
use Rattle.cmwq_chart_text.specs.Drawings.{waits_in}
use Rattle.cmwq_chart_text.proofs.drawn.waits_in.Given as goal

abbrev pub invariant-loop-figure : goal.invariant-loop-figure
invariant-loop-figure l = record { most : l.most ≡ waits_in (take l.figure-index l.own); few : l.most ≤ 64 }
