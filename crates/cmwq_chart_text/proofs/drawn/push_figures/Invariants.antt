use Rattle.std.proofs.Common.{◌≡◌, ◌++◌, map, take}
use Rattle.cmwq_chart_text.specs.Drawings.{figure_part}
use Rattle.cmwq_chart_text.proofs.drawn.push_figures.Given as goal

abbrev pub invariant-loop-figure : goal.invariant-loop-figure
invariant-loop-figure l = (l.parts).items ≡ (l.initial.parts).items
    ++ map (figure_part l.band l.top) (take l.figure-index l.own)
