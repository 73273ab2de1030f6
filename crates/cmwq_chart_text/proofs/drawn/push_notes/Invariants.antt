use Rattle.std.proofs.Common.{◌≡◌, ◌++◌, take}
use Rattle.std.specs.Prelude.{flat_map}
use Rattle.cmwq_chart_text.specs.Drawings.{note_parts}
use Rattle.cmwq_chart_text.proofs.drawn.push_notes.Given as goal

abbrev pub invariant-loop-figure : goal.invariant-loop-figure
invariant-loop-figure l = (l.parts).items ≡ (l.initial.parts).items
    ++ flat_map (note_parts l.page l.band l.top) (take l.figure-index l.own)
