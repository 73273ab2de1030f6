use Rattle.cmwq_chart_text.specs.Drawings.{note_parts}
use Rattle.cmwq_chart_text.proofs.Ranges.{element_more}
use Rattle.cmwq_chart_text.proofs.drawn.push_notes.Goals as goal

pub loop-figure-preserved : goal.loop-figure-preserved
loop-figure-preserved c =
    element_more (note_parts c.args.page.now c.args.band c.args.top) c.args.own.now c.loop-figure.figure-index _ _ _ _
    c.loop-figure-test.true c.loop-figure.invariant (rw (c.note_of.ensures) at c.in_ok-push_note.ensures)
