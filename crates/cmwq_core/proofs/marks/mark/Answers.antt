use Rattle.cmwq_core.specs.Common.{◌∙◌, sym, ap, item_number}
use Rattle.cmwq_core.proofs.Marked.{marks_nothing, marks_one}
use Rattle.cmwq_core.proofs.marks.mark.Goals as goal

pub returns-in-None : goal.returns-in-None
returns-in-None c =
    marks_nothing c.args.state.now c.args.effect.entry c.requires.legal
    (sym c.marked.ensures.is ∙ ap item_number c.in-None.is)

pub returns-in-Some : goal.returns-in-Some
returns-in-Some c =
    marks_one c.args.state.now c.args.effect.entry c.in-Some.item.0 c.bits_after.result c.requires.legal
    (sym c.marked.ensures.is ∙ ap item_number c.in-Some.is) c.bits_after.ensures
