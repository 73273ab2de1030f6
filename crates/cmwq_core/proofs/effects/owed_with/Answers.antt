use Rattle.cmwq_core.specs.Common.{ap, ◌∙◌, past_of, one}
use Rattle.cmwq_core.proofs.Effecting.{owes_with, owing_sum}
use Rattle.cmwq_core.proofs.effects.owed_with.Goals as goal

pub overflow_sub-result : goal.overflow_sub-result
overflow_sub-result c =
    let b = c.args.state.now in let r = c.requires in
    let law =
    owes_with b.layout (past_of b.entries) c.args.entry c.args.ended c.args.opened c.args.booked
    c.settles_booked-unbooked.result r.legal c.owing.ensures.legal r.ended r.opened r.booked
    c.settles_booked-unbooked.ensures in
    (owing_sum c.owing.result _ _ c.taken_alone.result c.one.result c.one-2.result c.paid_alone.result c.one-3.result
    c.one-4.result _ _ _ _ _ _ law c.owing.ensures.is c.taken_alone.ensures.taken
    (c.one.ensures.one ∙ ap one c.is_some.ensures) (c.one-2.ensures.one ∙ ap one c.is_some-2.ensures)
    c.paid_alone.ensures.paid (c.one-3.ensures.one ∙ ap one c.ends_early-early.ensures) c.one-4.ensures.one).0

pub returns : goal.returns
returns c =
    let b = c.args.state.now in let r = c.requires in
    let law =
    owes_with b.layout (past_of b.entries) c.args.entry c.args.ended c.args.opened c.args.booked
    c.settles_booked-unbooked.result r.legal c.owing.ensures.legal r.ended r.opened r.booked
    c.settles_booked-unbooked.ensures in
    (owing_sum c.owing.result _ _ c.taken_alone.result c.one.result c.one-2.result c.paid_alone.result c.one-3.result
    c.one-4.result _ _ _ _ _ _ law c.owing.ensures.is c.taken_alone.ensures.taken
    (c.one.ensures.one ∙ ap one c.is_some.ensures) (c.one-2.ensures.one ∙ ap one c.is_some-2.ensures)
    c.paid_alone.ensures.paid (c.one-3.ensures.one ∙ ap one c.ends_early-early.ensures) c.one-4.ensures.one).1
