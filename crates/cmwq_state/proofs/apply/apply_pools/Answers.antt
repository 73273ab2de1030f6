use Rattle.std.proofs.Common.{◌∙◌, refl, sym, subst}
use Rattle.cmwq_refinement.specs.Pools.{pool_after_activation}
use Rattle.cmwq_state.specs.Tables.{EachPool, only, those_in}
use Rattle.cmwq_state.proofs.Appended.{effect_there}
use Rattle.cmwq_state.proofs.Steps.{may_apply}
use Rattle.cmwq_state.proofs.Applied.{may_cancel, may_be_listed, may_list_all, list_once, pools_applied}
use Rattle.cmwq_state.proofs.apply.apply_pools.Goals as goal

pub reply_in_pools-requires : goal.reply_in_pools-requires
reply_in_pools-requires c =
    let s = c.requires.0 in let past = c.requires.1 in let f = c.args.effect.now in let is = c.requires.2.effect in
    may_apply s past f.entry c.args.pools.now is.legal (effect_there s past f is) c.requires.5

pub cancel_in_pools-requires : goal.cancel_in_pools-requires
cancel_in_pools-requires c =
    rw c.requires.3
    (may_cancel c.requires.0 c.requires.1 c.args.effect.now c.reply_in_pools.new.pools c.requires.2.effect
    c.requires.2.before (c.reply_in_pools.ensures.many ∙ c.requires.5.many))

pub list_active-requires-clause-there : goal.list_active-requires-clause-there
list_active-requires-clause-there c =
    let s = c.requires.0 in let f = c.args.effect.now in
    let applied = c.cancel_in_pools.ensures s f.entry (sym c.requires.3) refl in
    rw c.requires.3
    (may_be_listed s c.requires.1 f c.cancel_in_pools.new.pools c.args.activated.now c.requires.2.effect
    (applied.many ∙ (c.reply_in_pools.ensures.many ∙ c.requires.5.many)) c.requires.4)

pub list_active-requires-clause-may : goal.list_active-requires-clause-may
list_active-requires-clause-may c =
    let s = c.requires.0 in let f = c.args.effect.now in
    let applied = c.cancel_in_pools.ensures s f.entry (sym c.requires.3) refl in
    rw c.requires.3
    (may_list_all s c.requires.1 f c.args.pools.now c.reply_in_pools.new.pools c.cancel_in_pools.new.pools
    c.args.activated.now c.requires.2.effect c.requires.5 c.reply_in_pools.ensures applied c.requires.4)

pub list_active-requires-clause-once : goal.list_active-requires-clause-once
list_active-requires-clause-once c =
    let s = c.requires.0 in let f = c.args.effect.now in
    let applied = c.cancel_in_pools.ensures s f.entry (sym c.requires.3) refl in
    rw c.requires.3
    (list_once s c.requires.1 f c.args.pools.now c.reply_in_pools.new.pools c.cancel_in_pools.new.pools
    c.args.activated.now c.requires.2.effect c.requires.5 c.reply_in_pools.ensures applied c.requires.4)

pub returns : goal.returns
returns c s past next queues newly are =
    let f = c.args.effect.now in
    let late = c.cancel_in_pools.new.pools in
    let new = c.list_active.new.pools in
    pools_applied s past f c.args.pools.now c.reply_in_pools.new.pools late new c.args.activated.now next.effect are
    c.reply_in_pools.ensures
    (c.cancel_in_pools.ensures s f.entry (sym queues) refl) newly
    (subst (λ qs. EachPool (λ p. pool_after_activation (only qs) (those_in qs p c.args.activated.now)) late new)
    queues c.list_active.ensures)
