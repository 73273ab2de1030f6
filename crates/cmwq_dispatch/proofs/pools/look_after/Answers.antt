use Rattle.std.proofs.Common.{◌∙◌, drop, ap, ap₂, subst, sym}
use Rattle.cmwq_core.specs.History.{past_in}
use Rattle.cmwq_model.specs.Prelude.{IsLegal}
use Rattle.cmwq_theory_wakes.specs.Reach.{reach_by_ending, reach_by_reply}
use Rattle.cmwq_dispatch.proofs.EachPool.{leaves_on, leaves_same}
use Rattle.cmwq_dispatch.proofs.Reachable.{ending_within, reply_within}
use Rattle.cmwq_dispatch.proofs.Staying.{attended_now}
use Rattle.cmwq_dispatch.specs.Reached.{IsReachWithin}
use Rattle.cmwq_dispatch.proofs.pools.look_after.Goals as goal

pub returns-clause-attended : goal.returns-clause-attended
returns-clause-attended c p =
    attended_now c.args.execution.now.layout (past_in c.args.execution.now) (drop 1 (past_in c.args.execution.now))
    c.args.entry.now c.args.pools.now c.enlist.new.pools c.look.new.pools c.look-2.new.pools p _ _ c.requires.past
    (c.reach_by_ending.ensures
    ∙ ap₂ (λ s o. reach_by_ending s c.args.entry.now o) c.requires.shape c.requires.ended)
    (c.reach_by_reply.ensures ∙ ap (λ s. reach_by_reply s c.args.entry.now c.args.entry.now.reply) c.requires.shape)
    c.requires.legal c.requires.own c.enlist.ensures.same (c.requires.attended p) (c.look.ensures.attended p)
    (c.look.ensures.kept p) (c.look-2.ensures.attended p) (c.look-2.ensures.kept p)

pub returns-clause-named : goal.returns-clause-named
returns-clause-named c =
    leaves_on c.args.pools.now c.look.new.pools c.look-2.new.pools c.args.wakes.now c.look.new.wakes c.look-2.new.wakes
    (leaves_on c.args.pools.now c.enlist.new.pools c.look.new.pools c.args.wakes.now c.args.wakes.now c.look.new.wakes
    (leaves_same c.args.pools.now c.enlist.new.pools c.args.wakes.now c.enlist.ensures.same) c.look.ensures.named)
    c.look-2.ensures.named

pub look-requires-clause-reach : goal.look-requires-clause-reach
look-requires-clause-reach c =
    subst (IsReachWithin c.args.execution.now.layout.cpus) (sym (c.reach_by_ending.ensures
    ∙ ap₂ (λ s o. reach_by_ending s c.args.entry.now o) c.requires.shape c.requires.ended))
    (ending_within c.args.execution.now.layout (drop 1 (past_in c.args.execution.now)) c.args.entry.now
    (subst (IsLegal c.args.execution.now.layout) c.requires.past c.requires.legal))

pub look-requires-2-clause-reach : goal.look-requires-2-clause-reach
look-requires-2-clause-reach c =
    subst (IsReachWithin c.args.execution.now.layout.cpus) (sym (c.reach_by_reply.ensures
    ∙ ap (λ s. reach_by_reply s c.args.entry.now c.args.entry.now.reply) c.requires.shape))
    (reply_within c.args.execution.now.layout (drop 1 (past_in c.args.execution.now)) c.args.entry.now
    (subst (IsLegal c.args.execution.now.layout) c.requires.past c.requires.legal))
