use Rattle.std.proofs.Common.{◌≡◌, ◌∙◌, false, subst, sym}
use Rattle.cmwq_model.specs.declared.id.Who.TheVariants.{Worker}
use Rattle.cmwq_state.specs.Tables.{IsThere}
use Rattle.cmwq_theory_wakes.specs.Starting.{would_start}
use Rattle.cmwq_dispatch.specs.Dispatched.{Dispatched, past_now}
use Rattle.cmwq_dispatch.proofs.Planned.{full_starts_none, planned_starts_none}
use Rattle.cmwq_dispatch.proofs.dispatch.Dispatch.plan_start.Goals as goal

pub returns-else-starts : goal.returns-else-starts
returns-else-starts c =
    subst (λ (d : Dispatched). would_start d.history.layout (past_now d) c.args.worker ≡ false) c.self.view_is
    (planned_starts_none c.self.inside.execution c.args.worker c.in-Ok.plan c.in-Ok.ensures.plan
    (sym c.starts.ensures ∙ c.if-starts.false))

pub returns-in-Err : goal.returns-in-Err
returns-in-Err c =
    subst (λ (d : Dispatched). would_start d.history.layout (past_now d) c.args.worker ≡ false) c.self.view_is
    (full_starts_none c.self.inside.execution c.args.worker
    (subst (λ (d : Dispatched). IsThere d.history.layout (Worker c.args.worker)) (sym c.self.view_is) c.requires)
    c.len-len.ensures.legal c.len-len.ensures.needed (sym c.in-Err.ensures.room))
