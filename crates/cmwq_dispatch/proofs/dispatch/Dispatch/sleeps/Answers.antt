use Rattle.std.proofs.Common.{◌≡◌, ap, false, subst, sym}
use Rattle.cmwq_theory_wakes.specs.Rest.{IsUnready}
use Rattle.cmwq_dispatch.specs.Dispatched.{Dispatched, dispatched_of, is_over, past_now}
use Rattle.cmwq_dispatch.specs.Waiting.{IsKnown}
use Rattle.cmwq_dispatch.proofs.Steady.{stands_waits}
use Rattle.cmwq_dispatch.proofs.dispatch.Dispatch.sleeps.Goals as goal

pub invariant_of-self : goal.invariant_of-self
invariant_of-self c =
    let i = c.self.inside in
    let d : Dispatched = dispatched_of i.execution i.closed i.failed i.crowded i.firing i.runs.first i.sleepers in
    let lives : is_over d ≡ false = cc (ap is_over c.self.view_is, c.is_over.ensures, c.if-is_over.false) in (
      c.self.invariant.0,
      c.self.invariant.1,
      stands_waits d c.args.ticket c.waits.new.self c.waits.result lives
          (subst (λ (e : Dispatched). IsKnown e.history.layout (past_now e) c.args.ticket) (sym c.self.view_is)
          c.requires.known)
          (subst (λ (e : Dispatched). IsUnready (past_now e) c.args.ticket) (sym c.self.view_is) c.requires.unready)
          c.waits.ensures.waits c.waits.ensures.full c.self.invariant.2,
    )
