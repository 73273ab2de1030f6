use Rattle.std.proofs.Common.{◌≡◌, ◌∙◌, ap, false, subst, sym}
use Rattle.cmwq_core.specs.History.{History, past_in}
use Rattle.cmwq_model.specs.Prelude.{has_run}
use Rattle.cmwq_model.specs.Workers.{is_enlisted}
use Rattle.cmwq_theory_wakes.specs.Starting.{would_start}
use Rattle.cmwq_dispatch.specs.Dispatched.{Dispatched, dispatched_of, is_over, past_now}
use Rattle.cmwq_dispatch.proofs.Steady.{may_rest, stands_asleep}
use Rattle.cmwq_dispatch.proofs.dispatch.Dispatch.idles.Goals as goal

pub invariant_of-self : goal.invariant_of-self
invariant_of-self c =
    let i = c.self.inside in
    let d : Dispatched = dispatched_of i.execution i.closed i.failed i.crowded i.firing i.runs.first i.sleepers in
    let s = i.execution.layout in
    let past = past_in i.execution in
    let lives : is_over d ≡ false = cc (ap is_over c.self.view_is, c.is_over.ensures, c.if-is_over.false) in
    let right =
    may_rest s past c.args.worker c.is_enlisted-is_enlisted.result
    (c.is_enlisted-is_enlisted.ensures ∙ ap (λ (h : History). is_enlisted (past_in h) c.args.worker) c.state-2.ensures)
    (sym (ap (λ (h : History). has_run (past_in h) c.args.worker) c.state.ensures)
    ∙ (sym c.has_run.ensures ∙ c.if-has_run.false))
    (subst (λ (e : Dispatched). would_start e.history.layout (past_now e) c.args.worker ≡ false) (sym c.self.view_is)
    c.requires.starts_nothing) in (
      c.self.invariant.0,
      c.self.invariant.1,
      stands_asleep d c.rests.new.self lives (c.rests.ensures.kept s past right c.self.invariant.2.looked_after)
          c.self.invariant.2,
    )
