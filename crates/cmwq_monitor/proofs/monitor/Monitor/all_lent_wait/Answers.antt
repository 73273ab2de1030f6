use Rattle.std.proofs.Common.{◌≡◌, ◌∙◌, ◌⊎◌, ◌<◌, ◌≤◌, ap, arith, inl, inr, List, subst, sym, true, ℕ}
use Rattle.std.proofs.Math.Nat.{eq-or-lt_of_le}
use Rattle.cmwq_model.specs.Prelude.{Layout, past_of}
use Rattle.cmwq_model.specs.declared.entry.Entry.{Entry}
use Rattle.cmwq_monitor.specs.Held.{Held, caller_waits}
use Rattle.cmwq_monitor.proofs.monitor.Monitor.all_lent_wait.Goals as goal

pub loop-caller-init : goal.loop-caller-init
loop-caller-init g c =
    let first = c.first_lent-caller.ensures ∙ ap (λ (h : Held). h.first_lent) c.self.view_is in (
      omega (arith, first),
      λ k from below. absurd (omega (arith, from, below, first)),
    )

pub loop-caller-preserved : goal.loop-caller-preserved
loop-caller-preserved g c =
    let from = c.loop-caller.invariant.0 in (
      omega (arith, from),
      λ k from below. of k from (eq-or-lt_of_le (omega (arith, below))),
    )
  where
    log : List Entry
    log = c.args.self.now.history

    of : (k : ℕ) → c.args.self.now.first_lent ≤ k → (k ≡ c.loop-caller.caller) ⊎ (k < c.loop-caller.caller)
        → caller_waits (past_of log) k ≡ true
    of k from (inl same) = subst (λ n. caller_waits (past_of log) n ≡ true) (sym same)
        (sym c.if-not-waits.ensures)
    of k from (inr less) = c.loop-caller.invariant.1 k from less

pub returns-clause-all : goal.returns-clause-all
returns-clause-all g c = λ is k from below.
    let callers = ap (λ (s : Layout). s.callers) (c.counts-callers.ensures.counts ∙ c.shape.ensures
    ∙ c.self.invariant.0) in
    let over = c.loop-caller-test.false in
    c.loop-caller.invariant.1 k from (omega (arith, below, callers, over))
