-- Where each wait was allowed and nothing may trap waits, none is a deadlock, and so a hub does not hang by itself.
use Rattle.std.proofs.Common.{◌≡◌, ◌∷◌, ◌∙◌, Bool, List, None, Option, Some, ℕ, false, refl, sym, true, []}
use Rattle.std.specs.Prelude.{if◌then◌else◌}
use Rattle.cmwq_lemmas.proofs.Members.{contained_in, in_contained, none_in}
unfoldable use Rattle.cmwq_model.specs.Prelude.{IsLegal}
use Rattle.cmwq_model.specs.Prelude.{Layout, still_open, ticket_in}
use Rattle.cmwq_model.specs.declared.entry.Entry.{Entry}
use Rattle.cmwq_waits.specs.declared.run_wait.RunWait.{RunWait}
use Rattle.cmwq_waiting.specs.Deadlocks.{NoDeadlock, NoDeadlockComesUp}
use Rattle.cmwq_waiting.specs.Rest.{HubsNeverHang}
unfoldable use Rattle.cmwq_waits.specs.Begun.{waits_of}
use Rattle.cmwq_waits.specs.Begun.{is_lent, wait_begun, wait_by}
use Rattle.cmwq_waiting.specs.Waits.{IsPair}
use Rattle.cmwq_waiting.proofs.Allowed.{allowed_trap_none}
use Rattle.cmwq_waiting.proofs.AtRest.{at_rest_none_runs}
use Rattle.cmwq_waiting.proofs.Rest.{only_frozen_are_open}
use Rattle.cmwq_waiting.proofs.Trapping.{entries_trap_none}
use Rattle.cmwq_waits.proofs.Begun.{IsBegun, begun_is, laid_is, sleep_is, sleep_runs, slept_is}

-- a wait that begins does so by a pair of entries
pair_of : (first : ℕ) (s : Layout) (past : List Entry) (sleep call : Entry) (w : RunWait) → IsLegal s (sleep ∷ past)
    → IsBegun first (sleep ∷ past) call w → IsPair first past sleep call w
pair_of first s past sleep call w legal is =
    let k = laid_is (sleep ∷ past) w.run is.lies in
    let by = sleep_is sleep k.worker k.sleeps in
    let slept = slept_is sleep.reply by.slept in
    record {
      worker = k.worker;
      by_worker = by.by_worker;
      slept = slept;
      runs = sym (sleep_runs s past sleep k.worker legal slept) ∙ k.runs;
      lent = is.lent;
      given = is.given;
    }

pub no_deadlock_comes_up : NoDeadlockComesUp
unfolding IsLegal waits_of
no_deadlock_comes_up first s [] legal allowed calm = λ p dead w here. absurd (contained_in [] w here)
no_deadlock_comes_up first s (e ∷ []) legal allowed calm =
    entries_trap_none first s [] e legal (alone (is_lent first e.who)) calm.0
    (no_deadlock_comes_up first s [] legal.2 allowed.1 calm.1)
  where
    alone : (b : Bool) → (if b then wait_by None (ticket_in e 0) else None) ≡ None
    alone true = refl
    alone false = refl
no_deadlock_comes_up first s (e ∷ d ∷ past) legal allowed calm =
    by (wait_begun first (d ∷ past) e) refl (no_deadlock_comes_up first s (d ∷ past) legal.2 allowed.1 calm.1)
    (no_deadlock_comes_up first s past legal.2.2 allowed.1.1 calm.1.1)
  where
    by : (o : Option RunWait) → wait_begun first (d ∷ past) e ≡ o → NoDeadlock first s (d ∷ past)
        → NoDeadlock first s past → NoDeadlock first s (e ∷ d ∷ past)
    by None none older oldest = entries_trap_none first s (d ∷ past) e legal none calm.0 older
    by (Some w) is older oldest =
        allowed_trap_none first s past d e w legal
        (pair_of first s past d e w legal.2 (begun_is first (d ∷ past) e w is)) (allowed.0 w is) calm.0 oldest

pub hubs_never_hang : HubsNeverHang
hubs_never_hang first s past sound legal allowed calm rest each none_shut =
    none_in (still_open past) (λ x here.
    let alive = no_deadlock_comes_up first s past legal allowed calm in
    let none = at_rest_none_runs first s past legal rest each none_shut alive in
    let shut = only_frozen_are_open s past sound legal rest.workers none x (in_contained (still_open past) x here) in
    absurd (cc (sym shut, none_shut x (in_contained (still_open past) x here))))
