-- Waits that are refused, by the history alone.
use Rattle.std.proofs.Common.{◌≡◌, ◌∙◌, ◌∷◌, ◌++◌, List, Some, ap, subst, sym, []}
unfoldable use Rattle.cmwq_model.specs.Prelude.{IsLegal}
use Rattle.cmwq_model.specs.Prelude.{Layout}
use Rattle.cmwq_model.specs.declared.entry.Entry.{Entry}
use Rattle.cmwq_waits.specs.HeldUp.{AreWaiting}
use Rattle.cmwq_waits.specs.Registered.{registered}
use Rattle.cmwq_waits.specs.declared.run_wait.RunWait.{RunWait}
use Rattle.cmwq_waits.proofs.Exact.{refusals_are_refused as exact}
use Rattle.cmwq_waits.proofs.Running.{is_running}
use Rattle.cmwq_waits_laws.specs.Lasting.{FinishAfterWaits, NoneLetsGo}
use Rattle.cmwq_waits_laws.proofs.Lasting.{deadlocks_last as last}
use Rattle.cmwq_waits_laws.proofs.Refused.{refused_waits_never_end}
use Rattle.cmwq_waits_laws.proofs.StillRefused.{refused_asleep_too}
use Rattle.cmwq_waiting.specs.Deadlocks.{DeadlocksLast, RefusalsAreRefused, RefusedNeverEnd}
use Rattle.cmwq_waits.specs.Begun.{waits_of}
use Rattle.cmwq_waits.proofs.Begun.{waits_are_apart}
use Rattle.cmwq_waiting.proofs.Waits.{others_than, pair_runs, pairs_add_one, sleeps_add_none}
use Rattle.cmwq_waits.proofs.Begun.{waits_are_waiting}

legal_before : (s : Layout) (past later : List Entry) → IsLegal s (later ++ past) → IsLegal s past
unfolding IsLegal
legal_before s past [] legal = legal
legal_before s past (e ∷ later) legal = legal_before s past later legal.2

pub refusals_are_refused : RefusalsAreRefused
refusals_are_refused first s past run c legal =
    exact s past (waits_of first past) run c (waits_are_apart first s past legal)

pub deadlocks_last : DeadlocksLast
deadlocks_last first s past later p legal dead finish none =
    let before = legal_before s past later legal in
    last s past later (waits_of first past) p legal (waits_are_waiting first s past before)
    (waits_are_apart first s past before) dead finish none

pub refused_never_end : RefusedNeverEnd
unfolding IsLegal
refused_never_end first s past later sleep call w stuck legal is refuses finish none =
    let pair = legal_before s (call ∷ sleep ∷ past) later legal in
    let asleep = pair.2 in
    let awake = asleep.2 in
    let run = is_running s past is.worker w.run awake is.runs in
    let then = is_running s (sleep ∷ past) is.worker w.run asleep (pair_runs first s past sleep call w asleep is) in
    let more : waits_of first (call ∷ sleep ∷ past) ≡ registered (waits_of first past) (Some w) =
    pairs_add_one first s past sleep call w pair is
    ∙ ap (λ (ws : List RunWait). ws ++ w ∷ []) (sym (others_than first s past sleep call w asleep is)) in
    refused_waits_never_end s (sleep ∷ past) later call (waits_of first past) w stuck legal
    (subst (AreWaiting (sleep ∷ past)) (sleeps_add_none first s past sleep asleep is.slept)
    (waits_are_waiting first s (sleep ∷ past) asleep))
    (waits_are_apart first s past awake) (record { is_open = then.is_open; has_started = then.has_started })
    (refused_asleep_too s past sleep (waits_of first past) w.run call.call stuck asleep is.slept
    (waits_are_waiting first s past awake) run.is_open refuses)
    is.given
    (subst (λ (ws : List RunWait). FinishAfterWaits ws later) more finish)
    (subst (λ (ws : List RunWait). NoneLetsGo s (call ∷ sleep ∷ past) ws later) more none)
