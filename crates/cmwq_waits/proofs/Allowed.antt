-- Which entries begin no wait, or only one that was allowed.
use Rattle.std.proofs.Common.{◌≡◌, ◌∙◌, ◌∷◌, List, None, Some, ℕ, ap, false, length, subst, sym}
use Rattle.std.specs.Prelude.{if◌then◌else◌, option_and_then}
unfoldable use Rattle.cmwq_model.specs.Prelude.{IsLegal}
use Rattle.cmwq_model.specs.Prelude.{Layout, gives_ticket, ticket_for, ticket_in}
use Rattle.cmwq_model.specs.declared.entry.Entry.{Entry}
use Rattle.cmwq_model.specs.declared.record.Queueing.{Queueing}
use Rattle.cmwq_theory_steps.specs.ItemQueueings.{queueing_run}
use Rattle.cmwq_waits.specs.Allowed.{BeginsAllowed, RefusesIn}
use Rattle.cmwq_waits.specs.Begun.{is_lent, laid, wait_begun, wait_by, waits_of}
use Rattle.cmwq_waits.specs.Refused.{refusal}
use Rattle.cmwq_waits.proofs.Begun.{begun_is, laid_is, sleep_is, sleep_runs, slept_is, waits_are_apart}
use Rattle.cmwq_waits.proofs.Exact.{refusals_are_refused}

-- one who is not lent begins none
pub unlent_begins_none : (first : ℕ) (past : List Entry) (e : Entry) → is_lent first e.who ≡ false
    → wait_begun first past e ≡ None
unlent_begins_none first past e other =
    ap (λ b. if b then wait_by (laid past) (ticket_in e (length past)) else None) other

pub unlent_begins_allowed : (first : ℕ) (s : Layout) (past : List Entry) (e : Entry) → is_lent first e.who ≡ false
    → BeginsAllowed first s past e
unlent_begins_allowed first s past e other w begun = absurd (cc (sym (unlent_begins_none first past e other) ∙ begun))

-- nor does an entry that gives no ticket
pub ticketless_begins_allowed : (first : ℕ) (s : Layout) (past : List Entry) (e : Entry)
    → gives_ticket e.reply ≡ false → BeginsAllowed first s past e
ticketless_begins_allowed first s past e none w begun =
    absurd (cc (sym (ap (λ b. if b then ticket_for e.who e.call (length past) else None) none)
    ∙ (begun_is first past e w begun).given))

-- The entry after a sleep begins at most a wait of the run that fell asleep. So that was allowed, if it was not refused
-- before the sleep.
pub after_sleep_allowed : (first : ℕ) (s : Layout) (past : List Entry) (sleep e : Entry) → IsLegal s (sleep ∷ past)
    → option_and_then (λ (x : Queueing). refusal s past (waits_of first past) x e.call) (queueing_run past sleep.who)
    ≡ None
    → BeginsAllowed first s (sleep ∷ past) e
unfolding IsLegal
after_sleep_allowed first s past sleep e legal free w begun =
    let k = laid_is (sleep ∷ past) w.run (begun_is first (sleep ∷ past) e w begun).lies in
    let fell = sleep_is sleep k.worker k.sleeps in
    let runs : queueing_run past sleep.who ≡ Some w.run =
    ap (queueing_run past) fell.by_worker
    ∙ (sym (sleep_runs s past sleep k.worker legal (slept_is sleep.reply fell.slept)) ∙ k.runs) in
    let none : refusal s past (waits_of first past) w.run e.call ≡ None =
    sym (ap (option_and_then (λ (x : Queueing). refusal s past (waits_of first past) x e.call)) runs) ∙ free in
    subst (RefusesIn first s past w.run e.call) none
    (refusals_are_refused s past (waits_of first past) w.run e.call (waits_are_apart first s past legal.2))
