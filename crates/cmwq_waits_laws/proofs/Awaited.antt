-- What a ticket waits for: it goes on to wait for that while that is open, and isn't ended.
use Rattle.std.proofs.Common.{◌≡◌, ◌≤◌, ◌∷◌, ℕ, true, false, List, Option, Some, None, length, ap, arith, refl}
use Rattle.std.proofs.Common.{nat_le, subst, ⊎_elim, eqb-true}
use Rattle.std.specs.Prelude.{Bool, ◌&&◌, ◌||◌, ◌==◌, if◌then◌else◌, option_map}
use Rattle.std.specs.Option.{option_or}
use Rattle.std.proofs.lemmas.Bool.{and_parts, and_from, both_ways, false_from_ne_true, or_cases, or_left, or_right}
use Rattle.std.proofs.lemmas.Bool.Decides.{nat_tests}
use Rattle.cmwq_lemmas.proofs.Lists.{find_none}
use Rattle.cmwq_lemmas.proofs.Members.{In, in_filter, of_in}
use Rattle.cmwq_model.specs.Prelude.{IsLegal, Layout, cancels_sync, ends, holds_up, is_live, is_served_after}
use Rattle.cmwq_model.specs.Prelude.{is_started}
use Rattle.cmwq_model.specs.Prelude.{is_by, is_done, is_end_of, is_within, item_run, least_waited, queueings, starts}
use Rattle.cmwq_model.specs.Prelude.{still_open}
use Rattle.cmwq_model.specs.Prelude.{unended_tickets, waits_for}
unfoldable use Rattle.cmwq_model.specs.Prelude.{serving_from}
use Rattle.cmwq_model.specs.declared.call.Call.{Call}
use Rattle.cmwq_model.specs.declared.call.Call.TheVariants as call
use Rattle.cmwq_model.specs.declared.entry.Entry.{Entry}
use Rattle.cmwq_model.specs.declared.id.Who.TheVariants.{Caller}
use Rattle.cmwq_model.specs.declared.record.Queueing.{Queueing}
use Rattle.cmwq_model.specs.declared.record.Start.{Start}
use Rattle.cmwq_model.specs.declared.record.Ticket.{Ticket}
use Rattle.cmwq_theory_steps.proofs.Done.{ready_call}
use Rattle.cmwq_theory_steps.proofs.Entries.{queueings_known}
use Rattle.cmwq_theory_steps.proofs.Given.{IsGiven, unended_given}
use Rattle.cmwq_theory_steps.proofs.OneRun.{started_runs}
use Rattle.cmwq_theory_steps.proofs.Refusals.{none_mapped}
use Rattle.cmwq_theory_steps.proofs.TicketSteps.{is_done_reply}
use Rattle.cmwq_waits.specs.HeldUp.{awaits}

-- ---- what holds a wait up goes on to hold it up

within_on : (past : List Entry) (e : Entry) (q n m : ℕ) → m ≤ length past
    → is_within (serving_from past q n) m ≡ true → is_within (serving_from (e ∷ past) q n) m ≡ true
unfolding serving_from
within_on past e q n m less h = at (serving_from past q n) refl h
  where
    at : (o : Option ℕ) → serving_from past q n ≡ o → is_within o m ≡ true
        → is_within (option_or o (if nat_le n (length past) && is_served_after (e ∷ past) q n then Some (length past)
        else None)) m ≡ true
    at (Some b) is k = k
    at None is k = grind (arith, nat_tests)

pub holds_on : (past : List Entry) (e : Entry) (n : ℕ) (c : Call) (x : Queueing) → x.number ≤ length past
    → holds_up past n c x ≡ true → holds_up (e ∷ past) n c x ≡ true
holds_on past e n (call.Flush q) x less h =
    let k = and_parts (x.place.queue.0 == q.0) (is_within (serving_from past q.0 n) x.number) h in
    and_from _ _ k.0 (within_on past e q.0 n x.number less k.1)
holds_on past e n c x less h = grind arith

pub awaits_on : (past : List Entry) (e : Entry) (t : Ticket) (x : Queueing) → x.number ≤ length past
    → awaits past t x ≡ true → awaits (e ∷ past) t x ≡ true
awaits_on past e t x less up =
    let waits_for_run = cancels_sync x.item.0 t.call && is_started (e ∷ past) x.number in
    ⊎_elim
    (λ holds. or_left (holds_up (e ∷ past) t.number t.call x) waits_for_run
    (holds_on past e t.number t.call x less holds))
    (λ of_run. let k = and_parts (cancels_sync x.item.0 t.call) (is_started past x.number) of_run in
    or_right (holds_up (e ∷ past) t.number t.call x) waits_for_run
    (and_from _ _ k.0 (or_right (starts x.number e) (is_started past x.number) k.1)))
    (or_cases (holds_up past t.number t.call x) (cancels_sync x.item.0 t.call && is_started past x.number) up)

-- ---- while what a ticket waits for is open, the ticket is not ready

abbrev runs : List Entry → ℕ → Option ℕ
runs past i = option_map (λ (start : Start). start.number) (item_run past i)

run_there : (s : Layout) (past : List Entry) (x : Queueing) → IsLegal s past → In x (still_open past)
    → is_started past x.number ≡ true → runs past x.item.0 ≡ None → ⊥
run_there s past x legal here started none =
    let made = in_filter (is_live past) (queueings past) x here in
    let known = of_in _ (queueings past) x (queueings_known past) made.0 in
    let some = started_runs s past x.item.0 x.number legal known.item started made.1 in
    cc (some, none)

not_least : (past : List Entry) (n : ℕ) (c : Call) (x : Queueing) → In x (still_open past)
    → holds_up past n c x ≡ true → least_waited past n c ≡ None → ⊥
not_least past n c x here up none =
    both_ways _
    (of_in (λ y. holds_up past n c y ≡ false) (still_open past) x
    (find_none (holds_up past n c) (still_open past) (none_mapped _ none)) here) up

abbrev waits_so : List Entry → ℕ → Call → Queueing → Bool
waits_so past n c x = holds_up past n c x || (cancels_sync x.item.0 c && is_started past x.number)

not_ready : (s : Layout) (past : List Entry) (n : ℕ) (c : Call) (x : Queueing) → IsLegal s past
    → In x (still_open past) → waits_so past n c x ≡ true → waits_for past n c ≡ None → ⊥
not_ready s past n (call.CancelSync i) x legal here up none =
    let k = and_parts (i.0 == x.item.0) (is_started past x.number) up in
    run_there s past x legal here k.1
    (subst (λ j. runs past j ≡ None) (eqb-true i.0 x.item.0 k.0) none)
not_ready s past n c x legal here up none = not_least past n c x here (grind arith) none

end_call : (n : ℕ) (c : Call) → is_end_of n c ≡ true → c ≡ call.End n
end_call n (call.End m) h = ap call.End (eqb-true m n h)
end_call n c h = absurd (cc h)

-- so it isn't ended
pub not_ended : (s : Layout) (past : List Entry) (e : Entry) (t : Ticket) (x : Queueing) → IsLegal s (e ∷ past)
    → IsLegal s past → In t (unended_tickets past) → In x (still_open past)
    → awaits past t x ≡ true → ends t e ≡ false
not_ended s past e t x legal before there here up = false_from_ne_true _ (λ ends_it.
    let last = and_parts (is_by (Caller t.caller) e && is_end_of t.number e.call) (is_done e.reply) ends_it in
    let own = and_parts (is_by (Caller t.caller) e) (is_end_of t.number e.call) last.0 in
    let given = of_in (IsGiven past) (unended_tickets past) t (unended_given past) there in
    let ready = ready_call s past e t.number given.begun legal
    (end_call t.number e.call own.1, is_done_reply e.reply last.1) given.at in
    not_ready s past t.number t.call x before here up (subst (λ c. waits_for past t.number c ≡ None) given.call ready))
