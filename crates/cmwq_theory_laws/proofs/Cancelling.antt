-- While a cancel_sync of an item is unended, the item is not pending.
use Rattle.cmwq_theory_laws.specs.Common.{unended_tickets, ◌≡◌, ◌≤◌, ◌+◌, ℕ, Bool, true, false, cond, ◌&&◌, ◌||◌, List}
use Rattle.cmwq_theory_laws.specs.Common.{[], ◌∷◌, length, filter, count_by, Some, None, option_to_list, refl, sym, ap}
use Rattle.cmwq_theory_laws.specs.Common.{ap₂, ◌∙◌, arith, is_some, if◌then◌else◌, option_and_then, option_or, list_any}
use Rattle.cmwq_theory_laws.specs.Common.{or-false, or_parts, eq-eqb, list_any-append, Who, Caller, Call, Reply, Entry}
use Rattle.cmwq_theory_laws.specs.Common.{Queueing, Ticket, Layout, is_at, item_called, item_fired, is_of_item, settles}
use Rattle.cmwq_theory_laws.specs.Common.{due_in, is_booked, booked_by, number_cancelled, takes_back, opens, still_open}
use Rattle.cmwq_theory_laws.specs.Common.{is_unstarted, unstarted_queueing, is_pending, tickets, ticket_in, ticket_for}
use Rattle.cmwq_theory_laws.specs.Common.{gives_ticket, cancels_sync, is_cancelling, IsLegal, count_by-none}
use Rattle.cmwq_theory_laws.specs.Common.{count_by-filter, count_none, none_found, Cause, cause_of, booking_after}
use Rattle.cmwq_theory_laws.specs.Common.{pending_count, no_more_pending, waiting_now, unstarted_count, waiting_was}
use Rattle.cmwq_theory_laws.specs.Common.{none_unstarted, not_idle, of_item, booked_or_unstarted, one_unstarted}
use Rattle.cmwq_model.specs.declared.call.Call.TheVariants as call
use Rattle.cmwq_theory_steps.proofs.Causes as cause
use Rattle.std.proofs.Common.{inl, inr, ⊎_elim, ◌⊎◌}
use Rattle.std.proofs.lemmas.Bool.{and_from, and_left, and_parts, both_ways, false_from_ne_true, or_cases, or_from}
use Rattle.cmwq_lemmas.proofs.Passing.{any_counted, counted_any, fewer_kept}
use Rattle.cmwq_theory_steps.specs.TicketSteps.{is_kept}
use Rattle.cmwq_theory_steps.proofs.TicketSteps.{unended_go_on}
use Rattle.cmwq_theory_steps.proofs.Pending.{Settling, of_booking, of_call, own_item, settling}
use Rattle.cmwq_theory_steps.proofs.PendingSteps.{none_opened}

not_booked : (past : List Entry) (i : ℕ) → is_pending past i ≡ false → is_booked past i ≡ false
not_booked past i h = (or_parts (is_booked past i) (is_some (unstarted_queueing past i)) h).0

pending_none : (past : List Entry) (i : ℕ) → pending_count past i ≤ 0 → is_pending past i ≡ false
pending_none past i h =
    or_from _ _ (grind arith)
    (ap is_some
    (none_found (is_unstarted past i) (still_open past)
    (count_none (is_unstarted past i) (still_open past) (omega arith))))

-- an entry that doesn't settle the item leaves it idle
pub stays_idle : (s : Layout) (past : List Entry) (e : Entry) (i : ℕ) → IsLegal s (e ∷ past)
    → (settles e.reply && is_of_item i e) ≡ false → is_pending past i ≡ false → is_pending (e ∷ past) i ≡ false
stays_idle s past e i legal other idle =
    pending_none (e ∷ past) i
    (grind (
      arith,
      none_unstarted past i (not_idle past i idle),
      not_booked past i idle,
      no_more_pending s past e i legal other,
    ))

-- ---- nothing settles an idle item that is being cancelled

settles_none : (past : List Entry) (e : Entry) (i : ℕ) → Settling past e.who e.call e.reply → is_of_item i e ≡ true
    → is_cancelling past i ≡ true → is_pending past i ≡ false → ⊥
settles_none past e i (of_call j t p item place free pending opening) mine held idle =
    both_ways _ free.not_cancelling
    (ap (is_cancelling past) (own_item i j e (ap (λ o. option_or o (item_fired e.reply)) item) mine) ∙ held)
settles_none past e i (of_booking j item none was due) mine held idle =
    both_ways _ (not_booked past i idle) (ap (is_booked past) (sym (own_item i j e item mine)) ∙ was)

idle_goes_on : (s : Layout) (past : List Entry) (e : Entry) (i : ℕ) → IsLegal s (e ∷ past) → is_cancelling past i ≡ true
    → is_pending past i ≡ false → is_pending (e ∷ past) i ≡ false
idle_goes_on s past e i legal held idle = stays_idle s past e i legal (false_from_ne_true _ (λ both.
    let k = and_parts (settles e.reply) (is_of_item i e) both in
    settles_none past e i (settling s past e.who e.call e.reply (cause_of s past e legal) k.0) k.1 held idle)) idle

-- ---- a cancel_sync leaves its item idle

data SyncBegins (past : List Entry) (r : Reply) (i : ℕ) : Type 0 where
  took_back : (x : Queueing) → unstarted_queueing past i ≡ Some x → number_cancelled r ≡ Some x.number
      → settles r ≡ false → opens r ≡ false → SyncBegins past r i
  unbooked : unstarted_queueing past i ≡ None → settles r ≡ true → due_in r ≡ None → opens r ≡ false
      → SyncBegins past r i
  was_idle : is_pending past i ≡ false → settles r ≡ false → SyncBegins past r i

sync_begins : (s : Layout) (past : List Entry) (who : Who) (c : Call) (r : Reply) (i : ℕ) → Cause s past who c r
    → cancels_sync i c ≡ true → gives_ticket r ≡ true → SyncBegins past r i
sync_begins s past who c r i (cause.sync_cancelled w j x free found) h k =
    took_back x (of_item (λ m. unstarted_queueing past m ≡ Some x) i j.0 h found) refl refl refl
sync_begins s past who c r i (cause.sync_unbooked w j free none was) h k =
    unbooked (of_item (λ m. unstarted_queueing past m ≡ None) i j.0 h none) refl refl refl
sync_begins s past who c r i (cause.sync_waits w j free none was) h k =
    was_idle (of_item (λ m. is_pending past m ≡ false) i j.0 h (ap₂ (λ b o. b || is_some o) was none)) refl
sync_begins s past who c r i other h k = cc

-- none is unstarted that was, none is opened, and the item isn't booked
none_after : (s : Layout) (past : List Entry) (e : Entry) (i : ℕ) → IsLegal s (e ∷ past)
    → count_by (waiting_now past e i) (still_open past) ≡ 0 → opens e.reply ≡ false → is_booked (e ∷ past) i ≡ false
    → is_pending (e ∷ past) i ≡ false
none_after s past e i legal zero quiet free =
    let none = ap (λ o. count_by (is_unstarted (e ∷ past) i) (option_to_list o)) (none_opened past e quiet) in
    let books = ap (λ b. count_by (is_unstarted (e ∷ past) i) (still_open (e ∷ past)) + cond b 1 0) free in
    pending_none (e ∷ past) i (omega (arith, unstarted_count s past e i legal))

-- the only one that was unstarted is cancelled
none_left : (s : Layout) (past : List Entry) (e : Entry) (i : ℕ) (x : Queueing) → IsLegal s past
    → unstarted_queueing past i ≡ Some x → takes_back x.number e ≡ true
    → count_by (waiting_now past e i) (still_open past) ≡ 0
none_left s past e i x legal found taken =
    count_by-filter (waiting_now past e i) (is_unstarted past i) (waiting_now past e i) (still_open past)
    (λ y. grind arith)
    ∙ ap (count_by (waiting_now past e i)) (one_unstarted s past i legal ∙ ap option_to_list found)
    ∙ count_by-none (waiting_now past e i) (x ∷ []) (grind arith, tt)

taken_back_idle : (s : Layout) (past : List Entry) (e : Entry) (i : ℕ) (x : Queueing) → IsLegal s (e ∷ past)
    → IsLegal s past → unstarted_queueing past i ≡ Some x → number_cancelled e.reply ≡ Some x.number
    → settles e.reply ≡ false → opens e.reply ≡ false → is_pending (e ∷ past) i ≡ false
taken_back_idle s past e i x legal before found number quiet shut =
    let taken = ap (λ o. is_at o x.number) number ∙ eq-eqb x.number x.number refl in
    none_after s past e i legal (none_left s past e i x before found taken) shut
    (ap is_some (booking_after past e i false (and_left _ _ quiet))
    ∙ false_from_ne_true _ (λ booked. let none = booked_or_unstarted s past i before booked in cc))

unbooked_idle : (s : Layout) (past : List Entry) (e : Entry) (i : ℕ) → IsLegal s (e ∷ past) → is_of_item i e ≡ true
    → unstarted_queueing past i ≡ None → settles e.reply ≡ true → due_in e.reply ≡ None → opens e.reply ≡ false
    → is_pending (e ∷ past) i ≡ false
unbooked_idle s past e i legal of none settled undue shut =
    none_after s past e i legal (omega (arith, waiting_was past e i, none_unstarted past i none)) shut
    (ap is_some (booking_after past e i true (and_from _ _ settled of)
    ∙ ap (option_and_then (booked_by e.call (length past))) undue))

cancels_item : (c : Call) (r : Reply) (i : ℕ) → cancels_sync i c ≡ true
    → is_at (option_or (item_called c) (item_fired r)) i ≡ true
cancels_item (call.CancelSync j) r i h = h
cancels_item c r i h = cc

begun_idle : (s : Layout) (past : List Entry) (e : Entry) (i : ℕ) → IsLegal s (e ∷ past) → IsLegal s past
    → cancels_sync i e.call ≡ true → gives_ticket e.reply ≡ true → is_pending (e ∷ past) i ≡ false
begun_idle s past e i legal before cancels gives =
    elim (sync_begins s past e.who e.call e.reply i (cause_of s past e legal) cancels gives) [
      | took_back x found number quiet shut ↦ taken_back_idle s past e i x legal before found number quiet shut
      | unbooked none settled undue shut ↦
          unbooked_idle s past e i legal (cancels_item e.call e.reply i cancels) none settled undue shut
      | was_idle idle quiet ↦ stays_idle s past e i legal (and_left _ _ quiet) idle
    ]

-- ---- what is being cancelled after an entry was so before, or the entry begins it

-- a ticket that is unended, of a call of some kind, was so before the entry, or the entry gives it
any_of_kept : (p q : Ticket → Bool) (ts : List Ticket) → list_any p (filter q ts) ≡ true → list_any p ts ≡ true
any_of_kept p q ts h = counted_any p ts (omega (arith, any_counted p (filter q ts) h, fewer_kept p q ts))

pub unended_kind : (s : Layout) (past : List Entry) (e : Entry) (p : Call → Bool) → IsLegal s (e ∷ past)
    → list_any (λ (t : Ticket). p t.call) (unended_tickets (e ∷ past)) ≡ true
    → (list_any (λ (t : Ticket). p t.call) (unended_tickets past) ≡ true)
    ⊎ ((p e.call ≡ true) × (gives_ticket e.reply ≡ true))
unended_kind s past e p legal h =
    ⊎_elim (λ old. inl (any_of_kept is (is_kept e) (unended_tickets past) old))
    (λ new. inr (given (gives_ticket e.reply) refl e.who new))
    (or_cases _ _
    (sym (ap (list_any is) (unended_go_on s past e legal)
    ∙ list_any-append is (filter (is_kept e) (unended_tickets past)) (option_to_list (ticket_in e (length past))))
    ∙ h))
  where
    is : Ticket → Bool
    is t = p t.call

    given : (b : Bool) → gives_ticket e.reply ≡ b → (who : Who)
        → list_any is (option_to_list (if b then ticket_for who e.call (length past) else None)) ≡ true
        → (p e.call ≡ true) × (gives_ticket e.reply ≡ true)
    given true gives (Caller c) h = (sym (or-false (p e.call)) ∙ h, gives)
    given b gives who h = grind arith

-- ---- so an item that is being cancelled isn't pending

pub cancelling_idle : (s : Layout) (past : List Entry) (i : ℕ) → IsLegal s past → is_cancelling past i ≡ true
    → is_pending past i ≡ false
unfolding IsLegal tickets
cancelling_idle s [] i legal h = cc
cancelling_idle s (e ∷ past) i legal h = elim (unended_kind s past e (cancels_sync i) legal h) [
  | inl held ↦ idle_goes_on s past e i legal held (cancelling_idle s past i legal.2 held)
  | inr begins ↦ begun_idle s past e i legal legal.2 begins.0 begins.1
]
