-- An item has one unstarted queueing at most, and none while it is booked.
use Rattle.cmwq_theory_steps.specs.Common.{Place, item_of, place_called, ◌≡◌, ◌==◌, ◌≤◌, ◌+◌, ℕ, Bool, true, false}
use Rattle.cmwq_theory_steps.specs.Common.{cond, ◌&&◌, List, [], ◌∷◌, length, filter, count_by, Option, Some, None}
use Rattle.cmwq_theory_steps.specs.Common.{option_to_list, refl, sym, ap, ◌∙◌, subst, arith, option_and_then, is_some}
use Rattle.cmwq_theory_steps.specs.Common.{option_or, eqb-true, inl, inr, eqb_tells, Who, Call, Reply, Entry, Queueing}
use Rattle.cmwq_theory_steps.specs.Common.{Layout, is_at, item_called, item_fired, is_of_item, settles, due_in, booking}
use Rattle.cmwq_theory_steps.specs.Common.{booking_of, booked_by, is_booked, replaces, still_open, opening, opens}
use Rattle.cmwq_theory_steps.specs.Common.{queueings, is_unstarted, unstarted_queueing, is_pending, IsLegal, All_each}
use Rattle.cmwq_theory_steps.specs.Common.{count_by-cons, count_by-none, count_by-filter, find_none}
use Rattle.cmwq_model.specs.declared.reply.Reply.TheVariants as reply
use Rattle.cmwq_theory_steps.specs.Endings.{survives}
use Rattle.std.proofs.lemmas.Bool.{and_parts}
use Rattle.cmwq_lemmas.proofs.Lists.{count_append}
use Rattle.cmwq_lemmas.proofs.Filters.{count_by-wider, count_none, none_found, filter_one}
use Rattle.cmwq_theory_steps.proofs.Entries.{opening_item}
use Rattle.cmwq_theory_steps.proofs.Endings.{open_go_on}
use Rattle.cmwq_theory_steps.proofs.Standing.{booking_after, due_own}
use Rattle.cmwq_theory_steps.proofs.Causes.{Cause, IsFree, cause_of}
use Rattle.cmwq_theory_steps.proofs.Causes as cause

-- ---- what an entry settles of an item

-- what an entry settles is asked for where the item is free, or was booked
pub data Settling (past : List Entry) (who : Who) (c : Call) (r : Reply) : Type 0 where
  of_call : (i t : ℕ) (p : Place) → item_called c ≡ Some i → place_called c ≡ Some p → IsFree past who i p.queue.0 t
      → is_pending past i ≡ replaces r → (t == 0) ≡ opens r → Settling past who c r
  of_booking : (i : ℕ) → option_or (item_called c) (item_fired r) ≡ Some i → place_called c ≡ None
      → is_booked past i ≡ true → due_in r ≡ None → Settling past who c r

pub of_item : (P : ℕ → Type 0) (i j : ℕ) → (j == i) ≡ true → P j → P i
of_item P i j h p = subst P (eqb-true j i h) p

pub settling : (s : Layout) (past : List Entry) (who : Who) (c : Call) (r : Reply) → Cause s past who c r
    → settles r ≡ true → Settling past who c r
settling s past who c r (cause.queued w i q d free none) h =
    of_call i.0 0 (record { queue = q; cpu = d }) refl refl free none refl
settling s past who c r (cause.delayed_by_none w i q d t zero free none) h =
    of_call i.0 t (record { queue = q; cpu = d }) refl refl free none zero
settling s past who c r (cause.delayed w i q d t some free none) h =
    of_call i.0 t (record { queue = q; cpu = d }) refl refl free none some
settling s past who c r (cause.modified_idle w i q d t zero free none) h =
    of_call i.0 t (record { queue = q; cpu = d }) refl refl free none zero
settling s past who c r (cause.modified_again w i q d t zero free was) h =
    of_call i.0 t (record { queue = q; cpu = d }) refl refl free was zero
settling s past who c r (cause.modified_booked w i q d t some free none) h =
    of_call i.0 t (record { queue = q; cpu = d }) refl refl free none some
settling s past who c r (cause.modified_rebooked w i q d t some free was) h =
    of_call i.0 t (record { queue = q; cpu = d }) refl refl free was some
settling s past who c r (cause.unbooked w i none was) h = of_booking i.0 refl refl was refl
settling s past who c r (cause.fires w b due) h = of_booking b.item.0 refl refl (ap is_some (due_own past b due)) refl
settling s past who c r (cause.delayed_queued w i free shut was) h = of_booking i.0 refl refl was refl
settling s past who c r (cause.sync_unbooked w i free none was) h = of_booking i.0 refl refl was refl
settling s past who c r other h = cc

pub own_item : (i j : ℕ) (e : Entry) → item_of e ≡ Some j → is_of_item i e ≡ true → j ≡ i
own_item i j e is h = eqb-true j i (sym (ap (λ o. is_at o i) is) ∙ h)

pub opens_settles : (r : Reply) → opens r ≡ true → settles r ≡ true
opens_settles (reply.Yes k) h = refl
opens_settles r h = grind arith

pub opens_undue : (r : Reply) → opens r ≡ true → due_in r ≡ None
opens_undue (reply.Yes k) h = refl
opens_undue r h = grind arith

pub opening_opens : (past : List Entry) (e : Entry) (x : Queueing) → opening past e ≡ Some x → opens e.reply ≡ true
opening_opens past e x h = grind arith

-- ---- how many are unstarted, of those that were open and of what is opened

abbrev pub waiting_now : List Entry → Entry → ℕ → Queueing → Bool
waiting_now past e i x = survives past e x && is_unstarted (e ∷ past) i x

pub unstarted_count : (s : Layout) (past : List Entry) (e : Entry) (i : ℕ) → IsLegal s (e ∷ past)
    → count_by (is_unstarted (e ∷ past) i) (still_open (e ∷ past))
    ≡ count_by (waiting_now past e i) (still_open past) + count_by (is_unstarted (e ∷ past) i)
    (option_to_list (opening past e))
unstarted_count s past e i legal =
    ap (count_by (is_unstarted (e ∷ past) i)) (open_go_on s past e legal)
    ∙ count_append (is_unstarted (e ∷ past) i) (filter (survives past e) (still_open past))
    (option_to_list (opening past e))
    ∙ ap (λ n. n + count_by (is_unstarted (e ∷ past) i) (option_to_list (opening past e)))
    (sym (count_by-filter (waiting_now past e i) (survives past e) (is_unstarted (e ∷ past) i) (still_open past)
    (λ x. refl)))

pub waiting_was : (past : List Entry) (e : Entry) (i : ℕ)
    → count_by (waiting_now past e i) (still_open past) ≤ count_by (is_unstarted past i) (still_open past)
waiting_was past e i =
    count_by-wider (waiting_now past e i) (is_unstarted past i) (still_open past)
    (All_each _ (still_open past) (λ x h. grind arith))

pub none_unstarted : (past : List Entry) (i : ℕ) → unstarted_queueing past i ≡ None
    → count_by (is_unstarted past i) (still_open past) ≡ 0
none_unstarted past i h =
    count_by-none (is_unstarted past i) (still_open past) (find_none (is_unstarted past i) (still_open past) h)

none_anew : (past : List Entry) (e : Entry) (i : ℕ) → replaces e.reply ≡ true → is_of_item i e ≡ true
    → count_by (waiting_now past e i) (still_open past) ≡ 0
none_anew past e i replacing is =
    count_by-none (waiting_now past e i) (still_open past) (All_each _ (still_open past) none)
  where
    none : (x : Queueing) → waiting_now past e i x ≡ false
    none x = elim (eqb_tells x.item.0 i) [
      | inl same ↦ let its : is_of_item x.item.0 e ≡ true = subst (λ j. is_of_item j e ≡ true) (sym same.1) is in
          grind arith
      | inr other ↦ let its : (x.item.0 == i) ≡ false = other.0 in grind arith
    ]

pub not_idle : (past : List Entry) (i : ℕ) → is_pending past i ≡ false → unstarted_queueing past i ≡ None
not_idle past i h = grind arith

-- ---- no more than one is pending

abbrev pub pending_count : List Entry → ℕ → ℕ
pending_count past i = count_by (is_unstarted past i) (still_open past) + cond (is_booked past i) 1 0

none_waiting : (s : Layout) (past : List Entry) (e : Entry) (i : ℕ) → is_of_item i e ≡ true → pending_count past i ≤ 1
    → Settling past e.who e.call e.reply → count_by (waiting_now past e i) (still_open past) ≡ 0
none_waiting s past e i is few (of_call j t p item place free pending opening) =
    let own = ap (is_pending past) (sym (own_item i j e (ap (λ o. option_or o (item_fired e.reply)) item) is))
    ∙ pending in
    grind (arith, waiting_was past e i, none_unstarted past i, not_idle past i, none_anew past e i)
none_waiting s past e i is few (of_booking j item place was due) =
    let own = ap (is_booked past) (sym (own_item i j e item is)) ∙ was in
    grind (arith, waiting_was past e i)

-- what is opened isn't booked
opened_or_booked : (past : List Entry) (e : Entry) (i : ℕ) (o : Option Queueing) → opening past e ≡ o
    → count_by (is_unstarted (e ∷ past) i) (option_to_list o) + cond (is_some (booking_of e (length past))) 1 0 ≤ 1
opened_or_booked past e i None h = grind arith
opened_or_booked past e i (Some x) h =
    let none : booking_of e (length past) ≡ None =
    ap (option_and_then (booked_by e.call (length past))) (opens_undue e.reply (opening_opens past e x h)) in
    grind (arith, count_by-cons (is_unstarted (e ∷ past) i) x [])

-- what is opened is of the item that is settled
opened_elsewhere : (past : List Entry) (e : Entry) (i : ℕ) (o : Option Queueing) → opening past e ≡ o
    → (settles e.reply && is_of_item i e) ≡ false → count_by (is_unstarted (e ∷ past) i) (option_to_list o) ≡ 0
opened_elsewhere past e i None h other = refl
opened_elsewhere past e i (Some x) h other =
    let settled = opens_settles e.reply (opening_opens past e x h) in
    let item : is_of_item i e ≡ (x.item.0 == i) = ap (λ o. is_at o i) (opening_item e past x h) in
    count_by-none (is_unstarted (e ∷ past) i) (x ∷ []) (grind arith, tt)

-- an entry that doesn't settle the item makes no more of it pending
pub no_more_pending : (s : Layout) (past : List Entry) (e : Entry) (i : ℕ) → IsLegal s (e ∷ past)
    → (settles e.reply && is_of_item i e) ≡ false → pending_count (e ∷ past) i ≤ pending_count past i
no_more_pending s past e i legal other =
    subst (λ b. count_by (is_unstarted (e ∷ past) i) (still_open (e ∷ past)) + cond b 1 0 ≤ pending_count past i)
    (sym (ap is_some (booking_after past e i false other)))
    (omega (
      arith,
      waiting_was past e i,
      opened_elsewhere past e i (opening past e) refl other,
      unstarted_count s past e i legal,
    ))

pub few_pending : (s : Layout) (past : List Entry) (i : ℕ) → IsLegal s past → pending_count past i ≤ 1
unfolding IsLegal booking queueings
few_pending s [] i legal = omega arith
few_pending s (e ∷ past) i legal = at (settles e.reply && is_of_item i e) refl (few_pending s past i legal.2)
  where
    at : (b : Bool) → (settles e.reply && is_of_item i e) ≡ b → pending_count past i ≤ 1
        → pending_count (e ∷ past) i ≤ 1
    at true both few =
        let k = and_parts (settles e.reply) (is_of_item i e) both in
        let zero =
        none_waiting s past e i k.1 few (settling s past e.who e.call e.reply (cause_of s past e legal) k.0) in
        subst (λ b. count_by (is_unstarted (e ∷ past) i) (still_open (e ∷ past)) + cond b 1 0 ≤ 1)
        (sym (ap is_some (booking_after past e i true both)))
        (omega (arith, opened_or_booked past e i (opening past e) refl, unstarted_count s past e i legal))
    at false other few = omega (arith, no_more_pending s past e i legal other)

pub booked_or_unstarted : (s : Layout) (past : List Entry) (i : ℕ) → IsLegal s past → is_booked past i ≡ true
    → unstarted_queueing past i ≡ None
booked_or_unstarted s past i legal was =
    none_found (is_unstarted past i) (still_open past)
    (count_none (is_unstarted past i) (still_open past) (grind (arith, few_pending s past i legal)))

pub one_unstarted : (s : Layout) (past : List Entry) (i : ℕ) → IsLegal s past
    → filter (is_unstarted past i) (still_open past) ≡ option_to_list (unstarted_queueing past i)
one_unstarted s past i legal =
    filter_one (is_unstarted past i) (still_open past) (let few = few_pending s past i legal in omega arith)
