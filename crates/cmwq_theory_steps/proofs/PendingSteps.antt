-- Which items are pending, and which run, after one more entry.
use Rattle.cmwq_theory_steps.specs.Common.{arith, ◌≡◌, ◌+◌, ◌==◌, ℕ, Bool, true, false, cond, not, ◌&&◌, ◌||◌, List}
use Rattle.cmwq_theory_steps.specs.Common.{◌∷◌, length, Option, Some, None, refl, sym, ap, ap₂, ◌∙◌, subst, option_map}
use Rattle.cmwq_theory_steps.specs.Common.{option_and_then, is_some, if◌then◌else◌, option_or, option_map_or, eq-eqb}
use Rattle.cmwq_theory_steps.specs.Common.{eqb-true, Reply, Entry, Queueing, Start, Layout, is_at, item_fired, item_of}
use Rattle.cmwq_theory_steps.specs.Common.{item_at, is_of_item, settles, due_in, booking_of, booked_by, is_booked}
use Rattle.cmwq_theory_steps.specs.Common.{number_started, number_finished, number_cancelled, starts, finishes}
use Rattle.cmwq_theory_steps.specs.Common.{takes_back, replaces, is_started, start_in, starts_item, item_run, item_runs}
use Rattle.cmwq_theory_steps.specs.Common.{opens, opening, unstarted_queueing, is_pending, queued_at, place_wanted}
use Rattle.cmwq_theory_steps.specs.Common.{IsLegal, bits, worker_of}
use Rattle.cmwq_model.specs.declared.reply.Reply.TheVariants as reply
use Rattle.cmwq_theory_steps.specs.Reasons.{TakesBack, unbooks}
use Rattle.cmwq_theory_steps.specs.RunSteps.{ends_run}
use Rattle.cmwq_theory_steps.specs.ItemQueueings.{still_unstarted, of_item}
use Rattle.cmwq_theory_steps.specs.Queued.{is_settled, makes_pending, is_taken_back, pending_after, runs_after}
use Rattle.cmwq_theory_steps.proofs.Entries.{is_at-true, opening_item}
use Rattle.cmwq_theory_steps.proofs.Standing.{booking_after}
use Rattle.cmwq_theory_steps.proofs.Causes.{cause_of}
use Rattle.cmwq_theory_steps.proofs.Reasons.{unbook_reason}
use Rattle.cmwq_theory_steps.proofs.Fresh.{finishes_run, takes_back_unstarted, unstarted_is}
use Rattle.cmwq_theory_steps.proofs.ItemRuns.{run_is}
use Rattle.cmwq_theory_steps.proofs.RunSteps.{last_started}
use Rattle.cmwq_theory_steps.proofs.ItemSteps.{none_started, starts_of, starts_some, items_run_on}
use Rattle.cmwq_theory_steps.proofs.Pending.{own_item, opening_opens, opens_settles, booked_or_unstarted}
use Rattle.cmwq_theory_steps.proofs.Pools.{started_was}
use Rattle.cmwq_theory_steps.proofs.StateSteps.{opens_as_asked, books_as_asked}
use Rattle.cmwq_theory_steps.proofs.Unstarted.{unstarted_goes_on}
use Rattle.cmwq_theory_steps.proofs.EndsAsTold.{same_by_number}
use Rattle.cmwq_theory_steps.proofs.Starts.{starts_next}
use Rattle.cmwq_lemmas.proofs.Truth.{same_bools}
use Rattle.std.proofs.lemmas.Bool.{and_parts, both_ways, false_from_ne_true}
use Rattle.std.proofs.lemmas.Option.{same_Some}
use Rattle.cmwq_theory_steps.proofs.Ended.{found_unstarted}

-- the test of a number is true where the numbers are the same, and false where that can't be
told_apart : (n m : ℕ) (b : Bool) → (b ≡ true → n ≡ m) → (n ≡ m → b ≡ true) → (n == m) ≡ b
told_apart n m b same back = same_bools (n == m) b (λ h. back (eqb-true n m h)) (λ h. eq-eqb n m (same h))

-- ---- where the entry settles the item

unbooked_else : (r : Reply) → settles r ≡ true → opens r ≡ false → due_in r ≡ None → unbooks r ≡ true
unbooked_else reply.Unbooked h o d = refl
unbooked_else r h o d = grind arith

opened_own : (s : Layout) (past : List Entry) (e : Entry) (i : ℕ) → IsLegal s (e ∷ past) → opens e.reply ≡ true
    → is_of_item i e ≡ true → is_some (of_item i (opening past e)) ≡ true
opened_own s past e i legal h own =
    let o = opens_as_asked s past e legal h in
    ap (λ x. is_some (of_item i x)) o.opened ∙ ap (λ b. is_some (cond b (Some (queued_at past o.item o.place)) None))
    (eq-eqb o.item i (own_item i o.item e o.is_item own))

pub none_opened : (past : List Entry) (e : Entry) → opens e.reply ≡ false → opening past e ≡ None
none_opened past e h =
    ap (λ b. if b then option_and_then (λ i. option_map (queued_at past i) (place_wanted past e.call i)) (item_of e)
    else None) h

settled_pending : (s : Layout) (past : List Entry) (e : Entry) (i : ℕ) → IsLegal s (e ∷ past) → settles e.reply ≡ true
    → is_of_item i e ≡ true → is_pending (e ∷ past) i ≡ makes_pending e.reply
settled_pending s past e i legal settled own =
    ap₂ (λ a b. is_some a || is_some b) (booking_after past e i true (ap₂ (λ a b. a && b) settled own))
    (unstarted_goes_on s past e i legal) ∙ at (opens e.reply) (due_in e.reply) refl refl
  where
    at : (o : Bool) (d : Option ℕ) → opens e.reply ≡ o → due_in e.reply ≡ d
        → (is_some (booking_of e (length past))
        || is_some (option_or (still_unstarted past e (unstarted_queueing past i)) (of_item i (opening past e))))
        ≡ (o || is_some d)
    at true d ho hd = grind (arith, opened_own s past e i legal ho own)
    at false (Some d) ho hd = let b = books_as_asked s past e d legal hd in
        ap (λ o. is_some o
        || is_some (option_or (still_unstarted past e (unstarted_queueing past i)) (of_item i (opening past e))))
        b.books
    at false None ho hd =
        let u = unbook_reason s past e.who e.call e.reply (cause_of s past e legal)
        (unbooked_else e.reply settled ho hd) in
        let mine : u.0 ≡ i = own_item i u.0 e (ap (λ o. option_or o (item_fired e.reply)) u.1) own in
        let none : unstarted_queueing past i ≡ None = subst (λ j. unstarted_queueing past j ≡ None) mine u.3 in
        ap₂ (λ a b. is_some a || b) (ap (option_and_then (booked_by e.call (length past))) hd)
        (ap₂ (λ a b. is_some (option_or (still_unstarted past e a) (of_item i b))) none (none_opened past e ho))

-- ---- where it doesn't

opened_other : (past : List Entry) (e : Entry) (i : ℕ) (o : Option Queueing) → is_settled e i ≡ false
    → opening past e ≡ o → of_item i o ≡ None
opened_other past e i None other h = refl
opened_other past e i (Some x) other h =
    let settled = opens_settles e.reply (opening_opens past e x h) in
    let item : is_of_item i e ≡ (x.item.0 == i) = ap (λ o. is_at o i) (opening_item e past x h) in
    let no : (x.item.0 == i) ≡ false = sym (ap₂ (λ a b. a && b) settled item) ∙ other in
    ap (λ b. cond b (Some x) None) no

pub not_finished : (s : Layout) (past : List Entry) (e : Entry) (n : ℕ) → IsLegal s (e ∷ past)
    → is_started past n ≡ false → finishes n e ≡ false
not_finished s past e n legal new = false_from_ne_true _ (λ ends.
    let f = finishes_run s past e n legal (is_at-true (number_finished e.reply) n ends) in
    both_ways _ new (last_started past f.worker n (run_is past f.worker n f.is_run).last))

replacing_settles : (r : Reply) → replaces r ≡ true → settles r ≡ true
replacing_settles (reply.Again k) h = refl
replacing_settles r h = grind arith

taken_back_is : (s : Layout) (past : List Entry) (e : Entry) (i : ℕ) (x : Queueing) → IsLegal s (e ∷ past)
    → unstarted_queueing past i ≡ Some x → takes_back x.number e ≡ is_taken_back e i
taken_back_is s past e i x legal u = at (number_cancelled e.reply) refl
  where
    at : (o : Option ℕ) → number_cancelled e.reply ≡ o → is_at o x.number ≡ (is_some o && is_of_item i e)
    at None h = refl
    at (Some n) h = told_apart n x.number (is_of_item i e) same back
      where
        t : TakesBack past e.call n
        t = takes_back_unstarted s past e n legal h

        item : item_of e ≡ Some t.item
        item = ap (λ o. option_or o (item_fired e.reply)) t.is_item

        same : is_of_item i e ≡ true → n ≡ x.number
        same own =
            let mine = own_item i t.item e item own in
            let one = same_Some t.queueing x (sym t.is_unstarted ∙ ap (unstarted_queueing past) mine ∙ u) in
            sym t.number ∙ ap (λ (y : Queueing). y.number) one

        back : n ≡ x.number → is_of_item i e ≡ true
        back number =
            let one =
            same_by_number past t.queueing x (found_unstarted past t.item t.queueing t.is_unstarted)
            (found_unstarted past i x u) (t.number ∙ number) in
            let mine : t.item ≡ i = sym (unstarted_is past t.item t.queueing t.is_unstarted).item
            ∙ ap (λ (y : Queueing). y.item.0) one ∙ (unstarted_is past i x u).item in
            ap (λ o. is_at o i) item ∙ eq-eqb t.item i mine

starts_is : (s : Layout) (past : List Entry) (e : Entry) (i : ℕ) (x : Queueing) → IsLegal s (e ∷ past)
    → unstarted_queueing past i ≡ Some x → starts x.number e ≡ starts_item past e i
starts_is s past e i x legal u = at (number_started e.reply) refl
  where
    at : (o : Option ℕ) → number_started e.reply ≡ o
        → is_at o x.number ≡ option_map_or (λ (start : Start). is_at (item_at past start.number) i)
        (option_and_then (λ w. option_map (λ n. record { worker = w; number = n }) o) (worker_of e.who)) false
    at None h = sym (none_started e.who past i None refl)
    at (Some n) h =
        let st = starts_next s past e n legal h in
        told_apart n x.number (is_at (item_at past n) i) same back
        ∙ sym (ap
        (λ who. option_map_or (λ (start : Start). is_at (item_at past start.number) i)
        (option_and_then (λ w. option_map (λ m. record { worker = w; number = m }) (Some n)) (worker_of who)) false)
        st.by_worker)
      where
        same : is_at (item_at past n) i ≡ true → n ≡ x.number
        same h2 =
            let was = started_was s past e i n legal h (is_at-true (item_at past n) i h2) in
            sym was.2 ∙ ap (λ (y : Queueing). y.number) (same_Some was.0 x (sym was.1 ∙ u))

        back : n ≡ x.number → is_at (item_at past n) i ≡ true
        back number =
            let w = unstarted_is past i x u in
            ap (λ o. is_at o i) (ap (item_at past) number ∙ w.known.item) ∙ eq-eqb x.item.0 i w.item

other_pending : (s : Layout) (past : List Entry) (e : Entry) (i : ℕ) → IsLegal s (e ∷ past) → is_settled e i ≡ false
    → is_pending (e ∷ past) i ≡ (is_pending past i && not (starts_item past e i) && not (is_taken_back e i))
unfolding IsLegal
other_pending s past e i legal other =
    ap₂ (λ a b. a || b) (ap is_some (booking_after past e i false other))
    (ap is_some
    (unstarted_goes_on s past e i legal
    ∙ ap (option_or (still_unstarted past e (unstarted_queueing past i)))
    (opened_other past e i (opening past e) other refl)))
    ∙ at (unstarted_queueing past i) refl
  where
    left : (f t r st ti tb bk : Bool) (x : Queueing) → f ≡ false → (r ≡ true → ⊥) → t ≡ tb → st ≡ ti → (bk ≡ true → ⊥)
        → (bk || is_some (option_or (cond ((not f && not t && not r) && not st) (Some x) None) None))
        ≡ ((bk || true) && not ti && not tb)
    left f t r st ti tb bk x hf hr ht hs hb = grind arith

    not_begun : unstarted_queueing past i ≡ None → starts_item past e i ≡ false
    not_begun u = false_from_ne_true _ (λ h.
        let start = starts_some past e i (start_in e) refl h in
        let st = starts_of past e i start.0 h start.1 in
        let some = (started_was s past e i start.0.number legal st.number st.item).1 in cc)

    not_back : unstarted_queueing past i ≡ None → is_taken_back e i ≡ false
    not_back u = by (number_cancelled e.reply) refl
      where
        by : (o : Option ℕ) → number_cancelled e.reply ≡ o → (is_some o && is_of_item i e) ≡ false
        by None h = refl
        by (Some n) h = false_from_ne_true _ (λ own.
            let t = takes_back_unstarted s past e n legal h in
            let some =
            ap (unstarted_queueing past)
            (sym (own_item i t.item e (ap (λ o. option_or o (item_fired e.reply)) t.is_item) own))
            ∙ t.is_unstarted in cc)

    at : (o : Option Queueing) → unstarted_queueing past i ≡ o
        → (is_booked past i || is_some (option_or (still_unstarted past e o) None))
        ≡ ((is_booked past i || is_some o) && not (starts_item past e i) && not (is_taken_back e i))
    at None u = grind (arith, not_begun u, not_back u)
    at (Some x) u =
        let w = unstarted_is past i x u in
        left (finishes x.number e) (takes_back x.number e)
        (replaces e.reply && is_of_item x.item.0 e && not (is_started past x.number)) (starts x.number e)
        (starts_item past e i) (is_taken_back e i) (is_booked past i) x
        (not_finished s past e x.number legal w.not_started) (λ anew. let its = ap (λ j. is_of_item j e) w.item in
        grind (arith, replacing_settles e.reply)) (taken_back_is s past e i x legal u)
        (starts_is s past e i x legal u)
        (λ booked. let none = booked_or_unstarted s past i legal.2 booked in cc)

pub pending_goes_on : (s : Layout) (past : List Entry) (e : Entry) → IsLegal s (e ∷ past) → (i : ℕ)
    → is_pending (e ∷ past) i ≡ pending_after past e i
pending_goes_on s past e legal i = at (is_settled e i) refl
  where
    at : (b : Bool) → is_settled e i ≡ b
        → is_pending (e ∷ past) i
        ≡ (if b then makes_pending e.reply else is_pending past i && not (starts_item past e i)
        && not (is_taken_back e i))
    at true both = let k = and_parts (settles e.reply) (is_of_item i e) both in settled_pending s past e i legal k.0 k.1
    at false other = other_pending s past e i legal other

-- ---- runs, and bits

pub item_runs_go_on : (s : Layout) (past : List Entry) (e : Entry) → IsLegal s (e ∷ past) → (i : ℕ)
    → item_runs (e ∷ past) i ≡ runs_after past e i
item_runs_go_on s past e legal i = ap is_some (items_run_on s past e i legal) ∙ at (starts_item past e i) refl
  where
    at : (b : Bool) → starts_item past e i ≡ b
        → is_some (if b then start_in e else if ends_run e (item_run past i) then None else item_run past i)
        ≡ (b || (item_runs past i && not (ends_run e (item_run past i))))
    at true h = let start = starts_some past e i (start_in e) refl h in ap is_some start.1
    at false h = grind arith

pub bits_go_on : (s : Layout) (past : List Entry) (e : Entry) → IsLegal s (e ∷ past) → (i : ℕ)
    → bits (e ∷ past) i ≡ (if pending_after past e i then 1 else 0) + (if runs_after past e i then 2 else 0)
bits_go_on s past e legal i =
    ap₂ (λ a b. (if a then 1 else 0) + (if b then 2 else 0)) (pending_goes_on s past e legal i)
    (item_runs_go_on s past e legal i)
