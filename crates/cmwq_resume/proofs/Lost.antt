-- Nothing that was pending is lost, and no run that was broken off.
use Rattle.cmwq_resume.specs.Common.{◌≡◌, ◌&&◌, ◌||◌, ℕ, Bool, true, false, List, [], ◌∷◌, filter}
use Rattle.cmwq_resume.specs.Common.{Some, None, Option, not, refl, sym, ap, ap₂, ◌∙◌, subst, find}
use Rattle.cmwq_resume.specs.Common.{is_some, if◌then◌else◌, nat_lt, eq-eqb, both_ways, cond}
use Rattle.cmwq_resume.specs.Common.{inl, inr, Entry, Queueing, Booking, Layout, IsLegal, still_open, queueings}
use Rattle.cmwq_resume.specs.Common.{is_live, is_started, has_not_started, is_pending, is_booked, is_cancelling}
use Rattle.cmwq_resume.specs.Common.{is_unstarted, unstarted_queueing, standing_bookings, booking, now, item_run, Start}
use Rattle.cmwq_model.specs.Prelude.{item_runs, item_called, item_fired}
use Rattle.cmwq_model.specs.Prelude.{has_number}
use Rattle.cmwq_resume.specs.Common.{booked_by, booking_of, due_in, eqb-true, is_of_item, length, option_and_then}
use Rattle.cmwq_resume.specs.Common.{option_or}
use Rattle.cmwq_resume.specs.Common.{or_right, settles}
use Rattle.cmwq_theory_steps.proofs.ItemRuns.{item_run_started}
use Rattle.cmwq_theory_steps.proofs.ItemSteps.{start_is}
use Rattle.cmwq_theory_steps.proofs.Pending.{own_item}
use Rattle.cmwq_theory_steps.proofs.Standing.{made_for}
use Rattle.std.proofs.lemmas.Bool.{and_parts}
use Rattle.cmwq_lemmas.proofs.Members.{In, all_in, filter_in, found, in_filter, in_left, in_map, in_mapped, in_right}
use Rattle.cmwq_lemmas.proofs.Members.{of_in}
use Rattle.cmwq_theory_steps.proofs.Fresh.{unstarted_is}
use Rattle.cmwq_theory_steps.proofs.EndsAsTold.{runs_are_queueings}
use Rattle.cmwq_refinement.proofs.FirstDue.{in_standing, standing_is}
use Rattle.cmwq_resume.specs.Resume.{asked, left_at, is_broken_off, broken_off, waiting, kept, is_due, is_later}
use Rattle.cmwq_resume.specs.Resume.{by_due, put_by_due, Resumes}
use Rattle.cmwq_resume.specs.Plays.{NothingIsLost, ResumedLoseNothing}
use Rattle.cmwq_resume.proofs.ByDue.{all_by_due}

-- ---- where one is queued or booked, its item is pending

found_some : (p : Queueing → Bool) (xs : List Queueing) (x : Queueing) → In x xs → p x ≡ true
    → is_some (find p xs) ≡ true
found_some p [] x there h = absurd there
found_some p (y ∷ ys) x there h = at (p y) refl (λ rest. found_some p ys x rest h)
  where
    rest : p y ≡ false → In x ys
    rest other = elim there [
      | inl same ↦ absurd (both_ways _ other (ap p same ∙ h))
      | inr more ↦ more
    ]

    at : (b : Bool) → p y ≡ b → (In x ys → is_some (find p ys) ≡ true) → is_some (cond b (Some y) (find p ys)) ≡ true
    at true is on = refl
    at false is on = on (rest is)

queued_pending : (new : List Entry) (y : Queueing) → ((n : ℕ) → is_started new n ≡ false) → In y (still_open new)
    → is_pending new y.item.0 ≡ true
queued_pending new y none there =
    or_right (is_booked new y.item.0) (is_some (unstarted_queueing new y.item.0))
    (found_some (is_unstarted new y.item.0) (still_open new) y there
    (ap₂ (λ a b. a && not b) (eq-eqb y.item.0 y.item.0 refl) (none y.number)))

asked_pending : (s : Layout) (again : ℕ → Bool) (old new : List Entry) (x : Queueing) → Resumes s again old new
    → In (asked x) (kept again old) → is_pending new x.item.0 ≡ true
asked_pending s again old new x h there =
    let k = in_map asked (still_open new) (asked x) (subst (In (asked x)) (sym h.queued) there) in
    ap (λ (z : Queueing). is_pending new z.item.0) (sym k.2) ∙ queued_pending new k.0 h.none_started k.1

booked_pending : (new : List Entry) (b : Booking) → In b (standing_bookings new) → is_pending new b.item.0 ≡ true
booked_pending new b there =
    ap (λ o. is_some o || is_some (unstarted_queueing new b.item.0)) (standing_is new b there)

-- ---- bookings by due are those that there are

put_first_in : (b : Booking) (bs : List Booking) → In b (put_by_due b bs)
put_first_in b [] = inl refl
put_first_in b (a ∷ bs) = at (nat_lt a.due b.due) (put_first_in b bs)
  where
    at : (x : Bool) → In b (put_by_due b bs) → In b (if x then a ∷ put_by_due b bs else b ∷ a ∷ bs)
    at true rest = inr rest
    at false rest = inl refl

put_in : (z b : Booking) (bs : List Booking) → In z bs → In z (put_by_due b bs)
put_in z b [] there = absurd there
put_in z b (a ∷ bs) there = at (nat_lt a.due b.due) (put_in z b bs) there
  where
    at : (x : Bool) → (In z bs → In z (put_by_due b bs)) → In z (a ∷ bs)
        → In z (if x then a ∷ put_by_due b bs else b ∷ a ∷ bs)
    at true rest (inl same) = inl same
    at true rest (inr more) = inr (rest more)
    at false rest there = inr there

pub in_by_due : (z : Booking) (bs : List Booking) → In z bs → In z (by_due bs)
in_by_due z [] there = absurd there
in_by_due z (b ∷ bs) (inl same) = subst (λ y. In y (put_by_due b (by_due bs))) same (put_first_in b (by_due bs))
in_by_due z (b ∷ bs) (inr more) = put_in z b (by_due bs) (in_by_due z bs more)

pub of_by_due : (z : Booking) (bs : List Booking) → In z (by_due bs) → In z bs
of_by_due z bs there =
    of_in (λ y. In y bs) (by_due bs) z (all_by_due (λ y. In y bs) bs (all_in (λ y. In y bs) bs (λ y h. h))) there

-- ---- a booking of an item is of that item

pub booking_item : (past : List Entry) (i : ℕ) (b : Booking) → booking past i ≡ Some b → b.item.0 ≡ i
unfolding booking
booking_item [] i b h = cc
booking_item (e ∷ past) i b h = at (settles e.reply && is_of_item i e) refl h (booking_item past i b)
  where
    made : (o : Option ℕ) → option_and_then (booked_by e.call (length past)) o ≡ Some b
        → item_called e.call ≡ Some b.item.0
    made None h = cc
    made (Some d) h = (made_for e.call (length past) d b h).item

    at : (x : Bool) → (settles e.reply && is_of_item i e) ≡ x
        → (if x then booking_of e (length past) else booking past i) ≡ Some b
        → (booking past i ≡ Some b → b.item.0 ≡ i) → b.item.0 ≡ i
    at true is h earlier =
        own_item i b.item.0 e (ap (λ o. option_or o (item_fired e.reply)) (made (due_in e.reply) h))
        (and_parts (settles e.reply) (is_of_item i e) is).1
    at false is h earlier = earlier h

-- ---- nothing is lost

module _ (s : Layout) (again : ℕ → Bool) (old new : List Entry) (legal : IsLegal s old)
    (h : Resumes s again old new) where
  was_queued : (x : Queueing) → In x (still_open old) → has_not_started old x ≡ true → is_pending new x.item.0 ≡ true
  was_queued x there waits =
      asked_pending s again old new x h
      (in_right (broken_off again old) (waiting old) (asked x)
      (in_mapped asked (filter (has_not_started old) (still_open old)) x
      (filter_in (has_not_started old) (still_open old) x there waits)))

  is_overdue : (b : Booking) → In b (standing_bookings old) → is_due old b ≡ true → is_pending new b.item.0 ≡ true
  is_overdue b there due =
      let mine = in_mapped (left_at (now old)) (by_due (filter (is_due old) (standing_bookings old))) b
      (in_by_due b (filter (is_due old) (standing_bookings old)) (filter_in (is_due old) (standing_bookings old) b there
      due)) in
      let k = in_map (left_at (now new)) (by_due (filter (is_due new) (standing_bookings new))) (left_at (now old) b)
      (subst (In (left_at (now old) b)) (sym h.overdue) mine) in
      let there2 = in_filter (is_due new) (standing_bookings new) k.0
      (of_by_due k.0 (filter (is_due new) (standing_bookings new)) k.1) in
      ap (λ (a : Booking). is_pending new a.item.0) (sym k.2) ∙ booked_pending new k.0 there2.0

  is_for_later : (b : Booking) → In b (standing_bookings old) → is_later old b ≡ true → is_pending new b.item.0 ≡ true
  is_for_later b there due =
      let mine = in_mapped (left_at (now old)) (filter (is_later old) (standing_bookings old)) b
      (filter_in (is_later old) (standing_bookings old) b there due) in
      let k = in_map (left_at (now new)) (filter (is_later new) (standing_bookings new)) (left_at (now old) b)
      (subst (In (left_at (now old) b)) (sym h.later) mine) in
      ap (λ (a : Booking). is_pending new a.item.0) (sym k.2)
      ∙ booked_pending new k.0 (in_filter (is_later new) (standing_bookings new) k.0 k.1).0

  was_booked : (b : Booking) → In b (standing_bookings old) → is_pending new b.item.0 ≡ true
  was_booked b there = at (is_due old b) refl
    where
      at : (x : Bool) → is_due old b ≡ x → is_pending new b.item.0 ≡ true
      at true due = is_overdue b there due
      at false due = is_for_later b there (ap not due)

  was_pending : (i : ℕ) → is_pending old i ≡ true → is_pending new i ≡ true
  was_pending i pending = at (booking old i) (unstarted_queueing old i) refl refl
    where
      at : (o : Option Booking) (u : Option Queueing) → booking old i ≡ o → unstarted_queueing old i ≡ u
          → is_pending new i ≡ true
      at (Some b) u booked queued =
          let there = in_standing old i b booked in
          ap (is_pending new) (sym (booking_item old i b booked)) ∙ was_booked b there
      at None (Some x) booked queued =
          let w = unstarted_is old i x queued in
          ap (is_pending new) (sym w.item)
          ∙ was_queued x (found (is_unstarted old i) (still_open old) x queued).0 (ap not w.not_started)
      at None None booked queued =
          absurd (both_ways _ (ap₂ (λ a b. is_some a || is_some b) booked queued) pending)

  same_broken : (i : ℕ) (o : Option Start) → item_run old i ≡ o → is_some o ≡ true → is_cancelling old i ≡ false
      → again i ≡ true → is_pending old i ≡ false → is_pending new i ≡ true
  same_broken i None is h cancelling chosen idle = cc
  same_broken i (Some start) is some cancelling chosen idle =
      let run = runs_are_queueings s old legal i start is in
      let x = run.queueing in
      let here = found (has_number start.number) (queueings old) x run.found in
      let there = filter_in (is_live old) (queueings old) x here.0 run.live in
      let number : x.number ≡ start.number = eqb-true x.number start.number here.1 in
      let start_of = start_is s old i start legal (item_run_started old i start is) in
      let started = ap (is_started old) number ∙ start_of.started in
      let broken : is_broken_off again old x ≡ true =
      ap₂ (λ a b. a && b) started
      (ap₂ (λ a b. not a && b) (ap (is_pending old) run.item ∙ idle)
      (ap₂ (λ a b. not a && b) (ap (is_cancelling old) run.item ∙ cancelling) (ap again run.item ∙ chosen))) in
      ap (is_pending new) (sym run.item)
      ∙ asked_pending s again old new x h
      (in_left (broken_off again old) (waiting old) (asked x)
      (in_mapped asked (filter (is_broken_off again old) (still_open old)) x
      (filter_in (is_broken_off again old) (still_open old) x there broken)))

  pub nothing_is_lost : NothingIsLost again old new
  nothing_is_lost =
      record {
        pending = was_pending;
        broken = λ i runs cancelling chosen. at i runs cancelling chosen (is_pending old i) refl;
      }
    where
      at : (i : ℕ) → item_runs old i ≡ true → is_cancelling old i ≡ false → again i ≡ true → (x : Bool)
          → is_pending old i ≡ x → is_pending new i ≡ true
      at i runs cancelling chosen true pending = was_pending i pending
      at i runs cancelling chosen false idle = same_broken i (item_run old i) refl runs cancelling chosen idle

pub resumed_lose_nothing : ResumedLoseNothing
resumed_lose_nothing s again old new legal h = nothing_is_lost s again old new legal h
