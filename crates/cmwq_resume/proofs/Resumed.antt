-- What a legal history leaves is had again, and then the calls are the same again.
use Rattle.cmwq_resume.specs.Common.{◌≡◌, ◌<◌, ◌≤◌, ◌+◌, ◌==◌, ◌&&◌, ◌++◌, ℕ, Bool, true, false, List, []}
use Rattle.cmwq_resume.specs.Common.{◌∷◌, length, map, filter, not, cond, refl, sym, ap, ap₂, ◌∙◌, arith}
use Rattle.cmwq_resume.specs.Common.{AllByRecursion, nat_le, if◌then◌else◌, map-append, filter-append, append-nil}
use Rattle.cmwq_resume.specs.Common.{nat_tests, All_map, All_each}
use Rattle.cmwq_resume.specs.Common.{all_mapped, filter_all, leb-true, range_with_len, Call, Entry, Queueing}
use Rattle.cmwq_resume.specs.Common.{Booking, Layout, CallerId, Caller, IsLegal, max_active, is_frozen, still_open}
use Rattle.cmwq_resume.specs.Common.{has_not_started, is_pending, is_cancelling, standing_bookings, now}
use Rattle.cmwq_resume.specs.Common.{first_width}
use Rattle.cmwq_model.specs.Prelude.{is_layout}
use Rattle.cmwq_model.specs.declared.call.Call.TheVariants as call
use Rattle.std.proofs.lemmas.List.Concat.{flat_map-cons}
use Rattle.cmwq_lemmas.proofs.Filters.{filter_none, filter_same}
use Rattle.cmwq_lemmas.proofs.Lists.{range_below}
use Rattle.cmwq_lemmas.proofs.Members.{In, all_in, any_in, filter_in, in_filter, in_range}
use Rattle.cmwq_resume.proofs.ByDue.{all_by_due, by_due_same, unnumbered_by_due}
use Rattle.cmwq_resume.specs.Resume.{by_due}
use Rattle.cmwq_resume.specs.Common.{is_gone, list_any, eq-eqb}
use Rattle.cmwq_resume.specs.Resume.{gone_calls, gone_queues}
use Rattle.cmwq_resume.specs.Plays.{is_number}
use Rattle.cmwq_resume.specs.Resume.{asked, left_at, is_broken_off, broken_off, waiting, kept, is_later, overdue}
use Rattle.cmwq_resume.specs.Resume.{due_call, freeze_calls, later_call, queue_call, tick_calls}
use Rattle.cmwq_resume.specs.Resume.{later, Resumes, resume_calls, plan_calls, widths_calls, widen}
use Rattle.cmwq_resume.specs.Plays.{played, AllSucceed, Leaves, ticks_of, due_at, due_after, unnumbered, ResumesPlay}
use Rattle.cmwq_resume.specs.Plays.{ResumedAreSteady}
use Rattle.cmwq_resume.proofs.Plays.{plans_play, map_twice, same_map}
use Rattle.cmwq_resume.proofs.Sound.{not_among, old_sound, some_left}

abbrev due_by : ℕ → Booking → Bool
due_by t b = nat_le b.due t

abbrev due_past : ℕ → Booking → Bool
due_past t b = not (nat_le b.due t)

-- of a booking the number does not count
left_unnumbered : (t : ℕ) (p : ℕ → Bool) (xs : List Booking)
    → map (left_at t) (filter (λ (b : Booking). p b.due) xs)
    ≡ map (left_at t) (filter (λ (b : Booking). p b.due) (map unnumbered xs))
left_unnumbered t p [] = refl
left_unnumbered t p (x ∷ xs) = at (p x.due) (left_unnumbered t p xs)
  where
    at : (b : Bool) → map (left_at t) (filter (λ (b : Booking). p b.due) xs)
        ≡ map (left_at t) (filter (λ (b : Booking). p b.due) (map unnumbered xs))
        → map (left_at t) (cond b (x ∷ filter (λ (b : Booking). p b.due) xs) (filter (λ (b : Booking). p b.due) xs))
        ≡ map (left_at t) (cond b (unnumbered x ∷ filter (λ (b : Booking). p b.due) (map unnumbered xs))
        (filter (λ (b : Booking). p b.due) (map unnumbered xs)))
    at true h = ap (λ ys. left_at t x ∷ ys) h
    at false h = h

filter_unnumbered : (p : ℕ → Bool) (xs : List Booking)
    → map unnumbered (filter (λ (b : Booking). p b.due) xs) ≡ filter (λ (b : Booking). p b.due) (map unnumbered xs)
filter_unnumbered p [] = refl
filter_unnumbered p (x ∷ xs) = at (p x.due) (filter_unnumbered p xs)
  where
    at : (b : Bool) → map unnumbered (filter (λ (b : Booking). p b.due) xs)
        ≡ filter (λ (b : Booking). p b.due) (map unnumbered xs)
        → map unnumbered (cond b (x ∷ filter (λ (b : Booking). p b.due) xs) (filter (λ (b : Booking). p b.due) xs))
        ≡ cond b (unnumbered x ∷ filter (λ (b : Booking). p b.due) (map unnumbered xs))
        (filter (λ (b : Booking). p b.due) (map unnumbered xs))
    at true h = ap (λ ys. unnumbered x ∷ ys) h
    at false h = h

due_unnumbered : (t : ℕ) (xs : List Booking)
    → map (left_at t) (by_due (filter (due_by t) xs)) ≡ map (left_at t) (by_due (filter (due_by t) (map unnumbered xs)))
due_unnumbered t xs =
    sym (map_twice unnumbered (left_at t) (by_due (filter (due_by t) xs)))
    ∙ ap (map (left_at t)) (sym (unnumbered_by_due (filter (due_by t) xs))
    ∙ ap by_due (filter_unnumbered (λ d. nat_le d t) xs))

-- ---- what is due, and what is not

abbrev zeroed : Booking → Booking
zeroed b = record b { due = 0; number = 0 }

due_all : (os : List Booking) → AllByRecursion (λ b. due_by (ticks_of os) b ≡ true) (map (due_at 1) os)
due_all [] = tt
due_all (o ∷ os) = (refl, all_mapped (due_at 1) (λ b. due_by 1 b ≡ true) os (All_each _ os (λ b. refl)))

later_none : (t : ℕ) (ls : List Booking) → AllByRecursion (λ (b : Booking). 0 < b.due) ls
    → AllByRecursion (λ b. due_by t b ≡ false) (map (due_after t) ls)
later_none t [] h = tt
later_none t (x ∷ xs) h = (not_due (t + x.due) t (omega (arith, h.0)), later_none t xs h.1)
  where
    not_due : (a b : ℕ) → b < a → nat_le a b ≡ false
    not_due a b less = grind (arith, nat_tests)

abbrev both_of : List Booking → List Booking → List Booking
both_of os ls = map (due_at 1) os ++ map (due_after (ticks_of os)) ls

ones_due : (os : List Booking) → AllByRecursion (λ (a : Booking). a.due ≡ 1) (map (due_at 1) os)
ones_due [] = tt
ones_due (o ∷ os) = (refl, ones_due os)

due_back : (os ls : List Booking) → AllByRecursion (λ (b : Booking). 0 < b.due) ls
    → map (left_at (ticks_of os)) (by_due (filter (due_by (ticks_of os)) (both_of os ls))) ≡ map zeroed os
due_back os ls some =
    ap (λ bs. map (left_at (ticks_of os)) (by_due bs))
    (filter-append (due_by (ticks_of os)) (map (due_at 1) os) (map (due_after (ticks_of os)) ls)
    ∙ ap₂ (λ xs ys. xs ++ ys) (filter_all (due_by (ticks_of os)) (map (due_at 1) os) (due_all os))
    (filter_none (due_by (ticks_of os)) (map (due_after (ticks_of os)) ls) (later_none (ticks_of os) ls some))
    ∙ append-nil (map (due_at 1) os))
    ∙ ap (map (left_at (ticks_of os))) (by_due_same 1 (map (due_at 1) os) (ones_due os)) ∙ zero os
  where
    zero : (os : List Booking) → map (left_at (ticks_of os)) (map (due_at 1) os) ≡ map zeroed os
    zero [] = refl
    zero (o ∷ os) = ap (λ ys. zeroed o ∷ ys) (map_twice (due_at 1) (left_at 1) os)

later_back : (os ls : List Booking) → AllByRecursion (λ (b : Booking). 0 < b.due) ls
    → map (left_at (ticks_of os)) (filter (due_past (ticks_of os)) (both_of os ls)) ≡ map unnumbered ls
later_back os ls some =
    ap (map (left_at (ticks_of os)))
    (filter-append (due_past (ticks_of os)) (map (due_at 1) os) (map (due_after (ticks_of os)) ls)
    ∙ ap₂ (λ xs ys. xs ++ ys)
    (filter_none (due_past (ticks_of os)) (map (due_at 1) os)
    (All_map (λ b. due_by (ticks_of os) b ≡ true) (λ b. due_past (ticks_of os) b ≡ false) (map (due_at 1) os)
    (λ b h. ap not h) (due_all os)))
    (filter_all (due_past (ticks_of os)) (map (due_after (ticks_of os)) ls)
    (All_map (λ b. due_by (ticks_of os) b ≡ false) (λ b. due_past (ticks_of os) b ≡ true)
    (map (due_after (ticks_of os)) ls) (λ b h. ap not h) (later_none (ticks_of os) ls some))))
    ∙ map_twice (due_after (ticks_of os)) (left_at (ticks_of os)) ls
    ∙ same_map (λ b. left_at (ticks_of os) (due_after (ticks_of os) b)) unnumbered ls
    (λ b. ap (λ d. record { item = b.item; place = b.place; due = d; number = 0 }) (omega arith))

zeroed_all : (n : ℕ) (xs : List Booking) → AllByRecursion (λ (b : Booking). b.due ≤ n) xs
    → map zeroed (map (left_at n) xs) ≡ map (left_at n) xs
zeroed_all n [] h = refl
zeroed_all n (x ∷ xs) h =
    let none : x.due ≤ n = h.0 in
    ap₂ (λ d ys. record { item = x.item; place = x.place; due = d; number = 0 } ∷ ys) (omega arith)
    (zeroed_all n xs h.1)

due_zeroed : (n : ℕ) (xs : List Booking)
    → map zeroed (map (left_at n) (by_due (filter (due_by n) xs))) ≡ map (left_at n) (by_due (filter (due_by n) xs))
due_zeroed n xs =
    zeroed_all n (by_due (filter (due_by n) xs))
    (all_by_due (λ (b : Booking). b.due ≤ n) (filter (due_by n) xs)
    (all_in (λ (b : Booking). b.due ≤ n) (filter (due_by n) xs)
    (λ b there. leb-true b.due n (in_filter (due_by n) xs b there).1)))

-- ---- the history of the calls

module _ (s : Layout) (c : CallerId) (again : ℕ → Bool) (old : List Entry) (ok : is_layout s ≡ true)
    (there : c.0 < s.callers) (legal : IsLegal s old) where
  abbrev new : List Entry
  new = played s (Caller c) [] (resume_calls s again old)

  went : AllSucceed s (Caller c) [] (resume_calls s again old)
      × Leaves s (max_active s old) (gone_queues s old) (is_frozen old) (kept again old) (overdue old) (later old) new
  went =
      plans_play s c (max_active s old) (gone_queues s old) (is_frozen old) (kept again old) (overdue old) (later old)
      there (old_sound s again old ok legal)

  left : Leaves s (max_active s old) (gone_queues s old) (is_frozen old) (kept again old) (overdue old) (later old) new
  left = went.1

  same_kept : map asked (kept again old) ≡ kept again old
  same_kept =
      map-append asked (broken_off again old) (waiting old)
      ∙ ap₂ (λ xs ys. xs ++ ys) (map_twice asked asked (filter (is_broken_off again old) (still_open old)))
      (map_twice asked asked (filter (has_not_started old) (still_open old)))

  same_overdue : overdue new ≡ overdue old
  same_overdue =
      due_unnumbered (now new) (standing_bookings new)
      ∙ ap₂ (λ t bs. map (left_at t) (by_due (filter (due_by t) bs))) left.time left.booked
      ∙ due_back (overdue old) (later old) (some_left old)
      ∙ due_zeroed (now old) (standing_bookings old)

  same_later : later new ≡ later old
  same_later =
      left_unnumbered (now new) (λ d. not (nat_le d (now new))) (standing_bookings new)
      ∙ ap₂ (λ t bs. map (left_at t) (filter (due_past t) bs)) left.time left.booked
      ∙ later_back (overdue old) (later old) (some_left old)
      ∙ map_twice (left_at (now old)) unnumbered (filter (is_later old) (standing_bookings old))

  among : (q : ℕ) (qs : List ℕ) → In q qs → list_any (is_number q) (filter (is_gone old) qs) ≡ is_gone old q
  among q qs there = at (is_gone old q) refl
    where
      at : (b : Bool) → is_gone old q ≡ b → list_any (is_number q) (filter (is_gone old) qs) ≡ is_gone old q
      at true h =
          any_in (is_number q) (filter (is_gone old) qs) q (filter_in (is_gone old) qs q there h) (eq-eqb q q refl)
          ∙ sym h
      at false h = not_among (is_gone old) q qs h ∙ sym h

  pub resumed : AllSucceed s (Caller c) [] (resume_calls s again old) × IsLegal s new × Resumes s again old new
  resumed = (
    went.0,
    left.legal,
    record {
      widths = left.widths;
      frozen = left.frozen;
      gone =
          λ q less. left.gone q ∙ among q (range_with_len 0 (length s.queues))
          (in_range 0 (length s.queues) q (omega arith) (omega arith));
      queued = left.queued ∙ same_kept;
      overdue = same_overdue;
      later = same_later;
      none_started = left.none_started;
      no_tickets = left.no_tickets;
    },
  )

pub resumes_play : ResumesPlay
resumes_play s c again old ok there legal = resumed s c again old ok there legal

-- ---- after that the calls are the same

same_widths : (s : Layout) (v w : ℕ → ℕ) (qs : List ℕ) → ((q : ℕ) → v q ≡ w q)
    → widths_calls s v qs ≡ widths_calls s w qs
same_widths s v w [] same = refl
same_widths s v w (q ∷ qs) same =
    flat_map-cons (widen s v) q qs
    ∙ ap₂ (λ xs ys. xs ++ ys)
    (ap (λ n. if n == first_width s q then [] else call.SetMax (record { 0 = q }) n ∷ []) (same q))
    (same_widths s v w qs same)
    ∙ sym (flat_map-cons (widen s w) q qs)

pub kept_again : (s : Layout) (again : ℕ → Bool) (old new : List Entry) → Resumes s again old new
    → kept again new ≡ kept again old
kept_again s again old new h =
    ap₂ (λ xs ys. map asked xs ++ map asked ys)
    (filter_none (is_broken_off again new) (still_open new)
    (All_each (λ x. is_broken_off again new x ≡ false) (still_open new)
    (λ x. ap (λ b. b && (not (is_pending new x.item.0) && (not (is_cancelling new x.item.0) && again x.item.0)))
    (h.none_started x.number))))
    (filter_all (has_not_started new) (still_open new)
    (All_each (λ x. has_not_started new x ≡ true) (still_open new) (λ x. ap not (h.none_started x.number))))
    ∙ h.queued

same_queues : (s : Layout) (again : ℕ → Bool) (old new : List Entry) → Resumes s again old new
    → gone_queues s new ≡ gone_queues s old
same_queues s again old new h =
    filter_same (is_gone new) (is_gone old) (range_with_len 0 (length s.queues))
    (All_map (λ q. q < 0 + length s.queues) (λ q. is_gone new q ≡ is_gone old q) (range_with_len 0 (length s.queues))
    (λ q less. h.gone q (omega arith)) (range_below 0 (length s.queues)))

abbrev rest_calls : List Call → List ℕ → Bool → List Queueing → List Booking → List Booking → List Call
rest_calls ws gs f ks os ls =
    ws ++ (gone_calls (length ws) gs ++ (freeze_calls f
    ++ (map queue_call ks ++ (map due_call os ++ (tick_calls os ++ map later_call ls)))))

pub resumed_are_steady : ResumedAreSteady
resumed_are_steady s again old new h =
    ap₂ (λ ws gs. rest_calls ws gs (is_frozen new) (kept again new) (overdue new) (later new))
    (same_widths s (max_active s new) (max_active s old) (range_with_len 0 (length s.queues)) h.widths)
    (same_queues s again old new h)
    ∙ ap₂ (λ f ks. plan_calls s (max_active s old) (gone_queues s old) f ks (overdue new) (later new)) h.frozen
    (kept_again s again old new h)
    ∙ ap₂ (λ os ls. plan_calls s (max_active s old) (gone_queues s old) (is_frozen old) (kept again old) os ls)
    h.overdue h.later
