-- What one more entry makes active: the first after the width where an active one ends, and what it opens where it is
-- below max_active.
use Rattle.cmwq_theory_steps.specs.Common.{option_map_or, ◌≡◌, ◌<◌, ◌≤◌, ◌+◌, ◌==◌, ℕ, Bool, true, false, cond, not}
use Rattle.cmwq_theory_steps.specs.Common.{◌&&◌, ◌||◌, List, [], ◌∷◌, ◌++◌, length, filter, count_by, Option, Some}
use Rattle.cmwq_theory_steps.specs.Common.{None, option_to_list, append-nil, nat_lt, refl, sym, ap, ap₂, ◌∙◌, subst}
use Rattle.cmwq_theory_steps.specs.Common.{arith, slice_get, if◌then◌else◌, AllByRecursion, ltb-true, ltb-false}
use Rattle.cmwq_theory_steps.specs.Common.{eqb-true, nat_tests, filter-append, sum_by-filter_both, Entry, Queueing}
use Rattle.cmwq_theory_steps.specs.Common.{Reply, Layout, number_finished, number_cancelled, replaces, width, queueings}
use Rattle.cmwq_theory_steps.specs.Common.{opens, opening, is_live, still_open, is_ahead, is_below_max_active}
use Rattle.cmwq_theory_steps.specs.Common.{is_active, newly_active, IsLegal, All_map, All_both, All_each, All_filter}
use Rattle.cmwq_theory_steps.specs.Common.{All_unfilter, count_by-cons}
use Rattle.cmwq_model.specs.Widths.{keeps_widths}
use Rattle.cmwq_theory_steps.proofs.Rising.{opening_number, open_below}
use Rattle.cmwq_theory_steps.proofs.Joined.{active_go_on}
use Rattle.cmwq_theory_steps.proofs.Widths.{width_same}
use Rattle.cmwq_model.specs.declared.reply.Reply.TheVariants as reply
use Rattle.cmwq_theory_steps.specs.Endings.{survives, is_ended, ending}
use Rattle.cmwq_theory_steps.specs.Activations.{waits, is_of_same_pwq, open_of_same_pwq, behind_width}
use Rattle.cmwq_theory_steps.specs.Activations.{is_below_max_active_at_once}
use Rattle.std.proofs.lemmas.Bool.{and_from, and_parts, both_ways, not-true, true_from_ne_false}
use Rattle.cmwq_lemmas.proofs.Lists.{count_append}
use Rattle.cmwq_lemmas.proofs.Truth.{and_false, and_true, same_bools}
use Rattle.cmwq_theory_steps.proofs.PendingSteps.{none_opened}
use Rattle.cmwq_lemmas.proofs.Filters.{filter_twice, filter_same, filter_none, count_by-same, count_by-wider}
use Rattle.cmwq_theory_steps.proofs.Ranks.{is_below, one_ranked}
use Rattle.cmwq_theory_steps.proofs.Active.{count_ahead, open_ranked, not_active_yet}
use Rattle.cmwq_theory_steps.proofs.Promoted.{newly_is, newly_of_open}
use Rattle.cmwq_theory_steps.proofs.Pending.{opening_opens}
use Rattle.cmwq_theory_steps.proofs.Endings.{opened_live, open_go_on}
use Rattle.cmwq_theory_steps.proofs.Ended.{one_ends}

-- ---- how many stand ahead, before the entry and after it

abbrev survivors_ahead : List Entry → Entry → Queueing → ℕ
survivors_ahead past e x = count_by (is_ahead x) (filter (survives past e) (still_open past))

ahead_before : (s : Layout) (past : List Entry) (e : Entry) (x : Queueing) → IsLegal s (e ∷ past)
    → count_by (is_ahead x) (still_open past)
    ≡ survivors_ahead past e x + count_by (is_ahead x) (option_to_list (ending past e))
ahead_before s past e x legal =
    sym (sum_by-filter_both (survives past e) (is_ended past e) (λ y. refl) (λ y. cond (is_ahead x y) 1 0)
    (still_open past))
    ∙ ap (λ ys. survivors_ahead past e x + count_by (is_ahead x) ys) (one_ends s past e legal)

none_ahead : (past : List Entry) (e : Entry) (x : Queueing) (o : Option Queueing) → x.number ≤ length past
    → opening past e ≡ o → count_by (is_ahead x) (option_to_list o) ≡ 0
none_ahead past e x None less h = refl
none_ahead past e x (Some y) less h =
    grind (arith, nat_tests, opening_number past e y h, count_by-cons (is_ahead x) y [])

ahead_after : (s : Layout) (past : List Entry) (e : Entry) (x : Queueing) → IsLegal s (e ∷ past)
    → x.number ≤ length past → count_by (is_ahead x) (still_open (e ∷ past)) ≡ survivors_ahead past e x
ahead_after s past e x legal less =
    ap (count_by (is_ahead x)) (open_go_on s past e legal)
    ∙ omega (
      arith,
      count_append (is_ahead x) (filter (survives past e) (still_open past)) (option_to_list (opening past e)),
      none_ahead past e x (opening past e) less refl,
    )

-- ---- what was open and becomes active, and what is opened

-- a queueing that is open and is below max_active is active
way_is_active : (s : Layout) (past : List Entry)
    → AllByRecursion (λ x. is_live past x ≡ true → is_active s past x ≡ false → is_below_max_active s past x ≡ false)
    (queueings past)
unfolding queueings
way_is_active s [] = tt
way_is_active s (e ∷ past) =
    All_each _ (queueings (e ∷ past)) (λ x live inactive. grind (arith, active_go_on s past e x))

waiting_behind : (s : Layout) (past : List Entry)
    → AllByRecursion (λ x. waits s past x ≡ true
    → width s past x.place.queue.0 ≤ count_by (is_ahead x) (still_open past)) (still_open past)
waiting_behind s past =
    All_filter _ (is_live past) (queueings past)
    (All_map _ _ (queueings past)
    (λ x none live waiting. ltb-false _ _ (none live (not-true (is_active s past x) waiting))) (way_is_active s past))

newly_parts : (s : Layout) (past : List Entry) (e : Entry) → IsLegal s (e ∷ past)
    → newly_active s past e ≡ filter (λ x. survives past e x && (is_below_max_active s (e ∷ past) x && waits s past x))
    (still_open past) ++ filter (is_below_max_active s (e ∷ past)) (option_to_list (opening past e))
newly_parts s past e legal =
    newly_of_open s past e
    ∙ filter_same _ (λ x. is_below_max_active s (e ∷ past) x && waits s past x) (still_open (e ∷ past))
    (All_filter _ (is_live (e ∷ past)) (queueings (e ∷ past))
    (All_each _ (queueings (e ∷ past)) (newly_is s past e)))
    ∙ ap (filter (λ x. is_below_max_active s (e ∷ past) x && waits s past x)) (open_go_on s past e legal)
    ∙ filter-append (λ x. is_below_max_active s (e ∷ past) x && waits s past x)
    (filter (survives past e) (still_open past)) (option_to_list (opening past e))
    ∙ ap₂ (λ xs ys. xs ++ ys)
    (filter_twice (λ x. is_below_max_active s (e ∷ past) x && waits s past x) (survives past e) (still_open past))
    (of (opening past e) refl)
  where
    of : (o : Option Queueing) → opening past e ≡ o
        → filter (λ x. is_below_max_active s (e ∷ past) x && waits s past x) (option_to_list o)
        ≡ filter (is_below_max_active s (e ∷ past)) (option_to_list o)
    of None is = refl
    of (Some x) is =
        ap (λ b. cond b (x ∷ []) [])
        (ap (λ b. is_below_max_active s (e ∷ past) x && not b) (not_active_yet s past x (opening_number past e x is))
        ∙ and_true _)

-- where the entry ends the queueing of o, if any: what is after that, with exactly as many ahead as the queue is wide
abbrev moves_up : Layout → List Entry → Entry → Option Queueing → Queueing → Bool
moves_up s past e o x =
    survives past e x
    && (option_map_or (is_ahead x) o false && (count_by (is_ahead x) (still_open past) == width s past x.place.queue.0))

count_ending : (s : Layout) (past : List Entry) (e : Entry) (x : Queueing) (o : Option Queueing) → IsLegal s (e ∷ past)
    → ending past e ≡ o → count_by (is_ahead x) (still_open past)
    ≡ survivors_ahead past e x + cond (option_map_or (is_ahead x) o false) 1 0
count_ending s past e x o legal is =
    ahead_before s past e x legal
    ∙ ap (λ n. survivors_ahead past e x + n) (ap (λ p. count_by (is_ahead x) (option_to_list p)) is ∙ counted o)
  where
    counted : (o : Option Queueing) → count_by (is_ahead x) (option_to_list o)
        ≡ cond (option_map_or (is_ahead x) o false) 1 0
    counted None = refl
    counted (Some y) = omega (arith, count_by-cons (is_ahead x) y [])

-- what waits and moves up is what moves up of what waits
moves_waiting : (s : Layout) (past : List Entry) (e : Entry) (o : Option Queueing) → IsLegal s (e ∷ past)
    → keeps_widths e.reply ≡ true → ending past e ≡ o
    → filter (λ x. survives past e x && (is_below_max_active s (e ∷ past) x && waits s past x)) (still_open past)
    ≡ filter (waits s past) (filter (moves_up s past e o) (still_open past))
moves_waiting s past e o legal keeps is =
    filter_same _ (λ x. moves_up s past e o x && waits s past x) (still_open past)
    (All_both (λ x. x.number < length past) _ _ (still_open past) one (open_below past) (waiting_behind s past))
    ∙ sym (filter_twice (waits s past) (moves_up s past e o) (still_open past))
  where
    at : (a c p : Bool) (m n w : ℕ) → n ≡ m + cond c 1 0 → (p ≡ true → w ≤ n)
        → (a && (nat_lt m w && p)) ≡ ((a && (c && (n == w))) && p)
    at a c p m n w h k = grind (arith, nat_tests)

    one : (x : Queueing) → x.number < length past
        → (waits s past x ≡ true → width s past x.place.queue.0 ≤ count_by (is_ahead x) (still_open past))
        → (survives past e x && (is_below_max_active s (e ∷ past) x && waits s past x))
        ≡ (moves_up s past e o x && waits s past x)
    one x less behind =
        ap₂ (λ m w. survives past e x && (nat_lt m w && waits s past x)) (ahead_after s past e x legal (omega arith))
        (width_same s past e x.place.queue.0 keeps)
        ∙ at (survives past e x) (option_map_or (is_ahead x) o false) (waits s past x) (survivors_ahead past e x)
        (count_by (is_ahead x) (still_open past)) (width s past x.place.queue.0)
        (count_ending s past e x o legal is) behind

-- ---- that is the one after the width, if y is active

-- all that the entry ends has the number of y
ended_number : (s : Layout) (past : List Entry) (e : Entry) (y : Queueing) → IsLegal s (e ∷ past)
    → ending past e ≡ Some y → AllByRecursion (λ x. is_ended past e x ≡ true → x.number ≡ y.number) (still_open past)
ended_number s past e y legal is = All_unfilter (λ x. x.number ≡ y.number) (is_ended past e) (still_open past)
    (subst (AllByRecursion (λ x. x.number ≡ y.number)) (sym (one_ends s past e legal ∙ ap option_to_list is))
    (refl, tt))

-- what has a lesser number on the same queue and CPU has no more ahead
ahead_rise : (x y : Queueing) (xs : List Queueing) → is_of_same_pwq y x ≡ true → x.number ≤ y.number
    → count_by (is_ahead x) xs ≤ count_by (is_ahead y) xs
ahead_rise x y xs on less =
    count_by-wider (is_ahead x) (is_ahead y) xs (All_each _ xs (λ z h. grind (arith, nat_tests)))

-- where as many as the queue is wide stand ahead of x, and fewer ahead of y, x is after y and isn't ended with it
stands_behind : (past : List Entry) (e : Entry) (x y : Queueing) (w : ℕ)
    → (is_ended past e x ≡ true → x.number ≡ y.number) → count_by (is_ahead y) (still_open past) < w
    → is_of_same_pwq y x ≡ true → count_by (is_ahead x) (still_open past) ≡ w
    → (survives past e x ≡ true) × (is_ahead x y ≡ true)
stands_behind past e x y w alone within on count =
    let less : y.number < x.number = grind (arith, ahead_rise x y (still_open past) on) in
    (true_from_ne_false _ (λ ended. let same = alone (ap not ended) in absurd (omega arith)), grind (arith, nat_tests))

moves_active : (s : Layout) (past : List Entry) (e : Entry) (x y : Queueing)
    → (is_ended past e x ≡ true → x.number ≡ y.number)
    → count_by (is_ahead y) (still_open past) < width s past y.place.queue.0
    → moves_up s past e (Some y) x
    ≡ (is_of_same_pwq y x && (count_by (is_below x) (open_of_same_pwq past y) == width s past y.place.queue.0))
moves_active s past e x y alone within = at (is_of_same_pwq y x) refl
  where
    rest : is_of_same_pwq y x ≡ true
        → (survives past e x
        && (is_ahead x y && (count_by (is_ahead x) (still_open past) == width s past y.place.queue.0)))
        ≡ (count_by (is_ahead x) (still_open past) == width s past y.place.queue.0)
    rest on =
        same_bools _ _ (λ h. (and_parts _ _ (and_parts _ _ h).1).1) (λ h. let both =
        stands_behind past e x y (width s past y.place.queue.0) alone within on (eqb-true _ _ h) in
        and_from _ _ both.0 (and_from _ _ both.1 h))

    at : (b : Bool) → is_of_same_pwq y x ≡ b
        → moves_up s past e (Some y) x
        ≡ (b && (count_by (is_below x) (open_of_same_pwq past y) == width s past y.place.queue.0))
    at false on = grind (arith, nat_tests)
    at true on =
        let queue : x.place.queue.0 ≡ y.place.queue.0 = grind (arith, nat_tests) in
        ap (λ q. survives past e x && (is_ahead x y && (count_by (is_ahead x) (still_open past) == width s past q)))
        queue ∙ rest on
        ∙ ap (λ n. n == width s past y.place.queue.0) (count_ahead past y.place.queue.0 y.place.cpu.0 x on)

promotes_active : (s : Layout) (past : List Entry) (e : Entry) (y : Queueing) → IsLegal s (e ∷ past)
    → ending past e ≡ Some y → count_by (is_ahead y) (still_open past) < width s past y.place.queue.0
    → filter (moves_up s past e (Some y)) (still_open past)
    ≡ option_to_list (slice_get (open_of_same_pwq past y) (width s past y.place.queue.0))
promotes_active s past e y legal is within =
    filter_same (moves_up s past e (Some y))
    (λ x. is_of_same_pwq y x && (count_by (is_below x) (open_of_same_pwq past y) == width s past y.place.queue.0))
    (still_open past)
    (All_map (λ x. is_ended past e x ≡ true → x.number ≡ y.number) _ (still_open past)
    (λ x alone. moves_active s past e x y alone within) (ended_number s past e y legal is))
    ∙ sym (filter_twice (λ x. count_by (is_below x) (open_of_same_pwq past y) == width s past y.place.queue.0)
    (is_of_same_pwq y) (still_open past))
    ∙ one_ranked (λ x. count_by (is_below x) (open_of_same_pwq past y)) 0 (width s past y.place.queue.0)
    (width s past y.place.queue.0) (open_of_same_pwq past y) (omega arith)
    (open_ranked past y.place.queue.0 y.place.cpu.0)

-- where y isn't active, what is after it has more ahead than the queue is wide
moves_none : (s : Layout) (past : List Entry) (e : Entry) (x y : Queueing) → IsLegal s (e ∷ past)
    → ending past e ≡ Some y → width s past y.place.queue.0 ≤ count_by (is_ahead y) (still_open past)
    → moves_up s past e (Some y) x ≡ false
moves_none s past e x y legal is beyond =
    let rise = ahead_rise y x (filter (survives past e) (still_open past)) in
    let count = count_ending s past e x (Some y) legal is in
    let own = count_ending s past e y (Some y) legal is in
    grind (arith, nat_tests)

promotes : (s : Layout) (past : List Entry) (e : Entry) (o : Option Queueing) → IsLegal s (e ∷ past) → ending past e ≡ o
    → filter (moves_up s past e o) (still_open past) ≡ option_to_list (behind_width s past o)
promotes s past e None legal is =
    filter_none (moves_up s past e None) (still_open past)
    (All_each _ (still_open past) (λ x. and_false (survives past e x)))
promotes s past e (Some y) legal is = at (is_below_max_active s past y) refl
  where
    at : (b : Bool) → is_below_max_active s past y ≡ b → filter (moves_up s past e (Some y)) (still_open past)
        ≡ option_to_list (if b then slice_get (open_of_same_pwq past y) (width s past y.place.queue.0) else None)
    at true h = promotes_active s past e y legal is (ltb-true _ _ h)
    at false h =
        filter_none (moves_up s past e (Some y)) (still_open past)
        (All_each _ (still_open past) (λ x. moves_none s past e x y legal is (ltb-false _ _ h)))

-- ---- what is opened

-- where a width changes nothing ends, and nothing is opened
widened_quiet : (r : Reply) → keeps_widths r ≡ false → (number_finished r ≡ None) × (number_cancelled r ≡ None)
    × (replaces r ≡ false) × (opens r ≡ false)
widened_quiet (reply.Width n) h = (refl, refl, refl, refl)
widened_quiet r h = grind arith

opened_way : (s : Layout) (past : List Entry) (e : Entry) (x : Queueing) → IsLegal s (e ∷ past)
    → opening past e ≡ Some x → is_below_max_active s (e ∷ past) x ≡ is_below_max_active_at_once s past e x
opened_way s past e x legal is =
    let number : x.number ≡ length past = opening_number past e x is in
    ap₂ nat_lt
    (ahead_after s past e x legal (omega arith)
    ∙ count_by-same (is_ahead x) (is_of_same_pwq x) (filter (survives past e) (still_open past)) all_ahead)
    (width_same s past e x.place.queue.0
    (true_from_ne_false _ (λ widened. both_ways _ (widened_quiet e.reply widened).3 (opening_opens past e x is))))
  where
    all_ahead : AllByRecursion (λ y. is_ahead x y ≡ is_of_same_pwq x y) (filter (survives past e) (still_open past))
    all_ahead =
        All_filter _ (survives past e) (still_open past)
        (All_map _ _ (still_open past) (λ y less survivors. grind (arith, nat_tests, opening_number past e x is))
        (open_below past))

pub opened_are_below_max_active : (s : Layout) (past : List Entry) (e : Entry) (x : Queueing) → IsLegal s (e ∷ past)
    → opening past e ≡ Some x → is_active s (e ∷ past) x ≡ is_below_max_active_at_once s past e x
opened_are_below_max_active s past e x legal is =
    active_go_on s past e x
    ∙ ap₂ (λ a b. a && (b || is_below_max_active s (e ∷ past) x)) (opened_live s past e x legal is)
    (not_active_yet s past x (opening_number past e x is)) ∙ opened_way s past e x legal is

newly_opened : (s : Layout) (past : List Entry) (e : Entry) (o : Option Queueing) → IsLegal s (e ∷ past)
    → opening past e ≡ o → filter (is_below_max_active s (e ∷ past)) (option_to_list o)
    ≡ filter (is_below_max_active_at_once s past e) (option_to_list o)
newly_opened s past e None legal is = refl
newly_opened s past e (Some x) legal is = ap (λ b. cond b (x ∷ []) []) (opened_way s past e x legal is)

pub newly_active_are : (s : Layout) (past : List Entry) (e : Entry) → IsLegal s (e ∷ past) → keeps_widths e.reply ≡ true
    → newly_active s past e ≡ filter (waits s past) (option_to_list (behind_width s past (ending past e)))
    ++ filter (is_below_max_active_at_once s past e) (option_to_list (opening past e))
newly_active_are s past e legal keeps =
    newly_parts s past e legal
    ∙ ap₂ (λ xs ys. xs ++ ys) (moves_waiting s past e (ending past e) legal keeps refl
    ∙ ap (filter (waits s past)) (promotes s past e (ending past e) legal refl))
    (newly_opened s past e (opening past e) legal refl)

pub widened_make_active : (s : Layout) (past : List Entry) (e : Entry) → IsLegal s (e ∷ past)
    → keeps_widths e.reply ≡ false
    → newly_active s past e ≡ filter (λ x. is_below_max_active s (e ∷ past) x && waits s past x) (still_open past)
widened_make_active s past e legal h =
    let k = widened_quiet e.reply h in
    let spared : (x : Queueing) → survives past e x ≡ true = λ x. rw (k.0, k.1, k.2) refl in
    newly_parts s past e legal
    ∙ ap₂ (λ xs ys. xs ++ ys)
    (filter_same _ _ (still_open past)
    (All_each _ (still_open past)
    (λ x. ap (λ b. b && (is_below_max_active s (e ∷ past) x && waits s past x)) (spared x))))
    (ap (λ o. filter (is_below_max_active s (e ∷ past)) (option_to_list o)) (none_opened past e k.3))
    ∙ append-nil _
