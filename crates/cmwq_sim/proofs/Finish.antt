-- What the end of a run makes ready.
use Rattle.cmwq_sim.specs.Common.{◌≡◌, ◌≤◌, ◌-◌, ℕ, zero, suc, Bool, true, false, not, ◌&&◌, List, [], ◌∷◌, ◌++◌, map}
use Rattle.cmwq_sim.specs.Common.{filter, find, count_by, Option, Some, None, nat_lt, refl, sym, ap, ap₂, ◌∙◌, subst}
use Rattle.cmwq_sim.specs.Common.{arith, ⊎_elim, option_to_list, append-nil, option_map, option_and_then, if◌then◌else◌}
use Rattle.cmwq_sim.specs.Common.{slice_get, option_or, AllByRecursion, nat_tests, same_Some, Entry, Queueing, Layout}
use Rattle.cmwq_sim.specs.Common.{first_width, item_of, number_finished, number_cancelled, queueings, still_open}
use Rattle.cmwq_sim.specs.Common.{is_live, opening, opens, queued_at, place_wanted, width, is_active, is_ahead}
use Rattle.cmwq_sim.specs.Common.{is_below_max_active, newly_active, IsLegal, is_ended, ending, number_replaced}
use Rattle.cmwq_sim.specs.Common.{HasFirstWidths, keeps_widths, waits, behind_width, is_below_max_active_at_once}
use Rattle.cmwq_sim.specs.Common.{All_each, All_both, active_live, run_is_active, newly_active_are, In, found}
use Rattle.cmwq_sim.specs.Common.{in_filter}
use Rattle.cmwq_model.specs.declared.reply.Reply.TheVariants as reply
use Rattle.cmwq_theory_steps.specs.Places.{is_on, open_on}
use Rattle.cmwq_theory_steps.proofs.Ranks.{is_below, Ranked}
use Rattle.cmwq_theory_steps.proofs.Active.{ways, open_ranked, on_each}
use Rattle.cmwq_theory_laws.proofs.AsBefore.{active_as_before}
use Rattle.cmwq_theory_steps.proofs.Ended.{ends_which}
use Rattle.cmwq_sim.specs.Plan.{Plan, plan_queue, is_of_plan_queue}
use Rattle.cmwq_sim.specs.Lines.{Moment, plan_items}
use Rattle.cmwq_sim.specs.Shows.{layout_for, plan_worker, queueing_for, IsRunAt, Shows}
use Rattle.cmwq_sim.proofs.TakeReads.{run_found}
use Rattle.cmwq_lemmas.proofs.Passing.{find_mapped}

-- of a list whose first w pass, the one just after them is the first that doesn't
first_behind : (f : Queueing → Bool) (rank : Queueing → ℕ) (w k : ℕ) (xs : List Queueing) → k ≤ w
    → AllByRecursion (λ x. f x ≡ nat_lt (rank x) w) xs → Ranked rank k xs
    → filter (λ x. not (f x)) (option_to_list (slice_get xs (w - k))) ≡ option_to_list (find (λ x. not (f x)) xs)
first_behind f rank w k [] less each h = refl
first_behind f rank w k (x ∷ xs) less each h =
    at (w - k) refl (λ more. first_behind f rank w (suc k) xs more each.1 h.1)
  where
    at : (n : ℕ) → w - k ≡ n
        → (suc k ≤ w → filter (λ y. not (f y)) (option_to_list (slice_get xs (w - suc k)))
        ≡ option_to_list (find (λ y. not (f y)) xs))
        → filter (λ y. not (f y)) (option_to_list (slice_get (x ∷ xs) n))
        ≡ option_to_list (find (λ y. not (f y)) (x ∷ xs))
    at zero is later = grind (arith, nat_tests)
    at (suc n) is later = let rest : w - suc k ≡ n = omega arith in grind (arith, nat_tests)

find_turned : (p q : Queueing → Bool) (xs : List Queueing) → find p (filter q xs) ≡ find q (filter p xs)
find_turned p q [] = refl
find_turned p q (x ∷ xs) = grind (arith, find_turned p q xs)

-- while the widths are the first ones, what is open is active where it is below max_active
active_way : (s : Layout) (past : List Entry) (x : Queueing) → HasFirstWidths s past
    → ((q : ℕ) → width s past q ≡ first_width s q) → is_live past x ≡ true
    → is_active s past x ≡ is_below_max_active s past x
active_way s past x old wide live =
    active_as_before s past x old ∙ ap₂ (λ l w. l && nat_lt (count_by (is_ahead x) (still_open past)) w) live
    (sym (wide x.place.queue.0))

first_waiting : (s : Plan) (past : List Entry) (i : ℕ) → HasFirstWidths (layout_for s) past
    → ((q : ℕ) → width (layout_for s) past q ≡ first_width (layout_for s) q)
    → is_below_max_active (layout_for s) past (queueing_for s i) ≡ true
    → filter (waits (layout_for s) past) (option_to_list (behind_width (layout_for s) past (Some (queueing_for s i))))
    ≡ option_to_list (find (is_on (plan_queue s i) 0) (filter (waits (layout_for s) past) (still_open past)))
first_waiting s past i old wide way =
    ap (λ b. filter (waits (layout_for s) past) (option_to_list (if b then slice_get (open_on past q 0) w else None)))
    way
    ∙ ap (λ n. filter (waits (layout_for s) past) (option_to_list (slice_get (open_on past q 0) n))) (sym none)
    ∙ first_behind (is_active (layout_for s) past) (λ x. count_by (is_below x) (open_on past q 0)) w 0
    (open_on past q 0) (omega arith) each (open_ranked past q 0)
    ∙ ap option_to_list (find_turned (waits (layout_for s) past) (is_on q 0) (still_open past))
  where
    q : ℕ
    q = plan_queue s i

    w : ℕ
    w = width (layout_for s) past (plan_queue s i)

    none : width (layout_for s) past (plan_queue s i) - 0 ≡ width (layout_for s) past (plan_queue s i)
    none = omega arith

    each : AllByRecursion
        (λ x. is_active (layout_for s) past x
        ≡ nat_lt (count_by (is_below x) (open_on past (plan_queue s i) 0)) (width (layout_for s) past (plan_queue s i)))
        (open_on past (plan_queue s i) 0)
    each = All_both (λ x. is_active (layout_for s) past x ≡ is_below_max_active (layout_for s) past x)
        (λ x. is_below_max_active (layout_for s) past x
        ≡ nat_lt (count_by (is_below x) (open_on past (plan_queue s i) 0)) (width (layout_for s) past (plan_queue s i)))
        _ (open_on past (plan_queue s i) 0) (λ x a b. a ∙ b)
        (on_each (λ x. is_active (layout_for s) past x ≡ is_below_max_active (layout_for s) past x) past
        (plan_queue s i) 0
        (All_each _ (queueings past) (λ x live on. active_way (layout_for s) past x old wide live)))
        (ways (layout_for s) past (plan_queue s i) 0)

-- ---- what a finish makes ready is the first of the queue that is after

mapped : (s : Plan) (y : Queueing) (xs : List ℕ) → In y (map (queueing_for s) xs) → y ≡ queueing_for s y.number
mapped s y [] h = absurd h
mapped s y (x ∷ xs) h =
    ⊎_elim (λ e. sym e ∙ ap (λ (z : Queueing). queueing_for s z.number) e) (λ later. mapped s y xs later) h

ends_run : (s : Plan) (past : List Entry) (m : Moment) (slot : ℕ → ℕ) (e : Entry) (i : ℕ) → Shows s past m slot
    → IsLegal (layout_for s) (e ∷ past) → e.reply ≡ reply.Finished i → ending past e ≡ Some (queueing_for s i)
ends_run s past m slot e i h legal is = at (ending past e) refl
    (ends_which (layout_for s) past e legal
    ∙ ap (λ r. option_or (number_finished r) (option_or (number_cancelled e.reply) (number_replaced past e))) is)
  where
    at : (o : Option Queueing) → ending past e ≡ o → option_map (λ (x : Queueing). x.number) (ending past e) ≡ Some i
        → ending past e ≡ Some (queueing_for s i)
    at None none number = grind arith
    at (Some y) some number =
        let there = in_filter (is_live past) (queueings past) y (found (is_ended past e) (still_open past) y some).0 in
        let n : y.number ≡ i =
        same_Some y.number i (sym (ap (option_map (λ (x : Queueing). x.number)) some) ∙ number) in
        some ∙ ap Some (mapped s y (plan_items s) (subst (In y) h.queued there.0) ∙ ap (queueing_for s) n)

pub finish_makes_ready : (s : Plan) (past : List Entry) (m : Moment) (slot : ℕ → ℕ) (e : Entry) (x i : ℕ)
    → Shows s past m slot → HasFirstWidths (layout_for s) past
    → ((q : ℕ) → width (layout_for s) past q ≡ first_width (layout_for s) q)
    → IsLegal (layout_for s) (e ∷ past) → e.reply ≡ reply.Finished i → IsRunAt past x i false
    → newly_active (layout_for s) past e
    ≡ option_to_list (option_map (queueing_for s) (find (is_of_plan_queue s (plan_queue s i)) m.behind))
finish_makes_ready s past m slot e x i h old wide legal is r =
    newly_active_are (layout_for s) past e legal (ap keeps_widths is)
    ∙ ap₂ (λ a b. filter (waits (layout_for s) past) (option_to_list (behind_width (layout_for s) past a))
    ++ filter (is_below_max_active_at_once (layout_for s) past e) (option_to_list b))
    (ends_run s past m slot e i h legal is) opened
    ∙ append-nil _ ∙ first_waiting s past i old wide way
    ∙ ap (λ xs. option_to_list (find (is_on (plan_queue s i) 0) xs)) h.behind
    ∙ ap option_to_list
    (find_mapped (queueing_for s) (is_on (plan_queue s i) 0) (is_of_plan_queue s (plan_queue s i)) m.behind
    (All_each _ m.behind (λ x. grind arith)))
  where
    opened : opening past e ≡ None
    opened = ap
        (λ r. if opens r then option_and_then (λ j. option_map (queued_at past j) (place_wanted past e.call j))
        (item_of e) else None) is

    way : is_below_max_active (layout_for s) past (queueing_for s i) ≡ true
    way =
        let k = run_is_active (layout_for s) past (plan_worker x) i h.legal r.runs in
        let same : k.queueing ≡ queueing_for s i =
        same_Some k.queueing (queueing_for s i)
        (sym k.found ∙ run_found s past m slot (plan_worker x) i h r.runs) in
        let active : is_active (layout_for s) past (queueing_for s i) ≡ true =
        subst (λ y. is_active (layout_for s) past y ≡ true) same k.active in
        sym (active_way (layout_for s) past (queueing_for s i) old wide
        (active_live (layout_for s) past (queueing_for s i) active)) ∙ active
