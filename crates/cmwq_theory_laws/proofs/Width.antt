-- No more workers of a CPU have runs of a queue than are active there: their runs are different numbers of active
-- queueings.
use Rattle.cmwq_theory_laws.specs.Common.{All_map, ◌≡◌, ◌≤◌, ◌==◌, ℕ, true, false, List, [], ◌∷◌, length, map, filter}
use Rattle.cmwq_theory_laws.specs.Common.{find, Option, Some, None, refl, sym, ap, ◌∙◌, subst, arith, option_and_then}
use Rattle.cmwq_theory_laws.specs.Common.{option_map, option_map_or, AllByRecursion, IsDistinct, eqb-true, nat_tests}
use Rattle.cmwq_theory_laws.specs.Common.{length-take, length-map, WorkerId, Entry, Queueing, Layout, pool_at, is_at}
use Rattle.cmwq_theory_laws.specs.Common.{same_pool, same_worker, item_at, run, queueings, queue_of, run_queue}
use Rattle.cmwq_theory_laws.specs.Common.{has_number, is_live, still_open, is_active, IsLegal, is_on, open_on}
use Rattle.cmwq_theory_laws.specs.Common.{active_count, All_both, active_are_first, active_live, one_worker, is_at-true}
use Rattle.cmwq_theory_laws.specs.Common.{find-filter, same_worker_itself}
use Rattle.std.proofs.Common.{⊎_elim}
use Rattle.std.proofs.lemmas.Bool.{and_parts, both_ways, false_from_ne_true, or_cases}
use Rattle.std.proofs.lemmas.Option.{same_Some}
use Rattle.std.specs.Set.{is_member}
use Rattle.std.proofs.lemmas.Cmp.{nat_eq_equiv}
use Rattle.std.proofs.lemmas.Map.Made.{length-le_from_is_member}
use Rattle.cmwq_theory_laws.specs.Headline.{runs_queue_on, RunsWithinActive}
use Rattle.cmwq_theory_steps.proofs.RunsActive.{found_known, found_number, run_is_active}
use Rattle.cmwq_lemmas.proofs.Lists.{all_mapped}

-- ---- numbers

abbrev number_of : Queueing → ℕ
number_of x = x.number

number_is_member : (n : ℕ) (x : Queueing) (xs : List Queueing) → find (has_number n) xs ≡ Some x
    → is_member (◌==◌) (map number_of xs) n ≡ true
number_is_member n x [] found = cc
number_is_member n x (y ∷ xs) found = grind (arith, nat_tests, number_is_member n x xs)

-- ---- a worker's run of a queue on a CPU

abbrev run_number : List Entry → WorkerId → ℕ
run_number past w = option_map_or (λ n. n) (run past w) 0

record RunsOn (s : Layout) (past : List Entry) (q c : ℕ) (w : WorkerId) : Type 0 where
  queueing : Queueing
  runs : run past w ≡ Some (run_number past w)
  found : find (has_number (run_number past w)) (filter (is_active s past) (open_on past q c)) ≡ Some queueing
  item : item_at past (run_number past w) ≡ Some queueing.item.0

on_place : (s : Layout) (past : List Entry) (q c : ℕ) (w : WorkerId) (x : Queueing) → x.place.queue.0 ≡ q
    → same_pool (pool_at s x.place) w.pool ≡ true → (w.pool.cpu.0 == c) ≡ true → is_on q c x ≡ true
on_place s past q c w x queue pool cpu =
    let same : (x.place.cpu.0 == w.pool.cpu.0) ≡ true = grind arith in
    grind (arith, nat_tests)

runs_at : (s : Layout) (past : List Entry) (q c : ℕ) (w : WorkerId) (n : ℕ) → IsLegal s past → run past w ≡ Some n
    → queue_of past n ≡ Some q → (w.pool.cpu.0 == c) ≡ true → RunsOn s past q c w
runs_at s past q c w n legal runs queue cpu =
    let r = run_is_active s past w n legal runs in
    let is : run_number past w ≡ n = ap (λ o. option_map_or (λ n. n) o 0) runs in
    let on_queue =
    same_Some r.queueing.place.queue.0 q (sym (ap (option_map (λ (y : Queueing). y.place.queue.0)) r.found)
    ∙ queue) in
    let on : is_on q c r.queueing ≡ true = on_place s past q c w r.queueing on_queue r.pool cpu in
    let found = find-filter (has_number n) (is_active s past) r.queueing (open_on past q c)
    (find-filter (has_number n) (is_on q c) r.queueing (still_open past)
    (find-filter (has_number n) (is_live past) r.queueing (queueings past) r.found
    (active_live s past r.queueing r.active)) on) r.active in
    record {
      queueing = r.queueing;
      runs = runs ∙ ap Some (sym is);
      found = subst (λ m. find (has_number m) (filter (is_active s past) (open_on past q c)) ≡ Some r.queueing) (sym is)
          found;
      item = ap (item_at past) (is ∙ sym (found_number past n r.queueing r.found))
          ∙ (found_known past n r.queueing r.found).item;
    }

runs_on : (s : Layout) (past : List Entry) (q c : ℕ) (w : WorkerId) → IsLegal s past → runs_queue_on past q c w ≡ true
    → RunsOn s past q c w
runs_on s past q c w legal h = at (run past w) refl
  where
    at : (o : Option ℕ) → run past w ≡ o → RunsOn s past q c w
    at None runs = absurd (both_ways _ (ap (λ o. is_at (option_and_then (queue_of past) o) q) runs) (and_parts _ _ h).0)
    at (Some n) runs =
        runs_at s past q c w n legal runs (sym (ap (option_and_then (queue_of past)) runs)
        ∙ is_at-true (run_queue past w) q (and_parts _ _ h).0) (and_parts _ _ h).1

-- ---- different workers have different runs

numbers_differ : (s : Layout) (past : List Entry) (q c : ℕ) (w v : WorkerId) → IsLegal s past → RunsOn s past q c w
    → RunsOn s past q c v → same_worker w v ≡ false → (run_number past w == run_number past v) ≡ false
numbers_differ s past q c w v legal rw rv other = false_from_ne_true _ (λ is.
    let item = ap (item_at past) (sym (eqb-true (run_number past w) (run_number past v) is)) ∙ rw.item in
    let one : w ≡ v =
    (one_worker s past w v (run_number past w) (run_number past v) rw.queueing.item.0 legal rw.runs rv.runs rw.item
    item).0 in
    both_ways _ other (subst (λ u. same_worker w u ≡ true) one (same_worker_itself w)))

numbers_distinct : (s : Layout) (past : List Entry) (q c : ℕ) (ws : List WorkerId) → IsLegal s past
    → IsDistinct same_worker ws → AllByRecursion (RunsOn s past q c) ws → IsDistinct (◌==◌) (map (run_number past) ws)
unfolding IsDistinct
numbers_distinct s past q c [] legal distinct runs = tt
numbers_distinct s past q c (w ∷ ws) legal distinct runs = (
  all_mapped (run_number past) (λ m. (run_number past w == m) ≡ false) ws
      (All_both (λ v. same_worker w v ≡ false) (RunsOn s past q c)
      (λ v. (run_number past w == run_number past v) ≡ false) ws
      (λ v other r. numbers_differ s past q c w v legal runs.0 r other) distinct.0 runs.1),
  numbers_distinct s past q c ws legal distinct.1 runs.1,
)

-- ---- the law

active_members : (s : Layout) (past : List Entry) (q c : ℕ) (ws : List WorkerId) → AllByRecursion (RunsOn s past q c) ws
    → (n : ℕ) → is_member (◌==◌) (map (run_number past) ws) n ≡ true
    → is_member (◌==◌) (map number_of (filter (is_active s past) (open_on past q c))) n ≡ true
active_members s past q c [] runs n h = cc
active_members s past q c (w ∷ ws) runs n h =
    ⊎_elim (λ is. subst (λ m. is_member (◌==◌) (map number_of (filter (is_active s past) (open_on past q c))) m ≡ true)
    (sym (eqb-true n (run_number past w) is))
    (number_is_member (run_number past w) runs.0.queueing (filter (is_active s past) (open_on past q c)) runs.0.found))
    (λ later. active_members s past q c ws runs.1 n later) (or_cases (n == run_number past w) _ h)

pub runs_within_active : (s : Layout) (past : List Entry) → IsLegal s past → RunsWithinActive s past
runs_within_active s past legal q c ws distinct h =
    let runs =
    All_map (λ w. runs_queue_on past q c w ≡ true) (RunsOn s past q c) ws (λ w on. runs_on s past q c w legal on)
    h in
    let xs = filter (is_active s past) (open_on past q c) in
    let few : length (map (run_number past) ws) ≤ length (map number_of xs) =
    length-le_from_is_member nat_eq_equiv (map (run_number past) ws) (map number_of xs)
    (numbers_distinct s past q c ws legal distinct runs)
    (active_members s past q c ws runs) in
    omega (
      arith,
      length-map ws (run_number past),
      length-map xs number_of,
      ap length (active_are_first s past q c),
      length-take (active_count s past q c) (open_on past q c),
    )
