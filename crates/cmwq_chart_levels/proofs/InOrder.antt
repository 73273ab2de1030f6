-- The places that are shown, and their levels, stand in the order of the places' numbers.
use Rattle.std.proofs.Common.{◌≡◌, ℕ, zero, suc, ◌+◌, ◌*◌, ◌<◌, ◌≤◌, List, [], ◌∷◌, ◌++◌, length, get_or, take, drop}
use Rattle.std.proofs.Common.{ltb, ltb-true, true, false, map, None, sym, ap, subst, arith}
use Rattle.std.specs.Prelude.{IsTrue, flat_map}
use Rattle.std.specs.List.{All, AllByRecursion, range_with_len}
use Rattle.std.specs.List.Sorted.{IsNonDecreasingBy}
use Rattle.std.proofs.lemmas.List.{get_or-map, get_or-take, get_or-drop, length-map, length-take, length-drop}
use Rattle.std.proofs.lemmas.Bool.{ltb-false}
use Rattle.std.proofs.lemmas.List.Concat.{flat_map-cons}
use Rattle.cmwq_lemmas.proofs.Lists.{All_map, All_append}
use Rattle.cmwq_lemmas.proofs.Rising.{RisesBy}
use Rattle.cmwq_model.specs.declared.entry.Entry.{Entry}
use Rattle.cmwq_model.specs.declared.record.Place.{Place}
use Rattle.cmwq_model.proofs.Limits.{limits_of}
use Rattle.cmwq_model.specs.Prelude.{Layout, is_layout, most_cpus}
use Rattle.cmwq_chart.specs.declared.levels.Level.{Level}
use Rattle.cmwq_chart.specs.Levels.{all_places, level_number, level_until, levels_left, place_on, places_of_queue}
use Rattle.cmwq_chart_levels.specs.Affected.{AreLevelsInOrder}

pub at_each : {X : Type 0} (P : X → Type 0) (xs : List X) (i : ℕ) (d : X) → i < length xs → AllByRecursion P xs
    → P (get_or xs i d)
at_each P [] i d less all = absurd (omega arith)
at_each P (x ∷ xs) zero d less all = all.0
at_each P (x ∷ xs) (suc i) d less all = at_each P xs i d (omega arith) all.1

module _ {X : Type 0} (f : X → ℕ) where
  rises_append : (xs ys : List X) (m : ℕ) → RisesBy f xs → RisesBy f ys → AllByRecursion (λ x. f x < m) xs
      → AllByRecursion (λ y. m ≤ f y) ys → RisesBy f (xs ++ ys)
  rises_append [] ys m first second below from = second
  rises_append (x ∷ xs) ys m first second below from = (
    All_append (λ y. f x < f y) xs ys first.0 (All_map _ _ ys (λ y k. omega (arith, k, below.0)) from),
    rises_append xs ys m first.1 second below.1 from,
  )

  in_order : (xs : List X) → RisesBy f xs → IsNonDecreasingBy f xs
  in_order [] rises i j d le less = absurd (omega arith)
  in_order (x ∷ xs) rises zero zero d le less = omega arith
  in_order (x ∷ xs) rises zero (suc j) d le less = let up = at_each (λ y. f x < f y) xs j d (omega arith) rises.0 in
      omega (arith, up)
  in_order (x ∷ xs) rises (suc i) zero d le less = absurd (omega arith)
  in_order (x ∷ xs) rises (suc i) (suc j) d le less = in_order xs rises.1 i j d (omega arith) (omega arith)

abbrev pub IsOfQueue : ℕ → ℕ → Place → Type 0
IsOfQueue q c p = (64 * q + c ≤ level_number p) × (level_number p < 64 * (q + 1))

of_queue : (q c n : ℕ) → c + n ≤ most_cpus → RisesBy level_number (map (place_on q) (range_with_len c n))
    × AllByRecursion (IsOfQueue q c) (map (place_on q) (range_with_len c n))
of_queue q c zero few = (tt, tt)
of_queue q c (suc n) few =
    let later = of_queue q (c + 1) n (omega arith) in (
      (All_map _ _ _ (λ p k. omega (arith, k.0)) later.1, later.0),
      ((omega arith, omega arith), All_map _ _ _ (λ p k. (omega (arith, k.0), k.1)) later.1),
    )

of_queues : (s : Layout) (q n : ℕ) → s.cpus ≤ most_cpus
    → RisesBy level_number (flat_map (places_of_queue s) (range_with_len q n))
    × AllByRecursion (λ p. 64 * q ≤ level_number p) (flat_map (places_of_queue s) (range_with_len q n))
of_queues s q zero few = (tt, tt)
of_queues s q (suc n) few =
    let later = of_queues s (q + 1) n few in
    let first = of_queue q 0 s.cpus (omega arith) in
    let parts = flat_map-cons (places_of_queue s) q (range_with_len (q + 1) n) in
    let low = All_map (IsOfQueue q 0) (λ p. level_number p < 64 * (q + 1)) (places_of_queue s q) (λ p k. k.1) first.1 in
    let lowest =
    All_map (IsOfQueue q 0) (λ p. 64 * q ≤ level_number p) (places_of_queue s q) (λ p k. omega (arith, k.0))
    first.1 in
    let higher =
    All_map (λ p. 64 * (q + 1) ≤ level_number p) (λ p. 64 * q ≤ level_number p) _ (λ p k. omega (arith, k))
    later.1 in (
      subst (RisesBy level_number) (sym parts)
          (rises_append level_number (places_of_queue s q) _ (64 * (q + 1)) first.0 later.0 low later.1),
      subst (AllByRecursion (λ p. 64 * q ≤ level_number p)) (sym parts)
          (All_append (λ p. 64 * q ≤ level_number p) (places_of_queue s q) _ lowest higher),
    )

pub all_in_order : (s : Layout) → IsTrue (is_layout s) → IsNonDecreasingBy level_number (all_places s)
all_in_order s inside =
    in_order level_number (all_places s) (of_queues s 0 (length s.queues) (limits_of s inside).cpus.1).0

pub levels_in_order : (s : Layout) (past : List Entry) (places : List Place) → IsNonDecreasingBy level_number places
    → AreLevelsInOrder (levels_left s past places)
levels_in_order s past places order i j d le less =
    let long = length-map places (level_until s past None) in
    let least = order i j d.place le (omega (arith, long)) in
    omega (arith, least, at i (omega (arith, long)), at j (omega (arith, long)))
  where
    at : (k : ℕ) → k < length places → level_number (get_or (levels_left s past places) k d).place
        ≡ level_number (get_or places k d.place)
    at k inside =
        ap (λ (l : Level). level_number l.place) (get_or-map (level_until s past None) places k d.place d inside)

-- ---- where a search found how many are of places with lower numbers
pub all_below : (xs : List Level) (n i : ℕ) → i ≤ length xs
    → ((k : ℕ) (d : Level) → 0 ≤ k → k < i → ltb (level_number (get_or xs k d).place) n ≡ true)
    → All (λ l. level_number l.place < n) (take i xs)
all_below xs n i within below = λ k d less.
    let front : k < i = omega (arith, length-take i xs) in
    let read : level_number (get_or (take i xs) k d).place ≡ level_number (get_or xs k d).place =
    ap (λ (l : Level). level_number l.place) (get_or-take i xs k d front) in
    let low = ltb-true _ _ (below k d (omega arith) front) in
    omega (arith, read, low)

pub all_from : (xs : List Level) (n i : ℕ) → i ≤ length xs
    → ((k : ℕ) (d : Level) → i ≤ k → k < length xs → ltb (level_number (get_or xs k d).place) n ≡ false)
    → All (λ l. n ≤ level_number l.place) (drop i xs)
all_from xs n i within above = λ k d less.
    let long = length-drop i xs in
    let read : level_number (get_or (drop i xs) k d).place ≡ level_number (get_or xs (i + k) d).place =
    ap (λ (l : Level). level_number l.place) (get_or-drop i xs k d) in
    let high = ltb-false _ _ (above (i + k) d (omega arith) (omega (arith, long))) in
    omega (arith, read, high)
