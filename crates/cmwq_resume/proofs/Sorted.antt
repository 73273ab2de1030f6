-- What is found of each item, and then sorted, is the list that it is found in.
use Rattle.cmwq_resume.specs.Common.{◌≡◌, ◌<◌, ◌≤◌, ◌+◌, ◌++◌, ◌==◌, ℕ, suc, zero, Bool, true, false, List, [], ◌∷◌}
use Rattle.cmwq_resume.specs.Common.{length, cond, Option, Some, None, option_to_list, refl, sym, ap, ◌∙◌, subst, arith}
use Rattle.cmwq_resume.specs.Common.{inl, inr, ◌⊎◌, AllByRecursion, flat_map, range_with_len, eq-eqb, eqb-true, All_map}
use Rattle.cmwq_resume.specs.Common.{append-nil, ap₂, nat_tests}
use Rattle.std.specs.List.{sum_by}
use Rattle.std.specs.List.Sorted.{IsNonDecreasingBy, IsPermutation}
use Rattle.std.proofs.lemmas.List.Sorted.{Contains-permutation, IsNonDecreasingBy-drop, IsPermutation-sym}
use Rattle.std.proofs.lemmas.List.Sorted.{sum_by-IsPermutation}
use Rattle.std.proofs.lemmas.List.Concat.{flat_map-cons}
use Rattle.std.proofs.lemmas.List.Sums.{sum_by-cons}
use Rattle.std.proofs.lemmas.Grind.{flat_map-append}
use Rattle.cmwq_lemmas.proofs.Lists.{range_more}
use Rattle.cmwq_lemmas.proofs.Members.{In, all_in, all_more, contained_in, flat_in, in_append, in_contained, in_option}
use Rattle.cmwq_lemmas.proofs.Members.{in_range, of_in, option_in}
use Rattle.cmwq_lemmas.proofs.Numbers.{rises_more}
use Rattle.cmwq_lemmas.proofs.Rising.{RisesBy, rises_unique}

pub range_next : (n : ℕ) → range_with_len 0 (n + 1) ≡ range_with_len 0 n ++ n ∷ []
range_next n =
    let one : n + 1 ≡ suc n = omega arith in
    let start : 0 + n ≡ n = omega arith in
    ap (range_with_len 0) one ∙ range_more 0 n ∙ ap (λ m. range_with_len 0 n ++ m ∷ []) start

-- ---- what is found of the items below a number

abbrev pub found_in : {X : Type 0} → (ℕ → Option X) → List ℕ → List X
found_in f is = flat_map (λ i. option_to_list (f i)) is

pub found_more : {X : Type 0} (f : ℕ → Option X) (n : ℕ)
    → found_in f (range_with_len 0 (n + 1)) ≡ found_in f (range_with_len 0 n) ++ option_to_list (f n)
found_more f n =
    ap (found_in f) (range_next n) ∙ flat_map-append (λ i. option_to_list (f i)) (range_with_len 0 n) (n ∷ [])
    ∙ ap (λ xs. found_in f (range_with_len 0 n) ++ xs)
    (flat_map-cons (λ i. option_to_list (f i)) n [] ∙ append-nil (option_to_list (f n)))

pub not_some : {X : Type 0} (o : Option X) → ((x : X) → o ≡ Some x → ⊥) → o ≡ None
not_some None h = refl
not_some (Some x) h = absurd (h x refl)

-- one item more, of which something is found, or nothing
pub more_some : {X : Type 0} (f : ℕ → Option X) (n : ℕ) (x : X) (old new : List X)
    → old ≡ found_in f (range_with_len 0 n) → f n ≡ Some x → new ≡ old ++ x ∷ []
    → new ≡ found_in f (range_with_len 0 (n + 1))
more_some f n x old new so_far is more =
    more ∙ ap (λ l. l ++ x ∷ []) so_far
    ∙ ap (λ o. found_in f (range_with_len 0 n) ++ option_to_list o) (sym is) ∙ sym (found_more f n)

pub more_none : {X : Type 0} (f : ℕ → Option X) (n : ℕ) (old : List X) → old ≡ found_in f (range_with_len 0 n)
    → f n ≡ None → old ≡ found_in f (range_with_len 0 (n + 1))
more_none f n old so_far is =
    so_far ∙ sym (append-nil (found_in f (range_with_len 0 n)))
    ∙ ap (λ o. found_in f (range_with_len 0 n) ++ option_to_list o) (sym is) ∙ sym (found_more f n)

module _ {X : Type 0} (g : X → ℕ) (f : ℕ → Option X) (own : (i : ℕ) (x : X) → f i ≡ Some x → g x ≡ i) where
  found_below : (n : ℕ) → AllByRecursion (λ x. g x < n) (found_in f (range_with_len 0 n))
  found_below zero = tt
  found_below (suc n) =
      let one : n + 1 ≡ suc n = omega arith in
      subst (λ m. AllByRecursion (λ x. g x < m) (found_in f (range_with_len 0 m))) one
      (subst (AllByRecursion (λ x. g x < n + 1)) (sym (found_more f n))
      (all_more (λ x. g x < n + 1) (found_in f (range_with_len 0 n)) (f n)
      (All_map (λ x. g x < n) (λ x. g x < n + 1) (found_in f (range_with_len 0 n)) (λ x less. omega arith)
      (found_below n)) (λ x is. omega (arith, own n x is))))

  found_rise : (n : ℕ) → RisesBy g (found_in f (range_with_len 0 n))
  found_rise zero = tt
  found_rise (suc n) =
      let one : n + 1 ≡ suc n = omega arith in
      subst (λ m. RisesBy g (found_in f (range_with_len 0 m))) one
      (subst (RisesBy g) (sym (found_more f n))
      (rises_more g n (found_in f (range_with_len 0 n)) (f n) (found_rise n) (found_below n) (own n)))

  found_is : (is : List ℕ) (x : X) → In x (found_in f is) → f (g x) ≡ Some x
  found_is [] x h = absurd h
  found_is (i ∷ is) x h =
      at (in_append (option_to_list (f i)) (found_in f is) x
      (subst (In x) (flat_map-cons (λ i. option_to_list (f i)) i is) h)) (found_is is x)
    where
      at : (In x (option_to_list (f i)) ⊎ In x (found_in f is)) → (In x (found_in f is) → f (g x) ≡ Some x)
          → f (g x) ≡ Some x
      at (inl here) rest = let it = in_option (f i) x here in ap f (own i x it) ∙ it
      at (inr more) rest = rest more

  is_found : (n : ℕ) (x : X) → g x < n → f (g x) ≡ Some x → In x (found_in f (range_with_len 0 n))
  is_found n x less is =
      flat_in (λ i. option_to_list (f i)) (range_with_len 0 n) (g x) x (in_range 0 n (g x) (omega arith) (omega arith))
      (option_in (f (g x)) x is)

-- ---- each once

module _ {X : Type 0} (g : X → ℕ) where
  abbrev one_of : ℕ → X → ℕ
  one_of i x = cond (g x == i) 1 0

  none_above : (i : ℕ) (xs : List X) → AllByRecursion (λ x. i < g x) xs → sum_by (one_of i) xs ≡ 0
  none_above i [] h = refl
  none_above i (x ∷ xs) h =
      let other : (g x == i) ≡ false = grind (arith, nat_tests, h.0) in
      sum_by-cons (one_of i) x xs ∙ ap₂ (λ (b : Bool) m. cond b 1 0 + m) other (none_above i xs h.1)

  once_each : (xs : List X) (i : ℕ) → RisesBy g xs → sum_by (one_of i) xs ≤ 1
  once_each [] i h = omega arith
  once_each (x ∷ xs) i h = at (g x == i) refl (once_each xs i h.1)
    where
      at : (b : Bool) → (g x == i) ≡ b → sum_by (one_of i) xs ≤ 1 → sum_by (one_of i) (x ∷ xs) ≤ 1
      at true is few =
          let same : g x ≡ i = eqb-true (g x) i is in
          let none =
          none_above i xs
          (subst (λ n. AllByRecursion (λ y. n < g y) xs) same h.0) in
          omega (arith, none, ap {B = ℕ} (λ b. cond b 1 0) is, sum_by-cons (one_of i) x xs)
      at false is few = omega (arith, few, ap {B = ℕ} (λ b. cond b 1 0) is, sum_by-cons (one_of i) x xs)

  one_more : (x : X) (xs : List X) → In x xs → 1 ≤ sum_by (one_of (g x)) xs
  one_more x [] h = absurd h
  one_more x (y ∷ ys) (inl same) =
      omega (arith, ap {B = ℕ} (λ b. cond b 1 0) (eq-eqb (g y) (g x) (ap g same)), sum_by-cons (one_of (g x)) y ys)
  one_more x (y ∷ ys) (inr more) = omega (arith, one_more x ys more, sum_by-cons (one_of (g x)) y ys)

-- ---- sorted, and each once

module _ {X : Type 0} (g key : X → ℕ) where
  sorted_rise : (xs : List X) → IsNonDecreasingBy key xs → ((i : ℕ) → sum_by (one_of g i) xs ≤ 1)
      → ((x y : X) → In x xs → In y xs → key x ≡ key y → g x ≡ g y) → RisesBy key xs
  sorted_rise [] up few alike = tt
  sorted_rise (x ∷ xs) up few alike = (
    all_in (λ y. key x < key y) xs (λ y here. below y here (contained y here)),
    sorted_rise xs (IsNonDecreasingBy-drop key 1 (x ∷ xs) up)
        (λ i. omega (arith, few i, sum_by-cons (one_of g i) x xs))
        (λ y z a b. alike y z (inr a) (inr b)),
  )
    where
      contained : (y : X) → In y xs → key x ≤ key y
      contained y here =
          let k = in_contained xs y here in
          let less : suc k.0 < length (x ∷ xs) = (let inside = k.1 in omega arith) in
          subst (λ n. key x ≤ n) (ap key k.2) (up 0 (suc k.0) y (omega arith) less)

      below : (y : X) → In y xs → key x ≤ key y → key x < key y
      below y here least = at (key x == key y) refl
        where
          at : (b : Bool) → (key x == key y) ≡ b → key x < key y
          at true same =
              let one = alike x y (inl refl) (inr here) (eqb-true (key x) (key y) same) in
              absurd (omega (
                arith,
                few (g y),
                sum_by-cons (one_of g (g y)) x xs,
                ap {B = ℕ} (λ b. cond b 1 0) (eq-eqb (g x) (g y) one),
                one_more g y xs here,
              ))
          at false other = grind (arith, other, least)

-- two lists that rise are the same where the same is in them
module _ {X : Type 0} (key : X → ℕ) where
  pub same_rising : (xs ys : List X) → RisesBy key xs → RisesBy key ys → ((x : X) → In x xs → In x ys)
      → ((y : X) → In y ys → In y xs) → xs ≡ ys
  same_rising [] [] up down to from = refl
  same_rising [] (y ∷ ys) up down to from = absurd (from y (inl refl))
  same_rising (x ∷ xs) [] up down to from = absurd (to x (inl refl))
  same_rising (x ∷ xs) (y ∷ ys) up down to from =
      let first = firsts (to x (inl refl)) (from y (inl refl)) in
      ap (λ z. z ∷ xs) first
      ∙ ap (λ zs. y ∷ zs)
      (same_rising xs ys up.1 down.1 (λ z here. rest z first (to z (inr here)) here)
      (λ z here. back z first (from z (inr here)) here))
    where
      firsts : In x (y ∷ ys) → In y (x ∷ xs) → x ≡ y
      firsts (inl same) there = sym same
      firsts (inr more) (inl same) = same
      firsts (inr more) (inr less) =
          let one = of_in (λ z. key y < key z) ys x down.0 more in
          let two = of_in (λ z. key x < key z) xs y up.0 less in absurd (omega arith)

      rest : (z : X) → x ≡ y → In z (y ∷ ys) → In z xs → In z ys
      rest z first (inl same) here =
          let more = of_in (λ w. key x < key w) xs z up.0 here in
          let equal : key x ≡ key z = ap key (first ∙ same) in absurd (omega arith)
      rest z first (inr more) here = more

      back : (z : X) → x ≡ y → In z (x ∷ xs) → In z ys → In z xs
      back z first (inl same) here =
          let more = of_in (λ w. key y < key w) ys z down.0 here in
          let equal : key y ≡ key z = ap key (sym first ∙ same) in absurd (omega arith)
      back z first (inr more) here = more

-- ---- what is found of each item, and sorted

module _ {X : Type 0} (g : X → ℕ) (f : ℕ → Option X) (own : (i : ℕ) (x : X) → f i ≡ Some x → g x ≡ i) (n : ℕ)
    (sorted : List X) (moved : IsPermutation (found_in f (range_with_len 0 n)) sorted) where
  abbrev every : List X
  every = found_in f (range_with_len 0 n)

  pub sorted_found : (x : X) → In x sorted → f (g x) ≡ Some x
  sorted_found x here =
      found_is g f own (range_with_len 0 n) x
      (contained_in every x
      (Contains-permutation sorted every x (IsPermutation-sym every sorted moved) (in_contained sorted x here)))

  found_sorted : (x : X) → g x < n → f (g x) ≡ Some x → In x sorted
  found_sorted x less is =
      contained_in sorted x
      (Contains-permutation every sorted x moved (in_contained every x (is_found g f own n x less is)))

  few_sorted : (i : ℕ) → sum_by (one_of g i) sorted ≤ 1
  few_sorted i =
      omega (
        arith,
        sum_by-IsPermutation (one_of g i) every sorted moved,
        once_each g every i (found_rise g f own n),
      )

  pub sorted_is : (key : X → ℕ) (target : List X) → IsNonDecreasingBy key sorted → RisesBy key target
      → ((x : X) → In x target → (g x < n) × (f (g x) ≡ Some x)) → ((x : X) → f (g x) ≡ Some x → In x target)
      → sorted ≡ target
  sorted_is key target up rises of to =
      same_rising key sorted target
      (sorted_rise g key sorted up few_sorted
      (λ x y hx hy same. ap g
      (rises_unique key target x y rises (to x (sorted_found x hx)) (to y (sorted_found y hy)) same))) rises
      (λ x here. to x (sorted_found x here)) (λ y here. found_sorted y (of y here).0 (of y here).1)
