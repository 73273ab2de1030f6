-- Filtered lists.
use Rattle.std.proofs.Common.{◌≤◌, ◌+◌, count_by, find, Some, None, option_to_list, arith, ◌≡◌, Bool, true, false, cond}
use Rattle.std.proofs.Common.{◌&&◌, List, [], ◌∷◌, filter, refl, sym, ap₂, ◌∙◌}
use Rattle.std.specs.List.{AllByRecursion}
use Rattle.cmwq_lemmas.proofs.Lists.{All_map, All_each, count_by-cons}

module _ {X : Type 0} where
  -- those that pass p of those that pass q
  pub filter_twice : (p q : X → Bool) (xs : List X) → filter p (filter q xs) ≡ filter (λ x. q x && p x) xs
  filter_twice p q [] = refl
  filter_twice p q (x ∷ xs) = grind (arith, filter_twice p q xs)

  -- tests that agree on each element
  pub filter_same : (p q : X → Bool) (xs : List X) → AllByRecursion (λ x. p x ≡ q x) xs → filter p xs ≡ filter q xs
  filter_same p q [] h = refl
  filter_same p q (x ∷ xs) h = ap₂ (λ b ys. cond b (x ∷ ys) ys) h.0 (filter_same p q xs h.1)

  pub find_same : (p q : X → Bool) (xs : List X) → AllByRecursion (λ x. p x ≡ q x) xs → find p xs ≡ find q xs
  find_same p q [] h = refl
  find_same p q (x ∷ xs) h = ap₂ (λ b o. cond b (Some x) o) h.0 (find_same p q xs h.1)

  pub filter_none : (p : X → Bool) (xs : List X) → AllByRecursion (λ x. p x ≡ false) xs → filter p xs ≡ []
  filter_none p [] h = refl
  filter_none p (x ∷ xs) h = ap₂ (λ b ys. cond b (x ∷ ys) ys) h.0 (filter_none p xs h.1)

  pub count_by-same : (p q : X → Bool) (xs : List X) → AllByRecursion (λ x. p x ≡ q x) xs
      → count_by p xs ≡ count_by q xs
  count_by-same p q [] h = refl
  count_by-same p q (x ∷ xs) h = count_by-cons p x xs ∙ ap₂ (λ b n. cond b 1 0 + n) h.0 (count_by-same p q xs h.1)
      ∙ sym (count_by-cons q x xs)

  -- a test that passes only what a wider one does passes no more
  pub count_by-wider : (p q : X → Bool) (xs : List X) → AllByRecursion (λ x. p x ≡ true → q x ≡ true) xs
      → count_by p xs ≤ count_by q xs
  count_by-wider p q [] h = omega arith
  count_by-wider p q (x ∷ xs) h =
      grind (arith, count_by-cons p x xs, count_by-cons q x xs, h.0, count_by-wider p q xs h.1)

  -- and fewer, where an element passes the wider test alone
  pub count_by-fewer : (xs : List X)
      → AllByRecursion (λ x. (p q : X → Bool) → ((y : X) → p y ≡ true → q y ≡ true) → p x ≡ false → q x ≡ true
      → count_by p xs + 1 ≤ count_by q xs) xs
  count_by-fewer [] = tt
  count_by-fewer (x ∷ xs) = (
    λ p q h fails passes. grind (
      arith,
      count_by-cons p x xs,
      count_by-cons q x xs,
      count_by-wider p q xs (All_each _ xs h),
    ),
    All_map _ _ xs
        (λ y earlier p q h fails passes.
        grind (arith, count_by-cons p x xs, count_by-cons q x xs, h x, earlier p q h fails passes)) (count_by-fewer xs),
  )

  pub count_none : (p : X → Bool) (xs : List X) → count_by p xs ≡ 0 → AllByRecursion (λ x. p x ≡ false) xs
  count_none p [] h = tt
  count_none p (x ∷ xs) h = grind (arith, count_by-cons p x xs, count_none p xs)

  pub none_found : (p : X → Bool) (xs : List X) → AllByRecursion (λ x. p x ≡ false) xs → find p xs ≡ None
  none_found p [] h = refl
  none_found p (x ∷ xs) h = ap₂ (λ b o. cond b (Some x) o) h.0 (none_found p xs h.1)

  -- where at most one passes, those that pass are the first that does
  pub filter_one : (p : X → Bool) (xs : List X) → count_by p xs ≤ 1 → filter p xs ≡ option_to_list (find p xs)
  filter_one p [] h = refl
  filter_one p (x ∷ xs) h = grind (arith, count_by-cons p x xs, filter_none p xs, count_none p xs, filter_one p xs)

  -- what is found, and passes a test, is found in what passes
  pub find-filter : (p g : X → Bool) (x : X) (xs : List X) → find p xs ≡ Some x → g x ≡ true
      → find p (filter g xs) ≡ Some x
  find-filter p g x [] found passes = cc
  find-filter p g x (y ∷ xs) found passes = grind (arith, find-filter p g x xs)
