-- Lists that rise by a number of each element.
use Rattle.std.proofs.Common.{◌≡◌, ◌<◌, ◌≤◌, ℕ, Bool, true, List, [], ◌∷◌, ◌++◌, filter, find, Some, sym, ap, ◌∙◌}
use Rattle.std.proofs.Common.{arith, ⊎_elim}
use Rattle.std.specs.List.{AllByRecursion}
use Rattle.cmwq_lemmas.proofs.Lists.{All_map, All_append, All_filter}
use Rattle.cmwq_lemmas.proofs.Members.{In, of_in}

module _ {X : Type 0} (f : X → ℕ) where
  abbrev pub RisesBy : List X → Type 0
  RisesBy [] = Unit {0}
  RisesBy (x ∷ xs) = AllByRecursion (λ y. f x < f y) xs × RisesBy xs

  pub rises_filter : (p : X → Bool) (xs : List X) → RisesBy xs → RisesBy (filter p xs)
  rises_filter p [] h = tt
  rises_filter p (x ∷ xs) h =
      let later =
      All_filter (λ y. f x < f y) p xs
      (All_map (λ y. f x < f y) (λ y. p y ≡ true → f x < f y) xs (λ y less passes. less) h.0) in
      grind (arith, later, rises_filter p xs h.1)

  pub rises_snoc : (xs : List X) (y : X) → RisesBy xs → AllByRecursion (λ x. f x < f y) xs → RisesBy (xs ++ y ∷ [])
  rises_snoc [] y h k = (tt, tt)
  rises_snoc (x ∷ xs) y h k = (All_append (λ z. f x < f z) xs (y ∷ []) h.0 (k.0, tt), rises_snoc xs y h.1 k.1)

  -- an element is known by its number
  pub rises_unique : (xs : List X) (x y : X) → RisesBy xs → In x xs → In y xs → f x ≡ f y → x ≡ y
  rises_unique [] x y h i j e = absurd i
  rises_unique (z ∷ zs) x y h i j e =
      ⊎_elim (λ a. ⊎_elim (λ b. sym a ∙ b) (λ l. absurd (less x y a (of_in (λ w. f z < f w) zs y h.0 l) e)) j)
      (λ k. ⊎_elim (λ b. absurd (less y x b (of_in (λ w. f z < f w) zs x h.0 k) (sym e)))
      (λ l. rises_unique zs x y h.1 k l e) j) i
    where
      less : (a b : X) → z ≡ a → f z < f b → f a ≡ f b → ⊥
      less a b is order same = let here : f z ≡ f a = ap f is in omega arith

  -- of those that pass, the one with the least number is found
  pub find_is : (p : X → Bool) (xs : List X) (x : X) → RisesBy xs → In x xs → p x ≡ true
      → AllByRecursion (λ y. p y ≡ true → f x ≤ f y) xs → find p xs ≡ Some x
  find_is p [] x h i passes least = absurd i
  find_is p (y ∷ ys) x h i passes least =
      grind (arith, find_is p ys x h.1, of_in (λ z. f y < f z) ys x h.0, least.0, least.1)
