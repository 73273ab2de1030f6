-- Tests that a list passes up to a place and fails from there on.
use Rattle.cmwq_theory_steps.specs.Common.{◌≡◌, ◌≤◌, ◌+◌, max, Bool, true, false, not, ◌&&◌, ◌||◌, List, [], ◌∷◌, ◌++◌}
use Rattle.cmwq_theory_steps.specs.Common.{filter, count_by, take, refl, sym, ap₂, ◌∙◌, arith, AllByRecursion, All_map}
use Rattle.cmwq_theory_steps.specs.Common.{All_both, All_append, count_by-cons, count_by-none}
use Rattle.cmwq_theory_steps.proofs.Lemmas.{add-one, all_kept, cases_Bool, filter_none, or_parts, ⊎_elim}

module _ {X : Type 0} where
  -- the test passes a front of the list
  abbrev pub IsFront : (X → Bool) → List X → Type 0
  IsFront f [] = Unit {0}
  IsFront f (x ∷ xs) = (f x ≡ false → AllByRecursion (λ y. f y ≡ false) xs) × IsFront f xs

  pub front_filter : (f g : X → Bool) (xs : List X) → IsFront f xs → IsFront f (filter g xs)
  front_filter f g [] h = tt
  front_filter f g (x ∷ xs) h =
      grind (arith, front_filter f g xs h.1, λ (none : f x ≡ false). all_kept (λ y. f y ≡ false) g xs (h.0 none))

  front_none : (f : X → Bool) (xs : List X) → AllByRecursion (λ x. f x ≡ false) xs → IsFront f xs
  front_none f [] h = tt
  front_none f (x ∷ xs) h = ((λ none. h.1), front_none f xs h.1)

  pub front_append : (f : X → Bool) (xs ys : List X) → IsFront f xs → AllByRecursion (λ x. f x ≡ false) ys
      → IsFront f (xs ++ ys)
  front_append f [] ys h k = front_none f ys k
  front_append f (x ∷ xs) ys h k = ((λ none. All_append _ xs ys (h.0 none) k), front_append f xs ys h.1 k)

  pub front_same : (f g : X → Bool) (xs : List X) → AllByRecursion (λ x. g x ≡ f x) xs → IsFront f xs → IsFront g xs
  front_same f g [] same h = tt
  front_same f g (x ∷ xs) same h = (
    (λ none. All_both (λ y. g y ≡ f y) (λ y. f y ≡ false) _ xs (λ y s k. s ∙ k) same.1 (h.0 (sym same.0 ∙ none))),
    front_same f g xs same.1 h.1,
  )

  pub front_or : (f g : X → Bool) (xs : List X) → IsFront f xs → IsFront g xs → IsFront (λ x. f x || g x) xs
  front_or f g [] h k = tt
  front_or f g (x ∷ xs) h k = (
    λ none. let both = or_parts (f x) (g x) none in
        All_both (λ y. f y ≡ false) (λ y. g y ≡ false) _ xs (λ y hf hg. ap₂ (λ a b. a || b) hf hg) (h.0 both.0)
        (k.0 both.1),
    front_or f g xs h.1 k.1,
  )

  -- what passes is a front as long as there are such
  pub front_taken : (f : X → Bool) (xs : List X) → IsFront f xs → filter f xs ≡ take (count_by f xs) xs
  front_taken f [] h = refl
  front_taken f (x ∷ xs) h =
      let none : f x ≡ false → filter f xs ≡ [] = λ fails. filter_none f xs (h.0 fails) in
      let zero : f x ≡ false → count_by f xs ≡ 0 = λ fails. count_by-none f xs (h.0 fails) in
      let more : take (count_by f xs + 1) (x ∷ xs) ≡ x ∷ take (count_by f xs) xs = rw add-one refl in
      let nothing : take 0 (x ∷ xs) ≡ [] = refl in
      grind (arith, count_by-cons f x xs, front_taken f xs h.1)

  -- of two such tests the one that passes more decides
  pub count_or : (f g : X → Bool) (xs : List X) → IsFront f xs → IsFront g xs
      → count_by (λ x. f x || g x) xs ≡ max (count_by f xs) (count_by g xs)
  count_or f g [] h k = refl
  count_or f g (x ∷ xs) h k =
      let left : f x ≡ false → count_by f xs ≡ 0 = λ fails. count_by-none f xs (h.0 fails) in
      let right : g x ≡ false → count_by g xs ≡ 0 = λ fails. count_by-none g xs (k.0 fails) in
      grind (
        arith,
        count_by-cons (λ y. f y || g y) x xs,
        count_by-cons f x xs,
        count_by-cons g x xs,
        count_or f g xs h.1 k.1,
      )

  -- where one passes g alone, g passes more
  pub front_less : (f g : X → Bool) (xs : List X) → IsFront f xs → IsFront g xs
      → AllByRecursion (λ x. f x ≡ false → g x ≡ true → count_by f xs ≤ count_by g xs) xs
  front_less f g [] h k = tt
  front_less f g (x ∷ xs) h k =
      let left = count_by-cons f x xs in
      let right = count_by-cons g x xs in
      let fails : f x ≡ false → count_by f xs ≡ 0 = λ none. count_by-none f xs (h.0 none) in (
        grind arith,
        ⊎_elim (λ yes. All_map (λ y. f y ≡ false → g y ≡ true → count_by f xs ≤ count_by g xs) _ xs
            (λ y less. grind arith) (front_less f g xs h.1 k.1))
            (λ no. All_map (λ y. g y ≡ false) _ xs (λ y none. grind arith) (k.0 no)) (cases_Bool (g x)),
      )

  -- those that pass are those that pass another test too and those that don't
  pub count_split : (f g : X → Bool) (xs : List X)
      → count_by f xs ≡ count_by (λ x. f x && g x) xs + count_by (λ x. f x && not (g x)) xs
  count_split f g [] = refl
  count_split f g (x ∷ xs) =
      grind (
        arith,
        count_by-cons f x xs,
        count_by-cons (λ y. f y && g y) x xs,
        count_by-cons (λ y. f y && not (g y)) x xs,
        count_split f g xs,
      )
