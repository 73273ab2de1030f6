-- Elements of lists.
use Rattle.std.proofs.Common.{◌≡◌, ◌<◌, ◌≤◌, ◌+◌, ℕ, map, sym, zero, suc, length, get_or, arith, Bool, true, List, []}
use Rattle.std.proofs.Common.{◌∷◌, ◌++◌, filter, find, Option, Some, None, option_to_list, refl, ap, subst, ◌⊎◌, inl}
use Rattle.std.proofs.Common.{inr, ⊎_elim}
use Rattle.std.specs.Prelude.{Contains, flat_map}
use Rattle.std.specs.List.{AllByRecursion, list_any, range_with_len}
use Rattle.std.proofs.lemmas.Option.{same_Some}
use Rattle.std.proofs.lemmas.List.Concat.{flat_map-cons}
use Rattle.cmwq_lemmas.proofs.Lists.{All_append}

module _ {X : Type 0} where
  abbrev pub In : X → List X → Type 0
  In x [] = ⊥
  In x (y ∷ ys) = (y ≡ x) ⊎ In x ys

  pub of_in : (P : X → Type 0) (xs : List X) (x : X) → AllByRecursion P xs → In x xs → P x
  of_in P [] x h k = absurd k
  of_in P (y ∷ ys) x h k = ⊎_elim (λ e. subst P e h.0) (λ i. of_in P ys x h.1 i) k

  pub all_in : (P : X → Type 0) (xs : List X) → ((x : X) → In x xs → P x) → AllByRecursion P xs
  all_in P [] h = tt
  all_in P (y ∷ ys) h = (h y (inl refl), all_in P ys (λ x i. h x (inr i)))

  pub in_left : (xs ys : List X) (x : X) → In x xs → In x (xs ++ ys)
  in_left [] ys x h = absurd h
  in_left (z ∷ zs) ys x h = ⊎_elim (λ e. inl e) (λ i. inr (in_left zs ys x i)) h

  pub in_right : (xs ys : List X) (x : X) → In x ys → In x (xs ++ ys)
  in_right [] ys x h = h
  in_right (z ∷ zs) ys x h = inr (in_right zs ys x h)

  pub in_append : (xs ys : List X) (x : X) → In x (xs ++ ys) → In x xs ⊎ In x ys
  in_append [] ys x h = inr h
  in_append (z ∷ zs) ys x h =
      ⊎_elim (λ e. inl (inl e)) (λ i. ⊎_elim (λ a. inl (inr a)) (λ b. inr b) (in_append zs ys x i)) h

  pub in_option : (o : Option X) (x : X) → In x (option_to_list o) → o ≡ Some x
  in_option None x h = absurd h
  in_option (Some y) x h = ⊎_elim (λ e. ap Some e) (λ i. absurd i) h

  pub option_in : (o : Option X) (x : X) → o ≡ Some x → In x (option_to_list o)
  option_in None x h = cc
  option_in (Some y) x h = inl (same_Some y x h)

  -- what is kept was there, and passes
  pub in_filter : (p : X → Bool) (xs : List X) (x : X) → In x (filter p xs) → In x xs × (p x ≡ true)
  in_filter p [] x h = absurd h
  in_filter p (y ∷ ys) x h = grind (arith, in_filter p ys x)

  pub filter_in : (p : X → Bool) (xs : List X) (x : X) → In x xs → p x ≡ true → In x (filter p xs)
  filter_in p [] x h passes = absurd h
  filter_in p (y ∷ ys) x h passes = grind (arith, filter_in p ys x)

  -- some of a list passes where one that is there does
  pub any_in : (p : X → Bool) (xs : List X) (x : X) → In x xs → p x ≡ true → list_any p xs ≡ true
  any_in p [] x here is = absurd here
  any_in p (y ∷ ys) x here is = grind (arith, any_in p ys x)

  -- a list without elements
  pub none_in : (xs : List X) → ((x : X) → In x xs → ⊥) → xs ≡ []
  none_in [] h = refl
  none_in (y ∷ ys) h = absurd (h y (inl refl))

  -- what is found is there and passes; where none is found, none passes
  pub found : (p : X → Bool) (xs : List X) (x : X) → find p xs ≡ Some x → In x xs × (p x ≡ true)
  found p [] x h = cc
  found p (y ∷ ys) x h = grind (arith, found p ys x)

  pub in_at : (xs : List X) (k : ℕ) (x : X) → k < length xs → get_or xs k x ≡ x → In x xs
  in_at [] k x less is = absurd (omega arith)
  in_at (y ∷ ys) zero x less is = inl is
  in_at (y ∷ ys) (suc k) x less is = inr (in_at ys k x (omega arith) is)

  pub contained_in : (xs : List X) (x : X) → Contains xs x → In x xs
  contained_in xs x c = in_at xs c.0 x c.1 c.2

  pub in_contained : (xs : List X) (x : X) → In x xs → Contains xs x
  in_contained [] x h = absurd h
  in_contained (y ∷ ys) x h =
      ⊎_elim (λ e. (0, omega arith, e)) (λ i. let c = in_contained ys x i in
      (suc c.0, (let less = c.1 in omega arith), c.2)) h

  -- what holds of each of a list, and of one more
  pub all_more : (P : X → Type 0) (xs : List X) (o : Option X) → AllByRecursion P xs → ((x : X) → o ≡ Some x → P x)
      → AllByRecursion P (xs ++ option_to_list o)
  all_more P xs o h k =
      All_append P xs (option_to_list o) h (all_in P (option_to_list o) (λ x i. k x (in_option o x i)))

  pub in_any : (p : X → Bool) (xs : List X) → list_any p xs ≡ true → (x : X) × In x xs × (p x ≡ true)
  in_any p [] h = cc
  in_any p (y ∷ ys) h = grind (arith, in_any p ys)

pub in_map : {X Y : Type 0} (f : X → Y) (xs : List X) (y : Y) → In y (map f xs) → (x : X) × In x xs × (f x ≡ y)
in_map f [] y h = absurd h
in_map f (x ∷ xs) y h = grind (arith, in_map f xs y)

pub in_mapped : {X Y : Type 0} (f : X → Y) (xs : List X) (x : X) → In x xs → In (f x) (map f xs)
in_mapped f [] x h = h
in_mapped f (y ∷ ys) x h = grind (arith, in_mapped f ys x)

pub flat_in : {X Y : Type 0} (f : X → List Y) (xs : List X) (x : X) (y : Y) → In x xs → In y (f x)
    → In y (flat_map f xs)
flat_in f [] x y i k = absurd i
flat_in f (z ∷ zs) x y i k =
    subst (In y) (sym (flat_map-cons f z zs))
    (⊎_elim (λ e. in_left (f z) (flat_map f zs) y (subst (λ w. In y (f w)) (sym e) k))
    (λ j. in_right (f z) (flat_map f zs) y (flat_in f zs x y j k)) i)

pub in_some : (ns : List ℕ) (n : ℕ) → In n ns → 0 < length ns
in_some [] n h = absurd h
in_some (m ∷ ms) n h = omega arith

pub in_range : (a n x : ℕ) → a ≤ x → x < a + n → In x (range_with_len a n)
in_range a zero x low high = absurd (omega arith)
in_range a (suc n) x low high = grind (arith, in_range (a + 1) n x)
