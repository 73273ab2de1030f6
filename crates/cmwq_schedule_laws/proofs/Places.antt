-- Elements of lists at their places: one that is set, the last one, and one more.
use Rattle.std.proofs.Common.{◌≡◌, ◌≤◌, ◌∙◌, ◌⊎◌, ◌<◌, ◌++◌, ◌∷◌, ℕ, zero, suc, List, [], Some, None}
use Rattle.std.proofs.Common.{length, take, slice_get, slice_set, refl, sym, ap, subst, arith, inl, inr, ⊎_elim}

-- what is set stands there
pub set_here : {X : Type 0} (xs : List X) (k : ℕ) (x y : X) → slice_get xs k ≡ Some x
    → slice_get (slice_set xs k y) k ≡ Some y
set_here [] k x y is = absurd (cc is)
set_here (z ∷ zs) zero x y is = refl
set_here (z ∷ zs) (suc k) x y is = set_here zs k x y is

-- and the others stay
pub set_others : {X : Type 0} (xs : List X) (k j : ℕ) (y : X) → (j ≡ k → ⊥)
    → slice_get (slice_set xs k y) j ≡ slice_get xs j
set_others [] k j y other = refl
set_others (z ∷ zs) zero zero y other = absurd (other refl)
set_others (z ∷ zs) zero (suc j) y other = refl
set_others (z ∷ zs) (suc k) zero y other = refl
set_others (z ∷ zs) (suc k) (suc j) y other = set_others zs k j y (λ same. other (ap suc same))

pub set_long : {X : Type 0} (xs : List X) (k : ℕ) (y : X) → length (slice_set xs k y) ≡ length xs
set_long [] k y = refl
set_long (z ∷ zs) zero y = refl
set_long (z ∷ zs) (suc k) y = ap suc (set_long zs k y)

-- a place of the front
pub take_there : {X : Type 0} (xs : List X) (n i : ℕ) (x : X) → slice_get (take n xs) i ≡ Some x
    → (slice_get xs i ≡ Some x) × (i < n)
take_there [] zero i x is = absurd (cc is)
take_there [] (suc n) i x is = absurd (cc is)
take_there (y ∷ ys) zero i x is = absurd (cc is)
take_there (y ∷ ys) (suc n) zero x is = (is, omega arith)
take_there (y ∷ ys) (suc n) (suc i) x is =
    let there = take_there ys n i x is in
    (there.0, (let less = there.1 in omega arith))

-- where there is none, the list has ended
pub ended_there : {X : Type 0} (xs : List X) (n : ℕ) → slice_get xs n ≡ None → length xs ≤ n
ended_there [] n none = omega arith
ended_there (x ∷ xs) zero none = absurd (cc none)
ended_there (x ∷ xs) (suc n) none = let over = ended_there xs n none in omega arith

-- one more at the end
pub pushed : {X : Type 0} (xs : List X) (y x : X) (i : ℕ) → slice_get (xs ++ y ∷ []) i ≡ Some x
    → (slice_get xs i ≡ Some x) ⊎ ((i ≡ length xs) × (y ≡ x))
pushed [] y x zero is = inr (refl, cc is)
pushed [] y x (suc i) is = absurd (cc is)
pushed (z ∷ zs) y x zero is = inl is
pushed (z ∷ zs) y x (suc i) is =
    ⊎_elim (λ (old : slice_get zs i ≡ Some x). inl old)
    (λ (new : (i ≡ length zs) × (y ≡ x)). inr (ap suc new.0, new.1)) (pushed zs y x i is)

-- two numbers are the same, or not
pub same_or_not : (a b : ℕ) → (a ≡ b) ⊎ (a ≡ b → ⊥)
same_or_not zero zero = inl refl
same_or_not zero (suc b) = inr (λ same. cc same)
same_or_not (suc a) zero = inr (λ same. cc same)
same_or_not (suc a) (suc b) =
    ⊎_elim (λ (same : a ≡ b). inl (ap suc same)) (λ (other : a ≡ b → ⊥). inr (λ same. other (omega arith)))
    (same_or_not a b)

-- what holds of the element that is set, and of the others
pub set_each : {X : Type 0} (P : ℕ → X → Type 0) (xs : List X) (k : ℕ) (x y : X) → slice_get xs k ≡ Some x → P k y
    → ((j : ℕ) (z : X) → (j ≡ k → ⊥) → slice_get xs j ≡ Some z → P j z) → (j : ℕ) (z : X)
    → slice_get (slice_set xs k y) j ≡ Some z → P j z
set_each {X} P xs k x y is here others j z at = by (same_or_not j k)
  where
    by : (j ≡ k) ⊎ (j ≡ k → ⊥) → P j z
    by (inl same) =
        let got : slice_get (slice_set xs k y) k ≡ Some z = subst
        (λ (i : ℕ). slice_get (slice_set xs k y) i ≡ Some z) same at in
        let one : y ≡ z = cc (set_here xs k x y is, got) in
        subst (λ (i : ℕ). P i z) (sym same) (subst (λ (w : X). P k w) one here)
    by (inr other) = others j z other (sym (set_others xs k j y other) ∙ at)
