-- Folds: what each step adds, what each step keeps, and the one number of a range that is picked.
use Rattle.std.proofs.Common.{◌≡◌, ℕ, zero, suc, ◌+◌, ◌<◌, ◌≤◌, ◌==◌, Bool, true, false, List, [], ◌∷◌, ◌++◌, fold}
use Rattle.std.proofs.Common.{⊎_elim, flat_map, refl, sym, ap, ◌∙◌, append-nil, append_assoc, arith, eq-eqb}
use Rattle.std.specs.Prelude.{if◌then◌else◌}
use Rattle.std.specs.List.{range_with_len}
use Rattle.std.proofs.lemmas.Bool.{cases_eq, ne_eqb}

-- where each step adds its own to what is seen, all is seen in the end
pub sees_all : {D X A : Type 0} (step : D → X → D) (see : D → List A) (own : X → List A)
    → ((d : D) (x : X) → see (step d x) ≡ see d ++ own x) → (xs : List X) (d : D)
    → see (fold step d xs) ≡ see d ++ flat_map own xs
sees_all step see own each [] d = sym (append-nil (see d))
sees_all step see own each (x ∷ xs) d =
    sees_all step see own each xs (step d x) ∙ ap (λ l. l ++ flat_map own xs) (each d x)
    ∙ append_assoc (see d) (own x) (flat_map own xs)

-- what each step keeps
pub keeps_all : {D X : Type 0} (step : D → X → D) (P : D → Type 0) → ((d : D) (x : X) → P d → P (step d x))
    → (xs : List X) (d : D) → P d → P (fold step d xs)
keeps_all step P each [] d h = h
keeps_all step P each (x ∷ xs) d h = keeps_all step P each xs (step d x) (each d x h)

-- of a range one number alone has something
module _ {X : Type 0} (k : ℕ) (ys : ℕ → List X) where
  abbrev pub only : ℕ → List X
  only i = if i == k then ys i else []

  only_at : (i : ℕ) → i ≡ k → only i ≡ ys i
  only_at i is = ap (λ b. if b then ys i else []) (eq-eqb i k is)

  only_not : (i : ℕ) → ((i ≡ k) → ⊥) → only i ≡ []
  only_not i other = ap (λ b. if b then ys i else []) (ne_eqb i k other)

  pub none_picked : (a n : ℕ) → k < a → flat_map only (range_with_len a n) ≡ []
  none_picked a zero less = refl
  none_picked a (suc n) less =
      ap (λ l. l ++ flat_map only (range_with_len (a + 1) n)) (only_not a (λ same. omega arith))
      ∙ none_picked (a + 1) n (omega arith)

  pub none_below : (a n : ℕ) → a + n ≤ k → flat_map only (range_with_len a n) ≡ []
  none_below a zero less = refl
  none_below a (suc n) less =
      ap (λ l. l ++ flat_map only (range_with_len (a + 1) n)) (only_not a (λ same. omega arith))
      ∙ none_below (a + 1) n (omega arith)

  pub picked : (a n : ℕ) → a ≤ k → k < a + n → flat_map only (range_with_len a n) ≡ ys k
  picked a zero low high = absurd (omega arith)
  picked a (suc n) low high =
      ⊎_elim
      (λ same. ap (λ l. l ++ flat_map only (range_with_len (a + 1) n)) (only_at a same)
      ∙ ap (λ l. ys a ++ l) (none_picked (a + 1) n (omega arith)) ∙ append-nil (ys a) ∙ ap ys same)
      (λ differs. ap (λ l. l ++ flat_map only (range_with_len (a + 1) n)) (only_not a differs)
      ∙ picked (a + 1) n (omega arith) (omega arith))
      (cases_eq a k)

pub same_if : {X : Type 0} (b : Bool) (x : X) → (if b then x else x) ≡ x
same_if true x = refl
same_if false x = refl
