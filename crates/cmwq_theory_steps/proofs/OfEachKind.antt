-- Lists of which each element is of one of some kinds.
use Rattle.cmwq_theory_steps.specs.Common.{◌==◌, ◌<◌, ◌≤◌, ℕ, zero, suc, Bool, not, List, [], ◌∷◌, length, filter}
use Rattle.cmwq_theory_steps.specs.Common.{count_by, refl, arith, ◌*◌, AllByRecursion, nat_tests, length-filter_both}
use Rattle.cmwq_theory_steps.specs.Common.{length-filter, All_map, All_filter}
use Rattle.cmwq_lemmas.proofs.Passing.{fewer_kept}

-- a list with at most k of each of n kinds is no longer than k times n
module _ {X : Type 0} (kind : X → ℕ) (k : ℕ) where
  abbrev is_kind : ℕ → X → Bool
  is_kind n x = kind x == n

  abbrev is_other : ℕ → X → Bool
  is_other n x = not (kind x == n)

  pub no_longer : (n : ℕ) (xs : List X) → AllByRecursion (λ x. kind x < n) xs → ((i : ℕ) → count_by (is_kind i) xs ≤ k)
      → length xs ≤ k * n
  no_longer zero [] below few = omega arith
  no_longer zero (x ∷ xs) below few = absurd (omega (arith, below.0))
  no_longer (suc n) xs below few =
      let rest =
      All_filter (λ x. kind x < n) (is_other n) xs
      (All_map _ _ xs (λ x less other. grind (arith, nat_tests)) below) in
      omega (
        arith,
        length-filter_both (is_kind n) (is_other n) (λ x. refl) xs,
        length-filter (is_kind n) xs,
        few n,
        no_longer n (filter (is_other n) xs) rest (λ i. omega (arith, few i, fewer_kept (is_kind i) (is_other n) xs)),
      )
