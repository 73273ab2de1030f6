-- What a table of marks says.
use Rattle.std.proofs.Common.{◌≡◌, ℕ, ◌<◌, Bool, false, ◌||◌, List, [], ◌∷◌, Option, Some, refl, ap, ap₂, ◌∙◌}
use Rattle.std.proofs.Common.{slice_get, replicate}
use Rattle.std.proofs.lemmas.List.{get_or-replicate, length-replicate}
use Rattle.std.proofs.lemmas.Option.{slice_get-get_or}
use Rattle.std.specs.List.{list_any}
use Rattle.cmwq_model.specs.Prelude.{is_at}
use Rattle.cmwq_chart.specs.Marks.{AreMarks}

module _ {X : Type 0} (number : X → Option ℕ) where
  pub none_marked : (n : ℕ) → AreMarks number [] n (replicate n false)
  none_marked n = (
    length-replicate n false,
    λ k h. slice_get-get_or (replicate n false) k false (rw length-replicate h)
        ∙ ap Some (get_or-replicate n k false false h),
  )

  -- where something holds of just those elements that have a number
  any_is : (p : X → Bool) (k : ℕ) (xs : List X) → ((x : X) → is_at (number x) k ≡ p x)
      → list_any (λ x. is_at (number x) k) xs ≡ list_any p xs
  any_is p k [] same = refl
  any_is p k (x ∷ xs) same = ap₂ (λ a b. a || b) (same x) (any_is p k xs same)

  pub marked : (p : X → Bool) (xs : List X) (n k : ℕ) (table : List Bool) (b : Bool) → AreMarks number xs n table
      → k < n
      → ((x : X) → is_at (number x) k ≡ p x) → slice_get table k ≡ Some b → b ≡ list_any p xs
  marked p xs n k table b are less same is = let all : slice_get table k ≡ Some (list_any p xs) =
      are.1 k less ∙ ap Some (any_is p k xs same) in cc
