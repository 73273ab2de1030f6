-- Five numbers, one by one.
use Rattle.std.proofs.Common.{arith, ◌≡◌, ℕ, List, [], ◌∷◌, length, slice_index_or, refl}

pub five : (ns : List ℕ) → length ns ≡ 5
    → slice_index_or ns 0 0 ∷ slice_index_or ns 1 0 ∷ slice_index_or ns 2 0 ∷ slice_index_or ns 3 0
    ∷ slice_index_or ns 4 0 ∷ [] ≡ ns
five [] is = grind arith
five (a ∷ []) is = grind arith
five (a ∷ b ∷ []) is = grind arith
five (a ∷ b ∷ c ∷ []) is = grind arith
five (a ∷ b ∷ c ∷ d ∷ []) is = grind arith
five (a ∷ b ∷ c ∷ d ∷ e ∷ []) is = refl
five (a ∷ b ∷ c ∷ d ∷ e ∷ f ∷ rest) is = grind arith
