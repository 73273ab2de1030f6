-- What is made of each number of a range, one more.
use Rattle.std.proofs.Common.{◌≡◌, ℕ, ◌+◌, List, [], ◌∷◌, ◌++◌, map, append_assoc, sym, ap, ◌∙◌, arith}
use Rattle.std.proofs.lemmas.List.FromFn.{map-range_with_len_more}
use Rattle.std.specs.List.{range_with_len}

pub one_mapped : {X : Type 0} (f : ℕ → X) (base old new : List X) (n : ℕ) → old ≡ base ++ map f (range_with_len 0 n)
    → new ≡ old ++ f n ∷ [] → new ≡ base ++ map f (range_with_len 0 (n + 1))
one_mapped f base old new n so_far more =
    more ∙ ap (λ l. l ++ f n ∷ []) so_far ∙ append_assoc base (map f (range_with_len 0 n)) (f n ∷ [])
    ∙ ap (λ l. base ++ l) (sym (map-range_with_len_more f 0 n n (omega arith)))
