-- The first element that passes, found in turn.
use Rattle.std.proofs.Common.{◌≡◌, ◌<◌, ◌+◌, ℕ, zero, suc, Bool, true, false, List, [], ◌∷◌, length, take, find, get_or}
use Rattle.std.proofs.Common.{Some, None, arith, add-one}

pub found_here : {X : Type 0} (p : X → Bool) (xs : List X) (i : ℕ) (d : X) → i < length xs → find p (take i xs) ≡ None
    → p (get_or xs i d) ≡ true → find p xs ≡ Some (get_or xs i d)
found_here p [] i d less none here = absurd (omega arith)
found_here p (x ∷ xs) zero d less none here = grind arith
found_here p (x ∷ xs) (suc i) d less none here = grind (arith, found_here p xs i d)

pub none_so_far : {X : Type 0} (p : X → Bool) (xs : List X) (i : ℕ) (d : X) → i < length xs → find p (take i xs) ≡ None
    → p (get_or xs i d) ≡ false → find p (take (i + 1) xs) ≡ None
none_so_far p xs i d less none here = rw add-one (over p xs i d less none here)
  where
    over : {X : Type 0} (p : X → Bool) (ys : List X) (j : ℕ) (d : X) → j < length ys → find p (take j ys) ≡ None
        → p (get_or ys j d) ≡ false → find p (take (suc j) ys) ≡ None
    over p [] j d l n h = absurd (omega arith)
    over p (y ∷ ys) zero d l n h = grind arith
    over p (y ∷ ys) (suc j) d l n h = grind (arith, over p ys j d)
