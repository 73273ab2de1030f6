-- Whether an item waits.
use Rattle.cmwq_json_script.specs.Common.{◌≡◌, ◌||◌, Bool, List, [], ◌∷◌, map, refl, ap, list_any}

pub any_unmapped : {X Y : Type 0} (p : Y → Bool) (f : X → Y) (xs : List X)
    → list_any p (map f xs) ≡ list_any (λ x. p (f x)) xs
any_unmapped p f [] = refl
any_unmapped p f (x ∷ xs) = ap (λ b. p (f x) || b) (any_unmapped p f xs)
