-- Lists of what has been renumbered.
use Rattle.cmwq_alike.specs.Common.{◌≡◌, ◌&&◌, Bool, true, false}
use Rattle.cmwq_alike.specs.Common.{List, [], ◌∷◌, filter, find, count_by, map}
use Rattle.cmwq_alike.specs.Common.{option_map, arith, refl}
use Rattle.cmwq_alike.specs.Common.{ap₂, AllByRecursion, count_by-cons}

pub filter_mapped : {X Y : Type 0} (g : X → Y) (p : Y → Bool) (q : X → Bool) (xs : List X)
    → AllByRecursion (λ x. p (g x) ≡ q x) xs → filter p (map g xs) ≡ map g (filter q xs)
filter_mapped g p q [] h = refl
filter_mapped g p q (x ∷ xs) h = grind (arith, h.0, filter_mapped g p q xs h.1)

pub find_mapped : {X Y : Type 0} (g : X → Y) (p : Y → Bool) (q : X → Bool) (xs : List X)
    → AllByRecursion (λ x. p (g x) ≡ q x) xs → find p (map g xs) ≡ option_map g (find q xs)
find_mapped g p q [] h = refl
find_mapped g p q (x ∷ xs) h = grind (arith, h.0, find_mapped g p q xs h.1)

pub count_mapped : {X Y : Type 0} (g : X → Y) (p : Y → Bool) (q : X → Bool) (xs : List X)
    → AllByRecursion (λ x. p (g x) ≡ q x) xs → count_by p (map g xs) ≡ count_by q xs
count_mapped g p q [] h = refl
count_mapped g p q (x ∷ xs) h =
    grind (arith, count_by-cons p (g x) (map g xs), count_by-cons q x xs, h.0, count_mapped g p q xs h.1)

pub map_alike : {X Y : Type 0} (g h : X → Y) (xs : List X) → AllByRecursion (λ x. g x ≡ h x) xs → map g xs ≡ map h xs
map_alike g h [] same = refl
map_alike g h (x ∷ xs) same = ap₂ (λ y ys. y ∷ ys) same.0 (map_alike g h xs same.1)

-- a part need be the same only where the other holds
pub both_parts : (a b c : Bool) → (a ≡ true → b ≡ c) → (a && b) ≡ (a && c)
both_parts true b c same = same refl
both_parts false b c same = refl
