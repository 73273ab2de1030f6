-- Lists and options that match part by part.
use Rattle.std.proofs.Common.{◌≡◌, ℕ, zero, suc, Bool, false, List, [], ◌∷◌, length, Option, Some, None, ap, ap₂, refl}
use Rattle.std.proofs.Common.{arith, is_some, ◌||◌}
use Rattle.std.specs.Prelude.{slice_get, slice_set}
use Rattle.std.specs.List.{AllByRecursion, list_any}
use Rattle.cmwq_key.specs.Alike.{ListsMatch, OptionsMatch}

pub lists_weaker : {X Y : Type 0} (R S : X → Y → Type 0) (xs : List X) (ys : List Y) → ((x : X) (y : Y) → R x y → S x y)
    → ListsMatch R xs ys → ListsMatch S xs ys
lists_weaker R S [] [] weaker h = tt
lists_weaker R S [] (y ∷ ys) weaker h = absurd h
lists_weaker R S (x ∷ xs) [] weaker h = absurd h
lists_weaker R S (x ∷ xs) (y ∷ ys) weaker h = (weaker x y h.0, lists_weaker R S xs ys weaker h.1)

pub options_weaker : {X Y : Type 0} (R S : X → Y → Type 0) (o : Option X) (p : Option Y)
    → ((x : X) (y : Y) → R x y → S x y)
    → OptionsMatch R o p → OptionsMatch S o p
options_weaker R S None None weaker h = tt
options_weaker R S None (Some y) weaker h = absurd h
options_weaker R S (Some x) None weaker h = absurd h
options_weaker R S (Some x) (Some y) weaker h = weaker x y h

pub equally_long : {X Y : Type 0} (R : X → Y → Type 0) (xs : List X) (ys : List Y) → ListsMatch R xs ys
    → length ys ≡ length xs
equally_long R [] [] h = refl
equally_long R [] (y ∷ ys) h = absurd h
equally_long R (x ∷ xs) [] h = absurd h
equally_long R (x ∷ xs) (y ∷ ys) h = ap suc (equally_long R xs ys h.1)

pub match_at : {X Y : Type 0} (R : X → Y → Type 0) (xs : List X) (ys : List Y) (k : ℕ) → ListsMatch R xs ys
    → OptionsMatch R (slice_get xs k) (slice_get ys k)
match_at R [] [] k h = tt
match_at R [] (y ∷ ys) k h = absurd h
match_at R (x ∷ xs) [] k h = absurd h
match_at R (x ∷ xs) (y ∷ ys) zero h = h.0
match_at R (x ∷ xs) (y ∷ ys) (suc k) h = match_at R xs ys k h.1

pub match_set : {X Y : Type 0} (R : X → Y → Type 0) (xs : List X) (ys : List Y) (k : ℕ) (x : X) (y : Y)
    → ListsMatch R xs ys
    → R x y → ListsMatch R (slice_set xs k x) (slice_set ys k y)
match_set R [] [] k x y h here = tt
match_set R [] (b ∷ ys) k x y h here = absurd h
match_set R (a ∷ xs) [] k x y h here = absurd h
match_set R (a ∷ xs) (b ∷ ys) zero x y h here = (here, h.1)
match_set R (a ∷ xs) (b ∷ ys) (suc k) x y h here = (h.0, match_set R xs ys k x y h.1 here)

pub any_alike : {X Y : Type 0} (R : X → Y → Type 0) (a : X → Bool) (b : Y → Bool) (xs : List X) (ys : List Y)
    → ((x : X) (y : Y) → R x y → b y ≡ a x) → ListsMatch R xs ys → list_any b ys ≡ list_any a xs
any_alike R a b [] [] same h = refl
any_alike R a b [] (y ∷ ys) same h = absurd h
any_alike R a b (x ∷ xs) [] same h = absurd h
any_alike R a b (x ∷ xs) (y ∷ ys) same h = ap₂ (λ c d. c || d) (same x y h.0) (any_alike R a b xs ys same h.1)

pub some_alike : {X Y : Type 0} (R : X → Y → Type 0) (o : Option X) (p : Option Y) → OptionsMatch R o p
    → is_some p ≡ is_some o
some_alike R None None h = refl
some_alike R None (Some y) h = absurd h
some_alike R (Some x) None h = absurd h
some_alike R (Some x) (Some y) h = refl

-- where none of a list passes, none that is read from it does
pub none_at : {X : Type 0} (p : X → Bool) (xs : List X) (k : ℕ) (x : X) → list_any p xs ≡ false
    → slice_get xs k ≡ Some x
    → p x ≡ false
none_at p [] k x none h = absurd (grind arith)
none_at p (y ∷ ys) zero x none h = grind arith
none_at p (y ∷ ys) (suc k) x none h = none_at p ys k x (grind arith) h

-- what holds of each that matches
pub all_left : {X Y : Type 0} (R : X → Y → Type 0) (P : X → Type 0) (xs : List X) (ys : List Y)
    → ((x : X) (y : Y) → R x y → P x) → ListsMatch R xs ys → AllByRecursion P xs
all_left R P [] [] each h = tt
all_left R P [] (y ∷ ys) each h = absurd h
all_left R P (x ∷ xs) [] each h = absurd h
all_left R P (x ∷ xs) (y ∷ ys) each h = (each x y h.0, all_left R P xs ys each h.1)

pub all_right : {X Y : Type 0} (R : X → Y → Type 0) (P : Y → Type 0) (xs : List X) (ys : List Y)
    → ((x : X) (y : Y) → R x y → P y) → ListsMatch R xs ys → AllByRecursion P ys
all_right R P [] [] each h = tt
all_right R P [] (y ∷ ys) each h = absurd h
all_right R P (x ∷ xs) [] each h = absurd h
all_right R P (x ∷ xs) (y ∷ ys) each h = (each x y h.0, all_right R P xs ys each h.1)

-- a list matches itself
pub match_itself : {X : Type 0} (R : X → X → Type 0) (P : X → Type 0) (xs : List X) → ((x : X) → P x → R x x)
    → AllByRecursion P xs → ListsMatch R xs xs
match_itself R P [] each h = tt
match_itself R P (x ∷ xs) each h = (each x h.0, match_itself R P xs each h.1)
