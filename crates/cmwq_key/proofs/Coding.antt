-- How the numbers of a key are written one after the other.
use Rattle.std.proofs.Common.{ℕ, zero, suc, ◌≡◌, ◌+◌, ◌<◌, ◌≤◌, List, [], ◌∷◌, ◌++◌, length, take, get_or, map, ap, sym}
use Rattle.std.proofs.Common.{◌∙◌, append_assoc, add-one, arith, refl, Option, option_to_list}
use Rattle.std.specs.List.{flat_map, range_with_len}
use Rattle.std.proofs.lemmas.List.{append-nil, take_more}
use Rattle.std.proofs.lemmas.Grind.{flat_map-append}
use Rattle.cmwq_key.specs.Codes.{code, codes, told_list}
use Rattle.cmwq_play.proofs.First.{range_next}

-- the numbers of both, one after the other
pub codes_append : (xs ys : List ℕ) → codes (xs ++ ys) ≡ codes xs ++ codes ys
unfolding codes
codes_append xs ys = flat_map-append code xs ys

pub codes_none : codes [] ≡ []
unfolding codes
codes_none = refl

pub codes_one : (n : ℕ) → codes (n ∷ []) ≡ code n
unfolding codes
codes_one n = append-nil (code n)

-- nothing more is written
pub none_more : (key : List ℕ) → key ≡ key ++ codes []
none_more key = sym (ap (λ xs. key ++ xs) codes_none ∙ append-nil key)

-- after some, others are written
pub codes_more : (key xs ys : List ℕ) → (key ++ codes xs) ++ codes ys ≡ key ++ codes (xs ++ ys)
codes_more key xs ys = append_assoc key (codes xs) (codes ys) ∙ ap (λ zs. key ++ zs) (sym (codes_append xs ys))

pub then_more : (key k k2 xs ys : List ℕ) → k ≡ key ++ codes xs → k2 ≡ k ++ codes ys → k2 ≡ key ++ codes (xs ++ ys)
then_more key k k2 xs ys first second = second ∙ ap (λ zs. zs ++ codes ys) first ∙ codes_more key xs ys

-- ---- one of several more

flat_push : {A : Type 0} (f : A → List ℕ) (xs : List A) (x : A) → flat_map f (xs ++ x ∷ []) ≡ flat_map f xs ++ f x
flat_push f xs x = flat_map-append f xs (x ∷ []) ∙ ap (λ ys. flat_map f xs ++ ys) (append-nil (f x))

pub list_begins : {A : Type 0} (told : A → List ℕ) (xs : List A) (key k : List ℕ) (n : ℕ) → k ≡ key ++ codes (n ∷ [])
    → k ≡ key ++ codes (n ∷ flat_map told (take 0 xs))
list_begins told xs key k n is = is

pub list_goes_on : {A : Type 0} (told : A → List ℕ) (xs : List A) (d : A) (key k k2 : List ℕ) (n i : ℕ) → i < length xs
    → k ≡ key ++ codes (n ∷ flat_map told (take i xs)) → k2 ≡ k ++ codes (told (get_or xs i d))
    → k2 ≡ key ++ codes (n ∷ flat_map told (take (i + 1) xs))
list_goes_on told xs d key k k2 n i less so_far one =
    then_more key k k2 (n ∷ flat_map told (take i xs)) (told (get_or xs i d)) so_far one
    ∙ ap (λ ys. key ++ codes (n ∷ ys)) (sym (flat_push told (take i xs) (get_or xs i d)))
    ∙ ap (λ ys. key ++ codes (n ∷ flat_map told ys)) (sym (take_more xs i d less))

-- the numbers themselves, one after the other
pub numbers_go_on : (xs : List ℕ) (d : ℕ) (key k k2 : List ℕ) (i : ℕ) → i < length xs → k ≡ key ++ codes (take i xs)
    → k2 ≡ k ++ code (get_or xs i d) → k2 ≡ key ++ codes (take (i + 1) xs)
numbers_go_on xs d key k k2 i less so_far one =
    then_more key k k2 (take i xs) (get_or xs i d ∷ []) so_far
    (one ∙ ap (λ ys. k ++ ys) (sym (codes_one (get_or xs i d))))
    ∙ ap (λ ys. key ++ codes ys) (sym (take_more xs i d less))

-- of the first so many
range_push : {A : Type 0} (f : ℕ → List A) (n : ℕ) → flat_map f (range_with_len 0 (n + 1))
    ≡ flat_map f (range_with_len 0 n) ++ f n
range_push f n =
    ap (λ m. flat_map f (range_with_len 0 m)) (add-one n) ∙ ap (flat_map f) (range_next n)
    ∙ flat_map-append f (range_with_len 0 n) (n ∷ [])
    ∙ ap (λ ys. flat_map f (range_with_len 0 n) ++ ys) (append-nil (f n))

pub rows_go_on : {A : Type 0} (f : ℕ → List A) (xs ys : List A) (n : ℕ) → xs ≡ flat_map f (range_with_len 0 n)
    → ys ≡ xs ++ f n → ys ≡ flat_map f (range_with_len 0 (n + 1))
rows_go_on f xs ys n so_far one = one ∙ ap (λ zs. zs ++ f n) so_far ∙ sym (range_push f n)

pub codes_go_on : (f : ℕ → List ℕ) (key k k2 : List ℕ) (n : ℕ) → k ≡ key ++ codes (flat_map f (range_with_len 0 n))
    → k2 ≡ k ++ codes (f n) → k2 ≡ key ++ codes (flat_map f (range_with_len 0 (n + 1)))
codes_go_on f key k k2 n so_far one =
    then_more key k k2 (flat_map f (range_with_len 0 n)) (f n) so_far one
    ∙ ap (λ ys. key ++ codes ys) (sym (range_push f n))
