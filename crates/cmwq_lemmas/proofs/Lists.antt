-- Lists: what holds of each element, counts, and ranges of numbers.
use Rattle.std.proofs.Common.{◌≡◌, ◌+◌, ◌<◌, ◌≤◌, ℕ, zero, suc, Bool, true, false, cond, ◌&&◌, List, [], ◌∷◌, ◌++◌}
use Rattle.std.proofs.Common.{length, map, filter, find, count_by, Option, Some, None, option_to_list, replicate, refl}
use Rattle.std.proofs.Common.{sym, ap, ap₂, ◌∙◌, subst, zero-add, arith}
use Rattle.std.proofs.lemmas.List.Sums.{sum_by-append, sum_by-cons}
use Rattle.std.specs.Prelude.{flat_map}
use Rattle.std.specs.List.{AllByRecursion, range_with_len}
use Rattle.std.proofs.lemmas.List.Concat.{flat_map-cons}
use Rattle.std.proofs.lemmas.List.FromFn.{length-range_with_len}

module _ {X : Type 0} where
  pub All_map : (P Q : X → Type 0) (xs : List X) → ((x : X) → P x → Q x) → AllByRecursion P xs → AllByRecursion Q xs
  All_map P Q [] f h = tt
  All_map P Q (x ∷ xs) f h = (f x h.0, All_map P Q xs f h.1)

  pub All_both : (P Q R : X → Type 0) (xs : List X) → ((x : X) → P x → Q x → R x) → AllByRecursion P xs
      → AllByRecursion Q xs → AllByRecursion R xs
  All_both P Q R [] f h k = tt
  All_both P Q R (x ∷ xs) f h k = (f x h.0 k.0, All_both P Q R xs f h.1 k.1)

  pub All_append : (P : X → Type 0) (xs ys : List X) → AllByRecursion P xs → AllByRecursion P ys
      → AllByRecursion P (xs ++ ys)
  All_append P [] ys h k = k
  All_append P (x ∷ xs) ys h k = (h.0, All_append P xs ys h.1 k)

  pub All_each : (P : X → Type 0) (xs : List X) → ((x : X) → P x) → AllByRecursion P xs
  All_each P [] f = tt
  All_each P (x ∷ xs) f = (f x, All_each P xs f)

  -- what holds of each element that passes holds of each of the filtered list
  pub All_filter : (P : X → Type 0) (p : X → Bool) (xs : List X) → AllByRecursion (λ x. p x ≡ true → P x) xs
      → AllByRecursion P (filter p xs)
  All_filter P p [] h = tt
  All_filter P p (x ∷ xs) h = grind (arith, h.0, All_filter P p xs h.1)

  pub count_by-cons : (p : X → Bool) (x : X) (xs : List X) → count_by p (x ∷ xs) ≡ cond (p x) 1 0 + count_by p xs
  count_by-cons p x xs = sum_by-cons (λ y. cond (p y) 1 0) x xs

  -- none passes
  pub count_by-none : (p : X → Bool) (xs : List X) → AllByRecursion (λ x. p x ≡ false) xs → count_by p xs ≡ 0
  count_by-none p [] h = refl
  count_by-none p (x ∷ xs) h = count_by-cons p x xs ∙ ap₂ (λ b n. cond b 1 0 + n) h.0 (count_by-none p xs h.1)

  pub count_by-head : (p : X → Bool) (x : X) (xs : List X) (b : Bool)
      → count_by p (cond b (x ∷ xs) xs) ≡ cond (b && p x) 1 0 + count_by p xs
  count_by-head p x xs true = count_by-cons p x xs
  count_by-head p x xs false = sym (zero-add (count_by p xs))

  -- those that pass both tests are those of the ones that pass the first which pass the second
  pub count_by-filter : (p q r : X → Bool) (xs : List X) → ((x : X) → p x ≡ (q x && r x))
      → count_by p xs ≡ count_by r (filter q xs)
  count_by-filter p q r [] h = refl
  count_by-filter p q r (x ∷ xs) h =
      count_by-cons p x xs ∙ ap₂ (λ b n. cond b 1 0 + n) (h x) (count_by-filter p q r xs h)
      ∙ sym (count_by-head r x (filter q xs) (q x))

  -- where none is found, none passes
  pub find_none : (p : X → Bool) (xs : List X) → find p xs ≡ None → AllByRecursion (λ x. p x ≡ false) xs
  find_none p [] h = tt
  find_none p (x ∷ xs) h = grind (arith, find_none p xs)

  -- what holds of each of the filtered list holds of each element that passes
  pub All_unfilter : (P : X → Type 0) (p : X → Bool) (xs : List X) → AllByRecursion P (filter p xs)
      → AllByRecursion (λ x. p x ≡ true → P x) xs
  All_unfilter P p [] h = tt
  All_unfilter P p (x ∷ xs) h = grind (arith, All_unfilter P p xs)

pub all_mapped : {X Y : Type 0} (f : X → Y) (P : Y → Type 0) (xs : List X) → AllByRecursion (λ x. P (f x)) xs
    → AllByRecursion P (map f xs)
all_mapped f P [] h = tt
all_mapped f P (x ∷ xs) h = (h.0, all_mapped f P xs h.1)

pub filter_all : {X : Type 0} (p : X → Bool) (xs : List X) → AllByRecursion (λ x. p x ≡ true) xs → filter p xs ≡ xs
filter_all p [] h = refl
filter_all p (x ∷ xs) h = ap₂ (λ b ys. cond b (x ∷ ys) ys) h.0 (filter_all p xs h.1)

pub filter_shorter : {X : Type 0} (q : X → Bool) (xs : List X) → length (filter q xs) ≤ length xs
filter_shorter q [] = omega arith
filter_shorter q (x ∷ xs) = grind (arith, filter_shorter q xs)

pub found_passes : {X : Type 0} (p : X → Bool) (xs : List X) (z : X) → find p xs ≡ Some z → p z ≡ true
found_passes p [] z is = cc
found_passes p (x ∷ xs) z is = grind (arith, found_passes p xs z)

pub range_more : (a k : ℕ) → range_with_len a (suc k) ≡ range_with_len a k ++ (a + k) ∷ []
range_more a zero = ap (λ n. n ∷ []) (omega arith)
range_more a (suc k) =
    ap (λ xs. a ∷ xs) (range_more (a + 1) k ∙ ap (λ n. range_with_len (a + 1) k ++ n ∷ []) (omega arith))

pub All_push : {X : Type 0} (P : X → Type 0) (xs : List X) (x : X) → AllByRecursion P xs → P x
    → AllByRecursion P (xs ++ x ∷ [])
All_push P xs x all one = All_append P xs (x ∷ []) all (one, tt)

pub count_append : {X : Type 0} (p : X → Bool) (xs ys : List X) → count_by p (xs ++ ys) ≡ count_by p xs + count_by p ys
count_append p = sum_by-append (λ x. cond (p x) 1 0)

pub range_below : (a k : ℕ) → AllByRecursion (λ i. i < a + k) (range_with_len a k)
range_below a zero = tt
range_below a (suc k) = (
  omega arith,
  subst (λ n. AllByRecursion (λ i. i < n) (range_with_len (a + 1) k)) (omega arith)
      (range_below (a + 1) k),
)

pub All_flat : {X Y : Type 0} (P : Y → Type 0) (f : X → List Y) (xs : List X) → ((x : X) → AllByRecursion P (f x))
    → AllByRecursion P (flat_map f xs)
All_flat P f [] each = tt
All_flat P f (z ∷ zs) each =
    subst (AllByRecursion P) (sym (flat_map-cons f z zs))
    (All_append P (f z) (flat_map f zs) (each z) (All_flat P f zs each))

pub of_option : {X : Type 0} (P : X → Type 0) (o : Option X) → ((x : X) → o ≡ Some x → P x)
    → AllByRecursion P (option_to_list o)
of_option P None h = tt
of_option P (Some x) h = (h x refl, tt)

pub same_tail : {X : Type 0} (x y : X) (k l : List X) → x ∷ k ≡ y ∷ l → k ≡ l
same_tail x y k l h = cc

-- rows that are one
pub rows_alike : {X : Type 0} (f : ℕ → X) (v : X) (n : ℕ) → ((x : ℕ) → f x ≡ v)
    → map f (range_with_len 0 n) ≡ replicate n v
rows_alike f v n each = alike (range_with_len 0 n) ∙ ap (λ k. replicate k v) (length-range_with_len 0 n)
  where
    alike : (xs : List ℕ) → map f xs ≡ replicate (length xs) v
    alike [] = refl
    alike (x ∷ xs) = grind (arith, alike xs, each x)
