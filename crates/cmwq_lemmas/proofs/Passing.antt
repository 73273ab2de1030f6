-- What passes a test: some of a list or none, what is left of it, and how many numbers of a range.
use Rattle.std.proofs.Common.{◌≡◌, ◌==◌, ◌<◌, ◌≤◌, ◌+◌, ℕ, zero, suc, Bool, true, false, cond, not, List, [], ◌∷◌, ◌++◌}
use Rattle.std.proofs.Common.{◌||◌, length, map, filter, find, count_by, Some, None, refl, ap, ◌∙◌, arith, eq-eqb}
use Rattle.std.proofs.Common.{Option, sym, subst, ⊎_elim, ◌↔◌}
use Rattle.std.specs.List.{AllByRecursion, list_any, range_with_len, sum_by}
use Rattle.std.specs.Option.{option_map}
use Rattle.std.proofs.lemmas.Bool.{ne_eqb, cases_eq}
use Rattle.std.proofs.lemmas.Bool.Decides.{nat_tests}
use Rattle.std.proofs.lemmas.List.Filters.{length-filter_both, sum_by-filter_both}
use Rattle.std.proofs.lemmas.List.Folds.{list_any-append}
use Rattle.std.proofs.lemmas.List.Sums.{length-filter, sum_by_push}
use Rattle.cmwq_lemmas.proofs.Lists.{All_filter, All_map, all_mapped, count_by-cons, count_by-head, filter_all}
use Rattle.cmwq_lemmas.proofs.Lists.{find_none, range_below}
use Rattle.cmwq_lemmas.proofs.Members.{found, of_in}
use Rattle.cmwq_lemmas.proofs.Truth.{or_false}
use Rattle.std.specs.Prelude.{All}
use Rattle.std.proofs.lemmas.List.Elements.{All-from_recursion, recursion_from_All}
use Rattle.cmwq_lemmas.proofs.Filters.{none_found}

-- ---- some pass, or none

pub any_counted : {X : Type 0} (p : X → Bool) (xs : List X) → list_any p xs ≡ true → 1 ≤ count_by p xs
any_counted p [] h = cc
any_counted p (x ∷ xs) h = grind (arith, count_by-cons p x xs, any_counted p xs)

pub counted_any : {X : Type 0} (p : X → Bool) (xs : List X) → 1 ≤ count_by p xs → list_any p xs ≡ true
counted_any p [] h = absurd (omega arith)
counted_any p (x ∷ xs) h = grind (arith, count_by-cons p x xs, counted_any p xs)

pub any_found : {X : Type 0} (p q : X → Bool) (x : X) (xs : List X) → find p xs ≡ Some x → q x ≡ true
    → list_any q xs ≡ true
any_found p q x [] found passes = cc
any_found p q x (y ∷ xs) found passes = grind (arith, any_found p q x xs)

pub found_any : {X : Type 0} (p q : X → Bool) → ((x : X) → p x ≡ true → q x ≡ true) → (xs : List X) (z : X)
    → find p xs ≡ Some z → list_any q xs ≡ true
found_any p q more xs z is = any_found p q z xs is (more z (found p xs z is).1)

pub none_pass : {X : Type 0} (p : X → Bool) (xs : List X) → list_any p xs ≡ false → AllByRecursion (λ x. p x ≡ false) xs
none_pass p [] h = tt
none_pass p (x ∷ xs) h = grind (arith, none_pass p xs)

-- what is found stands there
pub found_there : (p : ℕ → Bool) (xs : List ℕ) (z : ℕ) → find p xs ≡ Some z → list_any (λ j. j == z) xs ≡ true
found_there p [] z is = cc
found_there p (x ∷ xs) z is = grind (arith, nat_tests, found_there p xs z)

-- what passes, of a list of which each is so
pub one_there : {X : Type 0} (P : X → Type 0) (p : X → Bool) (xs : List X) → AllByRecursion P xs → list_any p xs ≡ true
    → (x : X) × P x × (p x ≡ true)
one_there P p [] all h = cc
one_there P p (x ∷ xs) all h = grind (arith, one_there P p xs)

pub all_found : {X : Type 0} (P : X → Type 0) (p : X → Bool) (xs : List X) (z : X) → AllByRecursion P xs
    → find p xs ≡ Some z → P z × (p z ≡ true)
all_found P p xs z all is = let k = found p xs z is in (of_in P xs z all k.0, k.1)

pub all_split : {X : Type 0} (P : X → Type 0) (xs ys : List X) → AllByRecursion P (xs ++ ys)
    → AllByRecursion P xs × AllByRecursion P ys
all_split P [] ys all = (tt, all)
all_split P (x ∷ xs) ys all = let k = all_split P xs ys all.1 in ((all.0, k.0), k.1)

pub all_kept : {X : Type 0} (P : X → Type 0) (q : X → Bool) (xs : List X) → AllByRecursion P xs
    → AllByRecursion P (filter q xs)
all_kept P q xs all = All_filter P q xs (All_map P (λ x. q x ≡ true → P x) xs (λ x p k. p) all)

pub none_kept : {X : Type 0} (p : X → Bool) (xs : List X) → filter p xs ≡ [] → AllByRecursion (λ x. p x ≡ false) xs
none_kept p [] h = tt
none_kept p (x ∷ xs) h = grind (arith, none_kept p xs)

pub last_any : {X : Type 0} (p : X → Bool) (xs : List X) (x : X) → list_any p (xs ++ x ∷ []) ≡ (list_any p xs || p x)
last_any p xs x = list_any-append p xs (x ∷ []) ∙ ap (λ b. list_any p xs || b) (or_false (p x))

pub none_found_any : {X : Type 0} (p : X → Bool) (xs : List X) → find p xs ≡ None → list_any p xs ≡ false
none_found_any p [] is = refl
none_found_any p (x ∷ xs) is = grind (arith, none_found_any p xs)

-- none is found where each is so that it doesn't pass
pub all_unfound : {X : Type 0} (P : X → Type 0) (p : X → Bool) (xs : List X) → ((x : X) → P x → p x ≡ false)
    → ((x : X) → p x ≡ false → P x) → All P xs ↔ (find p xs ≡ None)
all_unfound P p xs fails holds = (
  (λ all. none_found p xs (All_map P (λ x. p x ≡ false) xs fails (recursion_from_All P xs all))),
  (λ none. All-from_recursion P xs (All_map (λ x. p x ≡ false) P xs holds (find_none p xs none))),
)

pub count_push : {X : Type 0} (p : X → Bool) (xs : List X) (x : X)
    → count_by p (xs ++ x ∷ []) ≡ count_by p xs + cond (p x) 1 0
count_push p = sum_by_push (λ x. cond (p x) 1 0)

-- ---- some are taken out

-- of items, those with a number
module _ {X : Type 0} (item : X → ℕ) where
  pub taken_out : (i z : ℕ) (xs : List X)
      → count_by (λ x. item x == i) (filter (λ x. not (item x == z)) xs) + cond (z == i)
      (count_by (λ x. item x == z) xs) 0 ≡ count_by (λ x. item x == i) xs
  taken_out i z [] = grind arith
  taken_out i z (y ∷ ys) =
      let a = count_by-head (λ x. item x == i) y (filter (λ x. not (item x == z)) ys) (not (item y == z)) in
      let b = count_by-cons (λ x. item x == i) y ys in
      let c = count_by-cons (λ x. item x == z) y ys in
      let d = taken_out i z ys in
      grind (arith, nat_tests)

  pub others_there : (n i : ℕ) (xs : List X) → (n == i) ≡ false
      → list_any (λ x. item x == n) (filter (λ x. not (item x == i)) xs) ≡ list_any (λ x. item x == n) xs
  others_there n i [] h = refl
  others_there n i (x ∷ xs) h = grind (arith, nat_tests, others_there n i xs)

pub less_kept : {X : Type 0} (f : X → ℕ) (q : X → Bool) (xs : List X) → sum_by f (filter q xs) ≤ sum_by f xs
less_kept f q xs = omega (arith, sum_by-filter_both q (λ x. not (q x)) (λ x. refl) f xs)

pub fewer_kept : {X : Type 0} (p q : X → Bool) (xs : List X) → count_by p (filter q xs) ≤ count_by p xs
fewer_kept p q xs = less_kept (λ x. cond (p x) 1 0) q xs

pub one_fewer : {X : Type 0} (p : X → Bool) (xs : List X) → list_any p xs ≡ true
    → length (filter (λ x. not (p x)) xs) + 1 ≤ length xs
one_fewer p xs h =
    omega (arith, length-filter_both p (λ x. not (p x)) (λ x. refl) xs, length-filter p xs, any_counted p xs h)

pub filter_mapped : {X Y : Type 0} (f : X → Y) (p : Y → Bool) (r : X → Bool) (xs : List X)
    → AllByRecursion (λ x. p (f x) ≡ r x) xs → filter p (map f xs) ≡ map f (filter r xs)
filter_mapped f p r [] h = refl
filter_mapped f p r (x ∷ xs) h = grind (arith, filter_mapped f p r xs)

pub find_mapped : {X Y : Type 0} (f : X → Y) (p : Y → Bool) (q : X → Bool) (xs : List X)
    → AllByRecursion (λ x. p (f x) ≡ q x) xs → find p (map f xs) ≡ option_map f (find q xs)
find_mapped f p q [] h = refl
find_mapped f p q (x ∷ xs) h = grind (arith, find_mapped f p q xs)

pub all_mapped_pass : {X Y : Type 0} (f : X → Y) (p : Y → Bool) (xs : List X) → AllByRecursion (λ x. p (f x) ≡ true) xs
    → filter p (map f xs) ≡ map f xs
all_mapped_pass f p xs h = filter_all p (map f xs) (all_mapped f (λ y. p y ≡ true) xs h)

-- ---- ranges

pub none_counted : (p : ℕ → Bool) (a n : ℕ) → ((x : ℕ) → a ≤ x → x < a + n → p x ≡ false)
    → count_by p (range_with_len a n) ≡ 0
none_counted p a zero h = refl
none_counted p a (suc n) h =
    grind (
      arith,
      count_by-cons p a (range_with_len (a + 1) n),
      h a,
      none_counted p (a + 1) n (λ x low high. h x (omega arith) (omega arith)),
    )

pub one_counted : (p : ℕ → Bool) (a n x : ℕ) → a ≤ x → x < a + n → p x ≡ true → 1 ≤ count_by p (range_with_len a n)
one_counted p a zero x low high h = absurd (omega arith)
one_counted p a (suc n) x low high h =
    grind (arith, count_by-cons p a (range_with_len (a + 1) n), one_counted p (a + 1) n x)

none_later : (i b n : ℕ) → i < b → count_by (λ j. j == i) (range_with_len b n) ≡ 0
none_later i b n less = none_counted (λ j. j == i) b n (λ x low high. ne_eqb x i (λ same. absurd (omega arith)))

pub once_among : (a k i : ℕ) → count_by (λ j. j == i) (range_with_len a k) ≤ 1
once_among a zero i = omega arith
once_among a (suc k) i =
    grind (
      arith,
      nat_tests,
      count_by-cons (λ j. j == i) a (range_with_len (a + 1) k),
      none_later i (a + 1) k,
      once_among (a + 1) k i,
    )

pub once_there : (i a k : ℕ) → a ≤ i → i < a + k → count_by (λ j. j == i) (range_with_len a k) ≡ 1
once_there i a k low high = let a1 = once_among a k i in let b =
    one_counted (λ j. j == i) a k i low high (eq-eqb i i refl) in omega arith

range_each : (P : ℕ → Type 0) (a n : ℕ) → AllByRecursion P (range_with_len a n) → (x : ℕ) → a ≤ x → x < a + n → P x
range_each P a zero all x low high = absurd (omega arith)
range_each P a (suc n) all x low high =
    ⊎_elim (λ same. subst P (sym same) all.0) (λ differs. range_each P (a + 1) n all.1 x (omega arith) (omega arith))
    (cases_eq x a)

-- the first number below n that passes, or that none passes
pub data Any (p : ℕ → Bool) (n : ℕ) : Type 0 where
  one : (x : ℕ) → x < n → p x ≡ true → find p (range_with_len 0 n) ≡ Some x → Any p n
  none : ((x : ℕ) → x < n → p x ≡ false) → find p (range_with_len 0 n) ≡ None → Any p n

pub any_below : (p : ℕ → Bool) (n : ℕ) → Any p n
any_below p n = at (find p (range_with_len 0 n)) refl
  where
    at : (o : Option ℕ) → find p (range_with_len 0 n) ≡ o → Any p n
    at (Some x) is = let k = all_found (λ i. i < 0 + n) p (range_with_len 0 n) x (range_below 0 n) is in
        one x (omega (arith, k.0)) k.1 is
    at None is =
        none (λ x less. range_each (λ i. p i ≡ false) 0 n (find_none p (range_with_len 0 n) is) x (omega arith)
        (omega arith)) is
