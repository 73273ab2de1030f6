-- Lists of what has a number, and of the numbers.
use Rattle.std.proofs.Common.{◌≡◌, ◌==◌, ◌<◌, ◌≤◌, ◌+◌, ℕ, Bool, false, cond, ◌&&◌, List, [], ◌∷◌, ◌++◌, length, map}
use Rattle.std.proofs.Common.{filter, find, count_by, Option, Some, None, option_to_list, append-nil, nat_lt, refl}
use Rattle.std.proofs.Common.{arith, subst, ⊎_elim}
use Rattle.std.specs.Prelude.{slice_get}
use Rattle.std.specs.Option.{option_map}
use Rattle.std.specs.List.{AllByRecursion, range_with_len, sum_by}
use Rattle.std.proofs.lemmas.Bool.{ne_eqb}
use Rattle.std.proofs.lemmas.Bool.Decides.{nat_tests}
use Rattle.std.proofs.lemmas.List.Sums.{sum_by-cons}
use Rattle.cmwq_lemmas.proofs.Lists.{All_each, All_map, all_mapped, count_by-cons}
use Rattle.cmwq_lemmas.proofs.Filters.{count_by-same}
use Rattle.cmwq_lemmas.proofs.Members.{In, in_right, of_in}
use Rattle.cmwq_lemmas.proofs.Passing.{all_split, once_there}
use Rattle.cmwq_lemmas.proofs.Rising.{RisesBy, rises_snoc}

abbrev pub itself : ℕ → ℕ
itself n = n

module _ {X : Type 0} (number : X → ℕ) where
  pub numbers_rise : (xs : List X) → RisesBy number xs → RisesBy itself (map number xs)
  numbers_rise [] h = tt
  numbers_rise (x ∷ xs) h = (all_mapped number (λ n. number x < n) xs h.0, numbers_rise xs h.1)

  pub count_numbers : (p : ℕ → Bool) (xs : List X) → count_by (λ x. p (number x)) xs ≡ count_by p (map number xs)
  count_numbers p [] = refl
  count_numbers p (x ∷ xs) =
      grind (
        arith,
        count_by-cons (λ y. p (number y)) x xs,
        count_by-cons p (number x) (map number xs),
        count_numbers p xs,
      )

  -- the number of the first that passes two tests is the first number that passes the second, of those that pass the
  -- first
  pub find_number : (p : X → Bool) (w : ℕ → Bool) (xs : List X) → option_map number (find (λ x. p x && w (number x)) xs)
      ≡ find w (map number (filter p xs))
  find_number p w [] = refl
  find_number p w (x ∷ xs) = grind (arith, find_number p w xs)

  pub first_number : (p : X → Bool) (xs : List X)
      → option_map number (find p xs) ≡ slice_get (map number (filter p xs)) 0
  first_number p [] = refl
  first_number p (x ∷ xs) = grind (arith, first_number p xs)

  -- one more, whose number is above all
  pub rises_more : (n : ℕ) (xs : List X) (o : Option X) → RisesBy number xs → AllByRecursion (λ x. number x < n) xs
      → ((x : X) → o ≡ Some x → number x ≡ n) → RisesBy number (xs ++ option_to_list o)
  rises_more n xs None h below k = rw append-nil h
  rises_more n xs (Some x) h below k = rises_snoc number xs x h (rw (k x refl) below)

  -- where each is of a number below n, they are counted number by number
  pub counted_by_number : (n : ℕ) (xs : List X) → AllByRecursion (λ x. number x < n) xs
      → sum_by (λ i. count_by (λ x. number x == i) xs) (range_with_len 0 n) ≡ length xs
  counted_by_number n [] there = sum_none (range_with_len 0 n)
    where
      sum_none : (is : List ℕ) → sum_by (λ (i : ℕ). 0) is ≡ 0
      sum_none [] = refl
      sum_none (i ∷ is) = omega (arith, sum_by-cons (λ (j : ℕ). 0) i is, sum_none is)
  counted_by_number n (x ∷ xs) there =
      let split =
      sum_both (λ i. cond (number x == i) 1 0) (λ i. count_by (λ y. number y == i) xs)
      (λ i. count_by (λ y. number y == i) (x ∷ xs)) (range_with_len 0 n)
      (λ i. count_by-cons (λ y. number y == i) x xs) in
      let turned =
      count_by-same (λ i. number x == i) (λ i. i == number x) (range_with_len 0 n)
      (All_each (λ i. (number x == i) ≡ (i == number x)) (range_with_len 0 n) (λ i. grind (arith, nat_tests))) in
      omega (
        arith,
        split,
        turned,
        once_there (number x) 0 n (omega arith) (omega (arith, there.0)),
        counted_by_number n xs there.1,
      )
    where
      sum_both : (f g h : ℕ → ℕ) (is : List ℕ) → ((i : ℕ) → h i ≡ f i + g i) → sum_by h is ≡ sum_by f is + sum_by g is
      sum_both f g h [] each = refl
      sum_both f g h (i ∷ is) each =
          omega (arith, sum_by-cons f i is, sum_by-cons g i is, sum_by-cons h i is, sum_both f g h is each, each i)

-- what rises in two parts: what is in the first isn't in the second
pub rises_apart : (xs ys : List ℕ) (n : ℕ) → RisesBy itself (xs ++ ys) → In n xs → AllByRecursion (λ m. n < m) ys
rises_apart [] ys n h i = absurd i
rises_apart (x ∷ xs) ys n h i =
    ⊎_elim (λ e. subst (λ k. AllByRecursion (λ m. k < m) ys) e (all_split (λ m. x < m) xs ys h.0).1)
    (λ k. rises_apart xs ys n h.1 k) i

pub later_differ : (n : ℕ) (ys : List ℕ) → AllByRecursion (λ m. n < m) ys → AllByRecursion (λ m. (m == n) ≡ false) ys
later_differ n ys h =
    All_map (λ m. n < m) (λ m. (m == n) ≡ false) ys (λ m less. ne_eqb m n (λ e. absurd (omega arith))) h

-- how many are below one of them
abbrev pub is_less : ℕ → ℕ → Bool
is_less n m = nat_lt m n

none_less : (n : ℕ) (ns : List ℕ) → AllByRecursion (λ m. n ≤ m) ns → count_by (is_less n) ns ≡ 0
none_less n [] h = refl
none_less n (m ∷ ms) h = grind (arith, nat_tests, count_by-cons (is_less n) m ms, none_less n ms)

pub fewer_before : (xs ys : List ℕ) (n : ℕ) → RisesBy itself (xs ++ ys) → In n xs
    → count_by (is_less n) (xs ++ ys) < length xs
fewer_before [] ys n h i = absurd i
fewer_before (x ∷ xs) ys n h i =
    grind (
      arith,
      nat_tests,
      count_by-cons (is_less n) x (xs ++ ys),
      fewer_before xs ys n,
      none_less n (xs ++ ys),
      All_map (λ m. x < m) (λ m. x ≤ m) (xs ++ ys) (λ m less. omega arith) h.0,
    )

pub all_before : (xs ys : List ℕ) (n : ℕ) → RisesBy itself (xs ++ ys) → In n ys
    → length xs ≤ count_by (is_less n) (xs ++ ys)
all_before [] ys n h i = omega arith
all_before (x ∷ xs) ys n h i =
    grind (
      arith,
      nat_tests,
      count_by-cons (is_less n) x (xs ++ ys),
      all_before xs ys n,
      of_in (λ m. x < m) (xs ++ ys) n h.0 (in_right xs ys n i),
    )
