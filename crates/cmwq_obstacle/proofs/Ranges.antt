-- Tests of the numbers below another.
use Rattle.std.proofs.Common.{ℕ, zero, suc, ◌≡◌, ◌∙◌, ◌+◌, ◌<◌, Bool, true, false, List, [], ◌∷◌, Some}
use Rattle.std.proofs.Common.{None}
use Rattle.std.proofs.Common.{find, refl, sym, subst, arith, add-one}
use Rattle.std.specs.List.{list_any, range_with_len}

module _ (t : ℕ → Bool) where
  pub here : (x : ℕ) (xs : List ℕ) → t x ≡ true → find t (x ∷ xs) ≡ Some x
  here x xs is = rw is refl

  pub later : (x : ℕ) (xs : List ℕ) → t x ≡ false → find t (x ∷ xs) ≡ find t xs
  later x xs not = rw not refl

  not_first : (x : ℕ) (xs : List ℕ) → find t (x ∷ xs) ≡ None → t x ≡ false
  not_first x xs none = at (t x) refl
    where
      at : (b : Bool) → t x ≡ b → t x ≡ false
      at false is = is
      at true is = let found = here x xs is in cc

  -- none of the first so many passes, nor does the next one
  find_more : (from n : ℕ) → find t (range_with_len from n) ≡ None → t (from + n) ≡ false
      → find t (range_with_len from (suc n)) ≡ None
  find_more from zero none not =
      later from [] (subst (λ k. t k ≡ false) (let same : from + 0 ≡ from = omega arith in same) not)
  find_more from (suc n) none not =
      let first = not_first from _ none in
      let same : from + suc n ≡ from + 1 + n = omega arith in
      later from (range_with_len (from + 1) (suc n)) first
      ∙ find_more (from + 1) n (sym (later from _ first) ∙ none) (subst (λ k. t k ≡ false) same not)

  -- none of the first so many passes, and the next one does
  find_next : (from n m : ℕ) → find t (range_with_len from n) ≡ None → t (from + n) ≡ true → n < m
      → find t (range_with_len from m) ≡ Some (from + n)
  find_next from n zero none is less = absurd (omega arith)
  find_next from zero (suc m) none is less =
      let same : from + 0 ≡ from = omega arith in
      subst (λ k. find t (from ∷ range_with_len (from + 1) m) ≡ Some k) (sym same)
      (here from _ (subst (λ k. t k ≡ true) same is))
  find_next from (suc n) (suc m) none is less =
      let first = not_first from _ none in
      let same : from + suc n ≡ from + 1 + n = omega arith in
      later from _ first
      ∙ subst (λ k. find t (range_with_len (from + 1) m) ≡ Some k) (sym same)
      (find_next (from + 1) n m (sym (later from _ first) ∙ none) (subst (λ k. t k ≡ true) same is) (omega arith))

  -- the same of whether one passes
  any_first : (x : ℕ) (xs : List ℕ) → list_any t (x ∷ xs) ≡ false → t x ≡ false
  any_first x xs none = at (t x) refl
    where
      at : (b : Bool) → t x ≡ b → t x ≡ false
      at false is = is
      at true is = let found : list_any t (x ∷ xs) ≡ true = rw is refl in cc

  any_later : (x : ℕ) (xs : List ℕ) → t x ≡ false → list_any t (x ∷ xs) ≡ list_any t xs
  any_later x xs not = rw not refl

  any_more : (from n : ℕ) → list_any t (range_with_len from n) ≡ false → t (from + n) ≡ false
      → list_any t (range_with_len from (suc n)) ≡ false
  any_more from zero none not =
      any_later from [] (subst (λ k. t k ≡ false) (let same : from + 0 ≡ from = omega arith in same) not)
  any_more from (suc n) none not =
      let first = any_first from _ none in
      let same : from + suc n ≡ from + 1 + n = omega arith in
      any_later from (range_with_len (from + 1) (suc n)) first
      ∙ any_more (from + 1) n (sym (any_later from _ first) ∙ none) (subst (λ k. t k ≡ false) same not)

  any_here : (x : ℕ) (xs : List ℕ) → list_any t xs ≡ true → list_any t (x ∷ xs) ≡ true
  any_here x xs some = at (t x) refl
    where
      at : (b : Bool) → t x ≡ b → list_any t (x ∷ xs) ≡ true
      at true is = rw is refl
      at false not = any_later x xs not ∙ some

  any_next : (from n m : ℕ) → t (from + n) ≡ true → n < m → list_any t (range_with_len from m) ≡ true
  any_next from n zero is less = absurd (omega arith)
  any_next from zero (suc m) is less =
      let same : from + 0 ≡ from = omega arith in
      let first : t from ≡ true = subst (λ k. t k ≡ true) same is in rw first refl
  any_next from (suc n) (suc m) is less =
      let same : from + suc n ≡ from + 1 + n = omega arith in
      any_here from _ (any_next (from + 1) n m (subst (λ k. t k ≡ true) same is) (omega arith))

  -- from 0 on
  from_0 : (n : ℕ) → n ≡ 0 + n
  from_0 n = omega arith

  pub find_none : (n : ℕ) → find t (range_with_len 0 n) ≡ None → t n ≡ false → find t (range_with_len 0 (n + 1)) ≡ None
  find_none n none not =
      subst (λ k. find t (range_with_len 0 k) ≡ None) (sym (add-one n))
      (find_more 0 n none (subst (λ k. t k ≡ false) (from_0 n) not))

  pub find_first : (n m : ℕ) → find t (range_with_len 0 n) ≡ None → t n ≡ true → n < m
      → find t (range_with_len 0 m) ≡ Some n
  find_first n m none is less =
      subst (λ k. find t (range_with_len 0 m) ≡ Some k) (sym (from_0 n))
      (find_next 0 n m none (subst (λ k. t k ≡ true) (from_0 n) is) less)

  pub any_none : (n : ℕ) → list_any t (range_with_len 0 n) ≡ false → t n ≡ false
      → list_any t (range_with_len 0 (n + 1)) ≡ false
  any_none n none not =
      subst (λ k. list_any t (range_with_len 0 k) ≡ false) (sym (add-one n))
      (any_more 0 n none (subst (λ k. t k ≡ false) (from_0 n) not))

  pub any_first_of : (n m : ℕ) → t n ≡ true → n < m → list_any t (range_with_len 0 m) ≡ true
  any_first_of n m is less = any_next 0 n m (subst (λ k. t k ≡ true) (from_0 n) is) less
