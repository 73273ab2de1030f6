-- What a binary search finds among elements whose keys rise, and what is left when the one it found is removed.
use Rattle.cmwq_flush.specs.Common.{◌≡◌, ◌≢◌, ℕ, ◌<◌, Bool, true, false, not, eqb, List, [], ◌∷◌, length, get_or, zero}
use Rattle.cmwq_flush.specs.Common.{suc, Some, None, Result, IfSome, IfNone, sym, ap, refl, ◌∙◌, arith, map, filter}
use Rattle.cmwq_flush.specs.Common.{find, All, AllPairs, Contains, HoldsAt, remove, IsSearchInRange}
use Rattle.cmwq_flush.specs.Common.{IsBinarySearchResult, nat_tests, get_or-map, length-map}
use Rattle.std.specs.Result.{result_ok}
use Rattle.std.specs.Ordering.{nat_cmp}
use Rattle.std.proofs.lemmas.List.Elements.{recursion_from_All}
use Rattle.cmwq_lemmas.proofs.Lists.{filter_all}
use Rattle.cmwq_lemmas.proofs.Filters.{none_found}

-- the removal of the one element that fails a test is the filter by the test
pub remove_is_filter : {X : Type 0} (p : X → Bool) (xs : List X) (i : ℕ) → i < length xs
    → ((d : X) → p (get_or xs i d) ≡ false) → ((k : ℕ) (d : X) → k < length xs → k ≢ i → p (get_or xs k d) ≡ true)
    → remove xs i ≡ filter p xs
remove_is_filter p [] i in_range fails others = absurd (omega arith)
remove_is_filter p (x ∷ xs) zero in_range fails others =
    let rest : All (λ y. p y ≡ true) xs = λ k d lt. others (suc k) d (omega arith) (omega arith) in
    rw (fails x) (sym (filter_all p xs (recursion_from_All (λ y. p y ≡ true) xs rest)))
remove_is_filter p (x ∷ xs) (suc i) in_range fails others =
    let rest =
    remove_is_filter p xs i (omega arith) fails
    (λ k d lt differs. others (suc k) d (omega arith) (λ same. differs (omega arith))) in
    rw (others 0 x (omega arith) (omega arith)) (ap (λ ys. x ∷ ys) rest)

-- the first that passes
pub find_first : {X : Type 0} (p : X → Bool) (xs : List X) (i : ℕ) (d : X) → i < length xs → p (get_or xs i d) ≡ true
    → ((k : ℕ) → k < i → p (get_or xs k d) ≡ false) → find p xs ≡ Some (get_or xs i d)
find_first p [] i d lt passes before = absurd (omega arith)
find_first p (x ∷ xs) zero d lt passes before = rw passes refl
find_first p (x ∷ xs) (suc i) d lt passes before =
    let fails : p x ≡ false = before 0 (omega arith) in
    rw fails (find_first p xs i d (omega arith) passes (λ k below. before (suc k) (omega arith)))

pub find_none : {X : Type 0} (p : X → Bool) (xs : List X) → All (λ x. p x ≡ false) xs → find p xs ≡ None
find_none p xs all = none_found p xs (recursion_from_All (λ x. p x ≡ false) xs all)

module _ {X : Type 0} (key : X → ℕ) (xs : List X) (n : ℕ) where
  abbrev pub IsAt : ℕ → Type 0
  IsAt i = (i < length xs) × HoldsAt (λ x. key x ≡ n) xs i

  abbrev pub IsAbsent : Type 0
  IsAbsent = All (λ x. key x ≢ n) xs

  pub absent_is_none : (any : X) → IsAbsent → Contains (map key xs) n → ⊥
  absent_is_none any absent found =
      let lt : found.0 < length xs = rw length-map at found.1 in
      absent found.0 any lt (sym (get_or-map key xs found.0 any n lt) ∙ found.2)

  pub find_absent : IsAbsent → find (λ x. eqb (key x) n) xs ≡ None
  find_absent absent =
      find_none (λ x. eqb (key x) n) xs (λ k d lt. let differs = absent k d lt in grind (arith, nat_tests))

  module _ (rising : AllPairs (λ x y. key x < key y) xs) where
    -- a search ends at the element with the key, or there is none
    pub searched : (r : Result ℕ ℕ) → IsSearchInRange r (length xs) → IsBinarySearchResult (λ x. nat_cmp (key x) n) xs r
        → IfSome (result_ok r) IsAt × IfNone (result_ok r) IsAbsent
    searched r in_range equal = grind (arith, nat_tests)

    pub find_at_key : (d : X) (i : ℕ) → IsAt i → find (λ x. eqb (key x) n) xs ≡ Some (get_or xs i d)
    find_at_key d i at =
        find_first (λ x. eqb (key x) n) xs i d at.0 (let here = at.1 d in grind (arith, nat_tests))
        (λ k below. let less = rising k i d below at.0 in let here = at.1 d in grind (arith, nat_tests))

    -- the removal of the element with the key keeps those with another
    pub remove_at : (i : ℕ) → IsAt i → remove xs i ≡ filter (λ x. not (eqb (key x) n)) xs
    remove_at i at =
        remove_is_filter (λ x. not (eqb (key x) n)) xs i at.0 (λ d. grind (arith, nat_tests, at.1 d))
        (λ k d lt differs. grind (arith, nat_tests, at.1 d, rising i k d, rising k i d))
