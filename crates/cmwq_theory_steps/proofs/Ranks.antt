-- The places of queueings in a rising list: as many stand before one as are below it.
use Rattle.cmwq_theory_steps.specs.Common.{◌≡◌, ◌<◌, ◌+◌, ◌==◌, ℕ, zero, suc, Bool, false, List, [], ◌∷◌, filter}
use Rattle.cmwq_theory_steps.specs.Common.{count_by, option_to_list, nat_lt, refl, arith, slice_get, nat_tests}
use Rattle.cmwq_theory_steps.specs.Common.{AllByRecursion, Queueing, All_map, All_both, count_by-cons, count_by-none}
use Rattle.cmwq_theory_steps.specs.Rising.{IsRising}

abbrev pub is_below : Queueing → Queueing → Bool
is_below x y = nat_lt y.number x.number

-- the ranks of the elements go up by one, from k
abbrev pub Ranked : (Queueing → ℕ) → ℕ → List Queueing → Type 0
Ranked rank k [] = Unit {0}
Ranked rank k (x ∷ xs) = (rank x ≡ k) × Ranked rank (suc k) xs

-- in a rising list the number of those below an element is that of those before it
pub ranked_of : (rank : Queueing → ℕ) (k : ℕ) (xs : List Queueing) → IsRising xs
    → AllByRecursion (λ x. rank x ≡ k + count_by (is_below x) xs) xs → Ranked rank k xs
ranked_of rank k [] h c = tt
ranked_of rank k (x ∷ xs) h c = (
  grind (
    arith,
    nat_tests,
    c.0,
    count_by-cons (is_below x) x xs,
    count_by-none (is_below x) xs
        (All_map (λ y. x.number < y.number) (λ y. is_below x y ≡ false) xs (λ y less. grind (arith, nat_tests)) h.0),
  ),
  ranked_of rank (suc k) xs h.1
      (All_both (λ y. x.number < y.number) _ (λ y. rank y ≡ suc k + count_by (is_below y) xs) xs
      (λ y less is. grind (arith, nat_tests, count_by-cons (is_below y) x xs)) h.0 c.1),
)

-- those of a rank that is past are none, and of one that is to come the one in that place
none_ranked : (rank : Queueing → ℕ) (k n : ℕ) (xs : List Queueing) → n < k → Ranked rank k xs
    → filter (λ x. rank x == n) xs ≡ []
none_ranked rank k n [] less h = refl
none_ranked rank k n (x ∷ xs) less h = grind (arith, nat_tests, h.0, none_ranked rank (suc k) n xs (omega arith) h.1)

pub one_ranked : (rank : Queueing → ℕ) (k d n : ℕ) (xs : List Queueing) → n ≡ k + d → Ranked rank k xs
    → filter (λ x. rank x == n) xs ≡ option_to_list (slice_get xs d)
one_ranked rank k d n [] is h = refl
one_ranked rank k zero n (x ∷ xs) is h = grind (arith, nat_tests, h.0, none_ranked rank (suc k) n xs (omega arith) h.1)
one_ranked rank k (suc d) n (x ∷ xs) is h =
    grind (arith, nat_tests, h.0, one_ranked rank (suc k) d n xs (omega arith) h.1)
