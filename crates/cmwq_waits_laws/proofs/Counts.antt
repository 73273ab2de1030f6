-- Counts of what is of some kinds, and of what stays in a list.
use Rattle.std.proofs.Common.{◌≡◌, ◌≤◌, ◌==◌, ◌&&◌, ◌+◌, ℕ, Bool, true, false, not, List, [], ◌∷◌, arith, filter, inl}
use Rattle.std.proofs.Common.{inr, refl}
use Rattle.std.proofs.Common.{count_by}
unfoldable use Rattle.std.specs.List.{IsDistinct}
use Rattle.std.specs.List.{sum_by}
use Rattle.std.proofs.lemmas.Bool.Decides.{nat_tests}
use Rattle.std.proofs.lemmas.List.Sums.{sum_by-cons}
use Rattle.cmwq_lemmas.proofs.Filters.{count_by-wider}
use Rattle.cmwq_lemmas.proofs.Lists.{All_each, count_by-cons}
use Rattle.cmwq_lemmas.proofs.Members.{In, of_in}

-- a sum of terms of which none is greater is not greater
pub sum_by_each : {X : Type 0} (f g : X → ℕ) (xs : List X) → ((x : X) → In x xs → f x ≤ g x)
    → sum_by f xs ≤ sum_by g xs
sum_by_each f g [] less = omega arith
sum_by_each f g (x ∷ xs) less =
    omega (
      arith,
      sum_by-cons f x xs,
      sum_by-cons g x xs,
      less x (inl refl),
      sum_by_each f g xs (λ y here. less y (inr here)),
    )

-- where what is counted stays, no fewer are counted of what stays
pub count_stays : {X : Type 0} (p q : X → Bool) (xs : List X) → ((x : X) → In x xs → p x ≡ true → q x ≡ true)
    → count_by p xs ≤ count_by p (filter q xs)
count_stays p q [] stays = omega arith
count_stays p q (x ∷ xs) stays =
    grind (
      arith,
      count_by-cons p x xs,
      count_by-cons p x (filter q xs),
      stays x (inl refl),
      count_stays p q xs (λ y here. stays y (inr here)),
    )

-- of some kinds with different numbers, all that is counted of each is no more than all that is counted
module _ {K X : Type 0} (kind : K → ℕ) (its : X → ℕ) where
  abbrev is_of : K → (X → Bool) → X → Bool
  is_of k p x = (its x == kind k) && p x

  count_both : (k : K) (p : X → Bool) (xs : List X)
      → count_by p xs ≡ count_by (is_of k p) xs + count_by (λ x. not (its x == kind k) && p x) xs
  count_both k p [] = refl
  count_both k p (x ∷ xs) =
      grind (
        arith,
        count_by-cons p x xs,
        count_by-cons (is_of k p) x xs,
        count_by-cons (λ y. not (its y == kind k) && p y) x xs,
        count_both k p xs,
      )

  pub kinds_apart : (ks : List K) (p : X → Bool) (xs : List X) → IsDistinct (λ k l. kind k == kind l) ks
      → sum_by (λ k. count_by (is_of k p) xs) ks ≤ count_by p xs
  unfolding IsDistinct
  kinds_apart [] p xs apart = omega arith
  kinds_apart (k ∷ ks) p xs apart =
      omega (
        arith,
        sum_by-cons (λ l. count_by (is_of l p) xs) k ks,
        count_both k p xs,
        sum_by_each (λ l. count_by (is_of l p) xs) (λ l. count_by (is_of l others) xs) ks
            (λ l here. count_by-wider (is_of l p) (is_of l others) xs
            (All_each _ xs (λ x is. let other : (kind k == kind l) ≡ false =
            of_in (λ m. (kind k == kind m) ≡ false) ks l apart.0 here in grind (arith, nat_tests)))),
        kinds_apart ks others xs apart.1,
      )
    where
      others : X → Bool
      others x = not (its x == kind k) && p x
