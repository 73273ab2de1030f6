-- Which items a list has, which list has an item, and what is left of it without one.
use Rattle.std.proofs.Common.{◌≡◌, ◌≢◌, ℕ, ◌+◌, ◌<◌, ◌≤◌, true, false, ◌&&◌, ◌||◌, not, List, [], ◌∷◌, ◌++◌, length}
use Rattle.std.proofs.Common.{Some, refl, ap, ◌∙◌, arith}
use Rattle.std.specs.Prelude.{nat_eq}
use Rattle.std.specs.List.{IsDistinct, AllByRecursion}
use Rattle.std.proofs.lemmas.Map.Keys.{IsDistinct-cons}
use Rattle.std.proofs.lemmas.Map.Steps.{length-le_from_distinct_below}
use Rattle.std.proofs.lemmas.Bool.{false≢true, or_parts, or_from}
use Rattle.std.proofs.lemmas.List.Folds.{list_any-append}
use Rattle.cmwq_lemmas.proofs.Lists.{All_map, filter_all}
use Rattle.cmwq_lemmas.proofs.Truth.{or_false}
use Rattle.cmwq_list.specs.Lists.{has_item, without_item, list_at, list_of, AreDistinct}
use Rattle.std.proofs.lemmas.List.Quantifiers.{position-Some}

-- the list that is told to have a number has it
pub owner_has : (lists : List (List ℕ)) (i l : ℕ) → list_of lists i ≡ Some l → has_item i (list_at lists l) ≡ true
owner_has lists i l e = (position-Some (has_item i) lists l [] e).1

-- a number that a list lacks is not its first, and the rest lacks it
pub lacks : (q x : ℕ) (xs : List ℕ) → has_item q (x ∷ xs) ≡ false → (x ≢ q) × (has_item q xs ≡ false)
lacks q x xs h = grind arith

all_differ : (x : ℕ) (xs : List ℕ) → has_item x xs ≡ false → AllByRecursion (λ y. nat_eq x y ≡ false) xs
all_differ x [] h = tt
all_differ x (y ∷ ys) h = let parts = or_parts (nat_eq x y) (has_item x ys) h in (parts.0, all_differ x ys parts.1)

pub without_none : (i : ℕ) (xs : List ℕ) → has_item i xs ≡ false → without_item i xs ≡ xs
without_none i xs h =
    filter_all (λ x. not (nat_eq i x)) xs
    (All_map (λ x. nat_eq i x ≡ false) (λ x. not (nat_eq i x) ≡ true) xs (λ x e. ap not e) (all_differ i xs h))

pub has-without : (j i : ℕ) (xs : List ℕ) → has_item j (without_item i xs) ≡ (has_item j xs && not (nat_eq j i))
has-without j i [] = refl
has-without j i (x ∷ xs) = grind (arith, has-without j i xs)

pub distinct-without : (i : ℕ) (xs : List ℕ) → AreDistinct xs → AreDistinct (without_item i xs)
distinct-without i [] d = tt
distinct-without i (x ∷ xs) d = grind (arith, has-without, distinct-without i xs d.1, d.0)

pub length-without : (i : ℕ) (xs : List ℕ) → AreDistinct xs → has_item i xs ≡ true
    → length (without_item i xs) + 1 ≡ length xs
length-without i [] d h = absurd (false≢true h)
length-without i (x ∷ xs) d h = grind (arith, without_none, length-without i xs d.1, d.0)

pub has-push : (j i : ℕ) (xs : List ℕ) → has_item j (xs ++ i ∷ []) ≡ (has_item j xs || nat_eq j i)
has-push j i xs = list_any-append (nat_eq j) xs (i ∷ []) ∙ ap (λ b. has_item j xs || b) (or_false (nat_eq j i))

pub distinct-push : (i : ℕ) (xs : List ℕ) → AreDistinct xs → has_item i xs ≡ false → AreDistinct (xs ++ i ∷ [])
distinct-push i [] d h = (refl, tt)
distinct-push i (x ∷ xs) d h = grind (arith, lacks, has-push, or_from, distinct-push i xs d.1, d.0)

-- there are no more distinct numbers below n than n
distinct : (xs : List ℕ) → AreDistinct xs → IsDistinct nat_eq xs
unfolding IsDistinct
distinct [] d = tt
distinct (x ∷ xs) d = IsDistinct-cons nat_eq x xs (all_differ x xs d.0) (distinct xs d.1)

pub few_below : (n : ℕ) (xs : List ℕ) → AreDistinct xs → ((i : ℕ) → has_item i xs ≡ true → i < n) → length xs ≤ n
few_below n xs d below = length-le_from_distinct_below xs n (distinct xs d) below
