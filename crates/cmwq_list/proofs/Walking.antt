-- A walk along a list, from its first item to the first that passes a test.
use Rattle.std.proofs.Common.{◌≡◌, ℕ, zero, suc, ◌+◌, Bool, true, false, ◌||◌, List, [], ◌∷◌, Some, None, drop, sym, ap}
use Rattle.std.proofs.Common.{◌∙◌}
use Rattle.std.specs.Prelude.{nat_eq, find, slice_get}
use Rattle.std.proofs.lemmas.Option.{slice_get_within, get_or_from_slice_get}
use Rattle.std.proofs.lemmas.Bool.{eq-eqb, or_right, cond-true, cond-false}
use Rattle.std.proofs.lemmas.List.{drop_more}
use Rattle.cmwq_list.specs.Lists.{has_item}

pub has_there : (xs : List ℕ) (k i : ℕ) → slice_get xs k ≡ Some i → has_item i xs ≡ true
has_there [] k i e = absurd (let bad : None ≡ Some i = e in cc)
has_there (x ∷ xs) zero i e = let same : Some x ≡ Some i = e in
    ap (λ b. b || has_item i xs) (eq-eqb i x (let h : x ≡ i = cc in sym h))
has_there (x ∷ xs) (suc k) i e = or_right (nat_eq i x) (has_item i xs) (has_there xs k i e)

at_drop : (xs : List ℕ) (k i : ℕ) → slice_get xs k ≡ Some i → drop k xs ≡ i ∷ drop (k + 1) xs
at_drop xs k i e = drop_more xs k i (slice_get_within xs k i e)
    ∙ ap (λ x. x ∷ drop (k + 1) xs) (get_or_from_slice_get xs k i i e)

module _ (p : ℕ → Bool) (xs : List ℕ) (k i : ℕ) (at : slice_get xs k ≡ Some i) (left : find p xs ≡ find p (drop k xs))
  where
    pub found_here : p i ≡ true → Some i ≡ find p xs
    found_here is =
        sym (left ∙ (ap (find p) (at_drop xs k i at) ∙ cond-true (p i) (Some i) (find p (drop (k + 1) xs)) is))

    pub left_more : p i ≡ false → find p xs ≡ find p (drop (k + 1) xs)
    left_more is = left ∙ (ap (find p) (at_drop xs k i at) ∙ cond-false (p i) (Some i) (find p (drop (k + 1) xs)) is)
