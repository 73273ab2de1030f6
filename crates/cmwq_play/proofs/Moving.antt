-- Who may move takes part.
use Rattle.std.proofs.Common.{ℕ, ◌≡◌, ◌<◌, ◌≤◌, ◌+◌, ◌-◌, Bool, true, false, length, nat_lt, refl, arith, suc, subst}
use Rattle.std.proofs.Common.{List, [], ◌∷◌, ◌++◌, ap, sym, ◌∙◌, add-one}
use Rattle.std.specs.List.{filter, range_with_len}
use Rattle.std.proofs.lemmas.List.{append-nil}
use Rattle.std.specs.Prelude.{Contains}
use Rattle.std.proofs.lemmas.List.Elements.{Contains-append_left, Contains-push, filter-append}
use Rattle.std.proofs.lemmas.Bool.{ltb-true, ltb-false, le-ltb}
use Rattle.std.proofs.lemmas.Option.{slice_get_past}
use Rattle.cmwq_play.proofs.First.{range_next}
use Rattle.cmwq_play.specs.Searches.{Rests}
use Rattle.cmwq_play.specs.Stands.{Stand, may}

none_past : (p : Stand) (k : ℕ) → length p.callers + length p.workers ≤ k → may p k ≡ false
unfolding may
none_past p k past =
    let beyond : length p.callers ≤ k = omega arith in
    let over : length p.workers ≤ k - length p.callers = omega arith in
    rw (le-ltb k (length p.callers) beyond, slice_get_past p.workers (k - length p.callers) over) refl

-- after them nobody may move
pub may_within : (p : Stand) (k : ℕ) → may p k ≡ true → k < length p.callers + length p.workers
may_within p k is = here (nat_lt k (length p.callers + length p.workers)) refl
  where
    here : (b : Bool) → nat_lt k (length p.callers + length p.workers) ≡ b → k < length p.callers + length p.workers
    here true lt = ltb-true k (length p.callers + length p.workers) lt
    here false not = let none = none_past p k (ltb-false k (length p.callers + length p.workers) not) in cc

-- of those before this one nobody may move, nor may this one
pub none_more : (p : Stand) (k : ℕ) → ((j : ℕ) → j < k → may p j ≡ false) → may p k ≡ false → (j : ℕ) → j < suc k
    → may p j ≡ false
none_more p k before not_it j less = at (nat_lt j k) refl
  where
    at : (b : Bool) → nat_lt j k ≡ b → may p j ≡ false
    at true lt = before j (ltb-true j k lt)
    at false not =
        let past = ltb-false j k not in
        let same : k ≡ j = omega arith in
        subst (λ i. may p i ≡ false) same not_it

-- of all who take part nobody may move
pub rests_past : (p : Stand) (n : ℕ) → length p.callers + length p.workers ≤ n → ((j : ℕ) → j < n → may p j ≡ false)
    → Rests p
rests_past p n past before k = at (nat_lt k n) refl
  where
    at : (b : Bool) → nat_lt k n ≡ b → may p k ≡ false
    at true lt = before k (ltb-true k n lt)
    at false not =
        let beyond = ltb-false k n not in
        let over : length p.callers + length p.workers ≤ k = omega arith in
        none_past p k over

-- the list of those before this one who may move, where it may not
pub all_before : (p : Stand) (k : ℕ) (xs : List ℕ) → ((j : ℕ) → j < k → may p j ≡ true → Contains xs j)
    → may p k ≡ false
    → (j : ℕ) → j < suc k → may p j ≡ true → Contains xs j
all_before p k xs before not_it j less is = at (nat_lt j k) refl
  where
    at : (b : Bool) → nat_lt j k ≡ b → Contains xs j
    at true lt = before j (ltb-true j k lt) is
    at false not =
        let past = ltb-false j k not in
        let same : j ≡ k = omega arith in
        let no = rw same at is in
        absurd cc

-- the same where it may
pub all_with : (p : Stand) (k : ℕ) (xs : List ℕ) → ((j : ℕ) → j < k → may p j ≡ true → Contains xs j)
    → (j : ℕ) → j < suc k → may p j ≡ true → Contains (xs ++ k ∷ []) j
all_with p k xs before j less is = at (nat_lt j k) refl
  where
    at : (b : Bool) → nat_lt j k ≡ b → Contains (xs ++ k ∷ []) j
    at true lt = Contains-append_left xs (k ∷ []) j (before j (ltb-true j k lt) is)
    at false not =
        let past = ltb-false j k not in
        let same : k ≡ j = omega arith in
        subst (Contains (xs ++ k ∷ [])) same (Contains-push xs k)

-- one more who may move, or who may not
pub filter_with : (p : Stand) (k : ℕ) (xs : List ℕ) → xs ≡ filter (may p) (range_with_len 0 k) → may p k ≡ true
    → xs ++ k ∷ [] ≡ filter (may p) (range_with_len 0 (k + 1))
filter_with p k xs so is =
    let one : filter (may p) (k ∷ []) ≡ k ∷ [] = rw is refl in
    sym (ap (λ m. filter (may p) (range_with_len 0 m)) (add-one k) ∙ ap (filter (may p)) (range_next k)
    ∙ filter-append (may p) (range_with_len 0 k) (k ∷ [])
    ∙ ap (λ ys. filter (may p) (range_with_len 0 k) ++ ys) one ∙ ap (λ ys. ys ++ k ∷ []) (sym so))

pub filter_without : (p : Stand) (k : ℕ) (xs : List ℕ) → xs ≡ filter (may p) (range_with_len 0 k) → may p k ≡ false
    → xs ≡ filter (may p) (range_with_len 0 (k + 1))
filter_without p k xs so is =
    let none : filter (may p) (k ∷ []) ≡ [] = rw is refl in
    so ∙ sym (ap (λ m. filter (may p) (range_with_len 0 m)) (add-one k) ∙ ap (filter (may p)) (range_next k)
    ∙ filter-append (may p) (range_with_len 0 k) (k ∷ [])
    ∙ ap (λ ys. filter (may p) (range_with_len 0 k) ++ ys) none ∙ append-nil (filter (may p) (range_with_len 0 k)))
