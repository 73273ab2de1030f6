-- What is made for each number of a range, one after the other, and for each element of a list.
use Rattle.std.proofs.Common.{◌≡◌, ℕ, suc, zero, ◌+◌, ◌-◌, ◌<◌, ◌≤◌, List, [], ◌∷◌, ◌++◌, length}
use Rattle.std.proofs.Common.{max}
use Rattle.std.proofs.Common.{fold, get_or, take, refl, sym, ap, ◌∙◌, append_assoc}
use Rattle.std.proofs.Common.{append-nil, arith}
use Rattle.std.proofs.lemmas.List.{map-id, take_more}
use Rattle.std.proofs.lemmas.List.FromFn.{map-range_with_len_more}
use Rattle.std.proofs.lemmas.List.Sums.{fold-append}
use Rattle.std.proofs.lemmas.List.Concat.{flat_map-cons}
use Rattle.std.proofs.lemmas.Grind.{flat_map-append}
use Rattle.std.specs.Prelude.{flat_map}
use Rattle.std.specs.List.{range_with_len}

range_more : (from n at : ℕ) → from + n ≡ at → range_with_len from (n + 1) ≡ range_with_len from n ++ at ∷ []
range_more from n at h = sym (map-id (range_with_len from (n + 1))) ∙ map-range_with_len_more (λ (k : ℕ). k) from n at h
    ∙ ap (λ l. l ++ at ∷ []) (map-id (range_with_len from n))

pub fold_more : {D : Type 0} (f : D → ℕ → D) (d : D) (at : ℕ)
    → f (fold f d (range_with_len 0 at)) at ≡ fold f d (range_with_len 0 (at + 1))
fold_more f d at =
    sym (ap (fold f d) (range_more 0 at at (omega arith)) ∙ fold-append f d (range_with_len 0 at) (at ∷ []))

-- an element or a number more, after others
more_after : {X A : Type 0} (f : X → List A) (xs ys : List X) (x : X) (old before new : List A) → ys ≡ xs ++ x ∷ []
    → before ≡ old ++ flat_map f xs → new ≡ before ++ f x → new ≡ old ++ flat_map f ys
more_after f xs ys x old before new are so_far more =
    more ∙ ap (λ l. l ++ f x) so_far ∙ append_assoc old (flat_map f xs) (f x)
    ∙ ap (λ l. old ++ l)
    (sym (ap (flat_map f) are ∙ flat_map-append f xs (x ∷ [])
    ∙ ap (λ l. flat_map f xs ++ l) (flat_map-cons f x [] ∙ append-nil (f x))))

pub element_more : {X A : Type 0} (f : X → List A) (xs : List X) (i : ℕ) (d : X) (old before new : List A)
    → i < length xs → before ≡ old ++ flat_map f (take i xs) → new ≡ before ++ f (get_or xs i d)
    → new ≡ old ++ flat_map f (take (i + 1) xs)
element_more f xs i d old before new less so_far more =
    more_after f (take i xs) (take (i + 1) xs) (get_or xs i d) old before new (take_more xs i d less) so_far more

pub number_more : {A : Type 0} (f : ℕ → List A) (from at : ℕ) (old before new : List A) → from ≤ at
    → before ≡ old ++ flat_map f (range_with_len from (at - from)) → new ≡ before ++ f at
    → new ≡ old ++ flat_map f (range_with_len from (at + 1 - from))
number_more f from at old before new since so_far more =
    let one : at + 1 - from ≡ (at - from) + 1 = omega arith in
    more_after f (range_with_len from (at - from)) (range_with_len from (at + 1 - from)) at old before new
    (ap (range_with_len from) one ∙ range_more from (at - from) at (omega arith)) so_far more

-- at the end of a loop over a range, which is empty where it ends before it begins
pub numbers_whole : {A : Type 0} (f : ℕ → List A) (from at end : ℕ) (old new : List A) → from ≤ at → at ≤ max from end
    → end ≤ at → new ≡ old ++ flat_map f (range_with_len from (at - from))
    → new ≡ old ++ flat_map f (range_with_len from (end - from))
numbers_whole f from at end old new since until past all =
    let same : at - from ≡ end - from = omega arith in
    all ∙ ap (λ n. old ++ flat_map f (range_with_len from n)) same

pub range_parts : (a m n : ℕ) → range_with_len a (m + n) ≡ range_with_len a m ++ range_with_len (a + m) n
range_parts a m zero =
    let none : m + 0 ≡ m = omega arith in
    ap (range_with_len a) none ∙ sym (append-nil (range_with_len a m))
range_parts a m (suc n) =
    let one : suc n ≡ n + 1 = omega arith in
    let all : m + suc n ≡ (m + n) + 1 = omega arith in
    ap (range_with_len a) all ∙ range_more a (m + n) (a + (m + n)) refl
    ∙ ap (λ l. l ++ (a + (m + n)) ∷ []) (range_parts a m n)
    ∙ append_assoc (range_with_len a m) (range_with_len (a + m) n) ((a + (m + n)) ∷ [])
    ∙ ap (λ l. range_with_len a m ++ l) (sym (range_more (a + m) n (a + (m + n)) (omega arith)))
    ∙ ap (λ k. range_with_len a m ++ range_with_len (a + m) k) (sym one)
