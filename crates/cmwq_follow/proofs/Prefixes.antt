-- Beginnings of histories.
use Rattle.std.proofs.Common.{ℕ, zero, suc, ◌≡◌, ◌∙◌, ◌+◌, ◌<◌, ◌≤◌, ◌++◌, ◌∷◌, [], List, length, take, drop, get_or}
use Rattle.std.proofs.Common.{refl, sym, ap, ap₂, subst, arith, add-one}
use Rattle.std.proofs.lemmas.List.{append_assoc, append-nil, length-append, get_or_append_left}
use mathlib.Core.List.{IsPrefix}
use Rattle.cmwq_model.specs.declared.entry.Entry.{Entry}

pub prefixes : (xs ys zs : List Entry) → IsPrefix xs ys → IsPrefix ys zs → IsPrefix xs zs
prefixes xs ys zs p q = (p.0 ++ q.0, sym (append_assoc xs p.0 q.0) ∙ (ap (λ w. w ++ q.0) p.1 ∙ q.1))

taken : (xs more : List Entry) → take (length xs) (xs ++ more) ≡ xs
taken [] more = refl
taken (x ∷ xs) more = ap (λ zs. x ∷ zs) (taken xs more)

prefix_taken : (xs ys : List Entry) → IsPrefix xs ys → take (length xs) ys ≡ xs
prefix_taken xs ys p = subst (λ zs. take (length xs) zs ≡ xs) p.1 (taken xs p.0)

pub whole : (xs : List Entry) → take (length xs) xs ≡ xs
whole xs = subst (λ zs. take (length xs) zs ≡ xs) (append-nil xs) (taken xs [])

-- of two lists that begin with a third, so much of the one is a beginning of the other
pub front_of : (xs ys zs : List Entry) → IsPrefix xs ys → IsPrefix xs zs → IsPrefix (take (length xs) zs) ys
front_of xs ys zs p q = subst (λ ws. IsPrefix ws ys) (sym (prefix_taken xs zs q)) p

-- Of two lists, of which one and so much of the other are beginnings of a third, as much is the same.
pub same_front : (xs ys zs : List Entry) (k n : ℕ) → k ≤ n → n ≤ length xs → k ≤ length ys → IsPrefix (take n xs) zs
    → IsPrefix ys zs → take k xs ≡ take k ys
same_front xs ys zs zero n most less within p q = refl
same_front xs ys zs (suc k) zero most less within p q = absurd (omega arith)
same_front [] ys zs (suc k) (suc n) most less within p q = absurd (omega arith)
same_front (x ∷ xs) [] zs (suc k) (suc n) most less within p q = absurd (omega arith)
same_front (x ∷ xs) (y ∷ ys) zs (suc k) (suc n) most less within p q =
    let both = p.1 ∙ sym q.1 in
    let first : x ≡ y = ap (λ ws. get_or ws 0 x) both in
    let rest = same_front xs ys (drop 1 zs) k n (omega arith) (omega arith) (omega arith) (p.0, ap (λ ws. drop 1 ws) p.1)
    (q.0, ap (λ ws. drop 1 ws) q.1) in
    ap₂ (λ w ws. w ∷ ws) first rest

-- a beginning has the same entries
pub same_at : (xs ys : List Entry) (k : ℕ) (d : Entry) → IsPrefix xs ys → k < length xs → get_or xs k d ≡ get_or ys k d
same_at xs ys k d p less = sym (get_or_append_left xs p.0 d k less) ∙ ap (λ zs. get_or zs k d) p.1

-- and is no longer
pub no_longer : (xs ys : List Entry) → IsPrefix xs ys → length xs ≤ length ys
no_longer xs ys p = let both = length-append xs p.0 in let all = ap length p.1 in omega arith

-- one entry more
longer : (xs ys : List Entry) (k : ℕ) (d : Entry) → k < length xs → k < length ys → IsPrefix (take k xs) ys
    → get_or xs k d ≡ get_or ys k d → IsPrefix (take (suc k) xs) ys
longer [] ys k d less other p same = absurd (omega arith)
longer (x ∷ xs) [] k d less other p same = absurd (omega arith)
longer (x ∷ xs) (y ∷ ys) zero d less other p same = (ys, ap (λ z. z ∷ ys) same)
longer (x ∷ xs) (y ∷ ys) (suc k) d less other p same =
    let first : x ≡ y = ap (λ zs. get_or zs 0 d) p.1 in
    let rest = longer xs ys k d (omega arith) (omega arith) (p.0, ap (λ zs. drop 1 zs) p.1) same in
    (rest.0, ap₂ (λ z zs. z ∷ zs) first rest.1)

pub front_longer : (xs ys : List Entry) (k : ℕ) (d : Entry) → k < length xs → k < length ys → IsPrefix (take k xs) ys
    → get_or xs k d ≡ get_or ys k d → IsPrefix (take (k + 1) xs) ys
front_longer xs ys k d less other p same =
    subst (λ n. IsPrefix (take n xs) ys) (sym (add-one k)) (longer xs ys k d less other p same)

-- a beginning that is as long is the whole
pub all_of : (xs ys : List Entry) → IsPrefix xs ys → length xs ≡ length ys → xs ≡ ys
all_of xs ys p same = sym (prefix_taken xs ys p) ∙ ap (λ n. take n ys) same ∙ whole ys

-- ---- how many entries are the same

-- those of a beginning, where those of a list that goes on are more
pub front_agrees : (xs ys zs : List Entry) (k n : ℕ) → IsPrefix xs ys → k ≤ length xs → k ≤ n → IsPrefix (take n ys) zs
    → IsPrefix (take k xs) zs
front_agrees xs ys zs zero n p within less q = (zs, refl)
front_agrees xs ys zs (suc k) zero p within less q = absurd (omega arith)
front_agrees [] ys zs (suc k) (suc n) p within less q = absurd (omega arith)
front_agrees (x ∷ xs) ys zs (suc k) (suc n) p within less q =
    let inner = front_agrees xs (xs ++ p.0) (take n (xs ++ p.0) ++ q.0) k n (p.0, refl) (omega arith) (omega arith)
    (q.0, refl) in
    (inner.0, ap (λ ws. x ∷ ws) inner.1 ∙ ap (λ ws. take (suc n) ws ++ q.0) p.1 ∙ q.1)

-- all, where the lists are the same
pub same_agree : (xs zs : List Entry) → xs ≡ zs → IsPrefix (take (length xs) xs) zs
same_agree xs zs same = ([], append-nil (take (length xs) xs) ∙ whole xs ∙ same)

-- where all are the same, the list is a beginning
pub all_agree : (xs zs : List Entry) (n : ℕ) → n ≡ length xs → IsPrefix (take n xs) zs → IsPrefix xs zs
all_agree xs zs n all p = subst (λ ws. IsPrefix ws zs) (ap (λ k. take k xs) all ∙ whole xs) p

agree_at : (xs zs : List Entry) (n k : ℕ) (d : Entry) → k < n → n ≤ length xs → IsPrefix (take n xs) zs
    → get_or xs k d ≡ get_or zs k d
agree_at xs zs zero k d less within p = absurd (omega arith)
agree_at [] zs (suc n) k d less within p = absurd (omega arith)
agree_at (x ∷ xs) zs (suc n) zero d less within p = ap (λ ws. get_or ws 0 d) p.1
agree_at (x ∷ xs) zs (suc n) (suc k) d less within p =
    agree_at xs (take n xs ++ p.0) n k d (omega arith) (omega arith) (p.0, refl)
    ∙ ap (λ ws. get_or ws (suc k) d) p.1

at_most : (n k : ℕ) → (k < n → ⊥) → n ≤ k
at_most zero k never = omega arith
at_most (suc n) zero never = absurd (never (omega arith))
at_most (suc n) (suc k) never = let inner = at_most n k (λ less. never (omega (arith, less))) in omega (arith, inner)

-- nor more than those before an entry that differs
pub differ_at : (xs zs : List Entry) (n k : ℕ) (d : Entry) → (get_or xs k d ≡ get_or zs k d → ⊥) → n ≤ length xs
    → IsPrefix (take n xs) zs → n ≤ k
differ_at xs zs n k d differ within p = at_most n k (λ less. differ (agree_at xs zs n k d less within p))
