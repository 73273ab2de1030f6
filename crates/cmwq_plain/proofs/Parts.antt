-- The first k entries of a history, as it grows by one entry and from a list that is kept oldest first.
use Rattle.cmwq_plain.specs.Common.{◌≡◌, ℕ, zero, suc, true, nat_lt, slice_get, ◌+◌, ◌-◌, ◌<◌, ◌≤◌, List, [], ◌∷◌, ◌++◌}
use Rattle.cmwq_plain.specs.Common.{length, get_or, take, drop, reverse, Option, Some, None, refl, sym, ap, ◌∙◌, arith}
use Rattle.cmwq_plain.specs.Common.{add-one, length-drop, take-append-drop, reverse-append, drop_all, length-reverse}
use Rattle.cmwq_plain.specs.Common.{take-suc, drop-append_seam, Entry, entry_at, past_of, lt-ltb}
use Rattle.cmwq_plain.specs.Past.{upto, past_with}

pub upto-none : (past : List Entry) → upto past 0 ≡ []
unfolding upto
upto-none past = drop_all (length past - 0) past (omega arith)

pub upto-all : (past : List Entry) (k : ℕ) → length past ≤ k → upto past k ≡ past
unfolding upto
upto-all past k h = let e : length past - k ≡ 0 = omega arith in rw e

pub length-upto : (past : List Entry) (k : ℕ) → k ≤ length past → length (upto past k) ≡ k
unfolding upto
length-upto past k h = omega (arith, length-drop (length past - k) past)

pub upto-more : (e : Entry) (past : List Entry) (k : ℕ) → k ≤ length past → upto (e ∷ past) k ≡ upto past k
unfolding upto
upto-more e past k h = let s : suc (length past) - k ≡ suc (length past - k) = omega arith in rw s

pub upto-past_of : (entries : List Entry) (k : ℕ) → k ≤ length entries
    → upto (past_of entries) k ≡ past_of (take k entries)
unfolding upto
upto-past_of entries k h =
    let long : length (reverse entries) - k ≡ length (reverse (drop k entries)) =
    omega (arith, length-reverse entries, length-reverse (drop k entries), length-drop k entries) in
    let apart : reverse entries ≡ reverse (drop k entries) ++ reverse (take k entries) =
    ap reverse (sym (take-append-drop k entries)) ∙ reverse-append (take k entries) (drop k entries) in
    ap (drop (length (reverse entries) - k)) apart
    ∙ rw long (drop-append_seam (reverse (drop k entries)) (reverse (take k entries)))

pub upto-step : (entries : List Entry) (k : ℕ) (d : Entry) → k < length entries
    → upto (past_of entries) (k + 1) ≡ get_or entries k d ∷ upto (past_of entries) k
upto-step entries k d h =
    let longer : take (k + 1) entries ≡ take k entries ++ (get_or entries k d ∷ []) =
    rw add-one (take-suc entries k d h) in
    upto-past_of entries (k + 1) (omega arith) ∙ ap reverse longer
    ∙ reverse-append (take k entries) (get_or entries k d ∷ [])
    ∙ ap (λ p. get_or entries k d ∷ p) (sym (upto-past_of entries k (omega arith)))

-- the same where there may be one entry more
pub upto-then : (latest : Option Entry) (entries : List Entry) (k : ℕ) → k ≤ length entries
    → upto (past_with latest (past_of entries)) k ≡ past_of (take k entries)
upto-then None entries k h = upto-past_of entries k h
upto-then (Some e) entries k h = upto-more e (past_of entries) k (omega (arith, length-reverse entries))
    ∙ upto-past_of entries k h

pub upto-then-all : (latest : Option Entry) (entries : List Entry) (k : ℕ) → length entries < k
    → upto (past_with latest (past_of entries)) k ≡ past_with latest (past_of entries)
upto-then-all None entries k h = upto-all (past_of entries) k (omega (arith, length-reverse entries))
upto-then-all (Some e) entries k h = upto-all (e ∷ past_of entries) k (omega (arith, length-reverse entries))

pub upto-then-step : (latest : Option Entry) (entries : List Entry) (k : ℕ) (d : Entry) → k < length entries
    → upto (past_with latest (past_of entries)) (k + 1) ≡ get_or entries k d
    ∷ upto (past_with latest (past_of entries)) k
upto-then-step None entries k d h = upto-step entries k d h
upto-then-step (Some e) entries k d h =
    upto-more e (past_of entries) (k + 1) (omega (arith, length-reverse entries)) ∙ upto-step entries k d h
    ∙ ap (λ p. get_or entries k d ∷ p)
    (sym (upto-more e (past_of entries) k (omega (arith, length-reverse entries))))

pub upto-then-last : (e : Entry) (entries : List Entry) (k : ℕ) → k ≡ length entries
    → upto (e ∷ past_of entries) (k + 1) ≡ e ∷ upto (e ∷ past_of entries) k
upto-then-last e entries k h =
    upto-all (e ∷ past_of entries) (k + 1) (omega (arith, length-reverse entries))
    ∙ ap (λ p. e ∷ p)
    (sym (upto-more e (past_of entries) k (omega (arith, length-reverse entries))
    ∙ upto-all (past_of entries) k (omega (arith, length-reverse entries))))

pub within : (latest : Option Entry) (entries : List Entry) (k : ℕ) → k < length (past_with latest (past_of entries))
    → (k ≡ length entries → ⊥) → k < length entries
within None entries k h other = omega (arith, length-reverse entries)
within (Some e) entries k h other = omega (arith, length-reverse entries)

pub within_none : (latest : Option Entry) (entries : List Entry) (k : ℕ) → latest ≡ None
    → k < length (past_with latest (past_of entries)) → k < length entries
within_none None entries k n h = omega (arith, length-reverse entries)
within_none (Some e) entries k n h = cc

-- one entry more is longer by some entry
drop-grows : (xs : List Entry) (i : ℕ) → i < length xs → (e : Entry) × (drop i xs ≡ e ∷ drop (suc i) xs)
drop-grows [] i h = absurd (omega arith)
drop-grows (x ∷ xs) zero h = (x, refl)
drop-grows (x ∷ xs) (suc i) h = drop-grows xs i (omega arith)

pub upto-grows : (past : List Entry) (k : ℕ) → k < length past → (e : Entry) × (upto past (k + 1) ≡ e ∷ upto past k)
unfolding upto
upto-grows past k h =
    let s : suc (length past - (k + 1)) ≡ length past - k = omega arith in
    let g = drop-grows past (length past - (k + 1)) (omega arith) in
    (g.0, g.1 ∙ ap (λ j. g.0 ∷ drop j past) s)

-- what a loop over all numbers begins and ends with
pub ruleset ends = (upto-none, upto-all, length-upto)

-- the entry that the first k + 1 entries end with
slice_get-drop : (xs : List Entry) (i : ℕ) (e : Entry) (rest : List Entry) → drop i xs ≡ e ∷ rest
    → slice_get xs i ≡ Some e
slice_get-drop [] zero e rest h = cc
slice_get-drop [] (suc i) e rest h = cc
slice_get-drop (x ∷ xs) zero e rest h = cc
slice_get-drop (x ∷ xs) (suc i) e rest h = slice_get-drop xs i e rest h

pub entry_at-upto : (past : List Entry) (n : ℕ) (e : Entry) → n < length past → upto past (n + 1) ≡ e ∷ upto past n
    → entry_at past n ≡ Some e
unfolding upto
entry_at-upto past n e h s =
    let inside : nat_lt n (length past) ≡ true = lt-ltb n (length past) h in
    let found : slice_get past (length past - suc n) ≡ Some e =
    slice_get-drop past (length past - suc n) e (drop (length past - n) past) (rw add-one at s) in
    rw (inside, found)
