-- Loops over runs that look for one that passes.
use Rattle.std.proofs.Common.{◌≡◌, ◌∙◌, ◌<◌, ◌≤◌, ◌+◌, ℕ, Bool, true, false, List, get_or, length, ap, arith, ◌⊎◌, ⊎_elim, inl, inr}
use Rattle.std.specs.Prelude.{Contains}
use Rattle.std.proofs.Common.{min, take}
use Rattle.std.specs.Prelude.{◌-◌, ◌^◌, nat_le}
use Rattle.std.specs.List.{list_any, sum_by}
use Rattle.std.proofs.lemmas.Bool.{cases_lt, le-leb, leb-true}
use Rattle.std.proofs.lemmas.List.{get_or_default, length-take-le, take_all}
use Rattle.std.proofs.lemmas.List.Sums.{sum_by_more}
use Rattle.std.proofs.Common.{filter}
use Rattle.cmwq_lemmas.proofs.Lists.{filter_shorter}
use Rattle.cmwq_lemmas.proofs.Truth.{same_bools}
use Rattle.std.proofs.lemmas.List.Folds.{list_any_none}
use Rattle.cmwq_lemmas.proofs.Members.{any_in, in_at}
use Rattle.cmwq_model.specs.declared.entry.Entry.{Entry}
use Rattle.cmwq_waits.specs.Looks.{AreSeen, IsSeen}
use Rattle.cmwq_waits.specs.declared.run_wait.RunWait.{RunWait}

pub seen_at : (past : List Entry) (set : List RunWait) (k : ℕ) (d : RunWait) → AreSeen past set → k < length set
    → IsSeen past (get_or set k d)
seen_at past set k d seen less = seen (get_or set k d) (k, less, get_or_default set k (get_or set k d) d less)

-- an element is at its place
pub at_place : {X : Type 0} (xs : List X) (k : ℕ) (d : X) → k < length xs → Contains xs (get_or xs k d)
at_place xs k d less = (k, less, get_or_default xs k (get_or xs k d) d less)

pub le_or_lt : (m n : ℕ) → (m ≤ n) ⊎ (n < m)
le_or_lt m n = ⊎_elim (λ (less : n < m). inr less) (λ (not_less : m ≤ n). inl not_less) (cases_lt n m)

-- none passes so far
abbrev pub NoneBelow : {X : Type 0} → (X → Bool) → List X → ℕ → Type 0
NoneBelow {X} p xs n = (k : ℕ) (d : X) → k < n → p (get_or xs k d) ≡ false

pub none_more : {X : Type 0} (p : X → Bool) (xs : List X) (n : ℕ) (e : X) → NoneBelow p xs n → n < length xs
    → p (get_or xs n e) ≡ false → NoneBelow p xs (n + 1)
none_more p xs n e none less fails k d below =
    ⊎_elim (λ (before : k < n). none k d before)
    (λ (after : n ≤ k). let same : k ≡ n = omega arith in
    rw same (ap p (get_or_default xs n d e less) ∙ fails)) (cases_lt k n)

pub some_at : {X : Type 0} (p : X → Bool) (xs : List X) (n : ℕ) (d : X) → n < length xs → p (get_or xs n d) ≡ true
    → list_any p xs ≡ true
some_at p xs n d less passes =
    any_in p xs (get_or xs n d) (in_at xs n (get_or xs n d) less (get_or_default xs n (get_or xs n d) d less)) passes

pub none_in_all : {X : Type 0} (p : X → Bool) (xs : List X) (n : ℕ) → length xs ≤ n → NoneBelow p xs n
    → list_any p xs ≡ false
none_in_all p xs n all none = list_any_none p xs (λ k d less. none k d (omega arith))

-- what is kept so far of a list leaves room for one more
pub kept_room : {X : Type 0} (p : X → Bool) (xs : List X) (n : ℕ) → n < length xs
    → length (filter p (take n xs)) < length xs
kept_room p xs n less =
    let shorter = filter_shorter p (take n xs) in
    let taken = length-take-le n xs (omega (arith, less)) in
    omega (arith, less, shorter, taken)

-- ---- sums up to the greatest number

pub capped_more : {X : Type 0} (f : X → ℕ) (xs : List X) (n : ℕ) (d : X) (held more sum : ℕ) → n < length xs
    → held ≡ min (sum_by f (take n xs)) (2 ^ 32 - 1) → more ≡ f (get_or xs n d) → sum ≡ min (held + more) (2 ^ 32 - 1)
    → sum ≡ min (sum_by f (take (n + 1) xs)) (2 ^ 32 - 1)
capped_more f xs n d held more sum less is next capped = omega (arith, sum_by_more f xs n d less)

pub capped_all : {X : Type 0} (f : X → ℕ) (xs : List X) (n held m most : ℕ) → length xs ≤ n
    → held ≡ min (sum_by f (take n xs)) (2 ^ 32 - 1) → m < 2 ^ 32 → m ≡ most
    → nat_le m held ≡ nat_le most (sum_by f xs)
capped_all f xs n held m most all is few same =
    let capped : held ≡ min (sum_by f xs) (2 ^ 32 - 1) = rw (take_all n xs all) at is in
    same_bools (nat_le m held) (nat_le most (sum_by f xs))
    (λ yes. le-leb most (sum_by f xs) (let le = leb-true m held yes in omega arith))
    (λ yes. le-leb m held (let le = leb-true most (sum_by f xs) yes in omega arith))
