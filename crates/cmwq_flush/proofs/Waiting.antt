-- Which served flush is the first to wait for a queueing, as flushes come and go.
use Rattle.cmwq_flush.specs.Common.{◌≡◌, ℕ, ◌+◌, ◌<◌, ◌≤◌, not, cond, List, [], ◌∷◌, ◌++◌, length, get_or, zero, suc}
use Rattle.cmwq_flush.specs.Common.{ap, refl, arith, ⊎_elim, All, remove, IsNonDecreasingBy, cases_lt, nat_tests}
use Rattle.cmwq_flush.specs.Common.{prefix_len-le-length, fails_before_first, passes_at_first, All-head, All-tail}
use Rattle.cmwq_flush.specs.declared.served.Served.{Served}
use Rattle.cmwq_flush.specs.Served.{bound_of, served_waits_for, first_waiting}

-- a new flush at the end changes nothing for what it waits for
pub first_waiting-push : (served : List Served) (s : Served) (n : ℕ) → n < s.bound → first_waiting (served ++ s ∷ []) n
    ≡ first_waiting served n
first_waiting-push [] s n lt = grind (arith, nat_tests)
first_waiting-push (x ∷ served) s n lt =
    ap (λ k. cond (not (served_waits_for n x)) (1 + k) 0) (first_waiting-push served s n lt)

-- what was opened after all were served is waited for by the next alone
pub first_waiting-none : (served : List Served) (n : ℕ) → All (λ s. s.bound ≤ n) served
    → first_waiting served n ≡ length served
first_waiting-none [] n all = refl
first_waiting-none (x ∷ served) n all =
    let here : x.bound ≤ n = All-head (λ (s : Served). s.bound ≤ n) x served all in
    let rest = first_waiting-none served n (All-tail (λ (s : Served). s.bound ≤ n) x served all) in
    grind (arith, nat_tests)

-- one that ends before the first that waits moves that one up
pub first_waiting-remove : (served : List Served) (i n : ℕ) → i < first_waiting served n
    → first_waiting (remove served i) n + 1 ≡ first_waiting served n
first_waiting-remove [] i n lt = absurd (omega arith)
first_waiting-remove (x ∷ served) zero n lt = grind arith
first_waiting-remove (x ∷ served) (suc i) n lt = grind (arith, first_waiting-remove served i n)

pub first_waiting-le : (served : List Served) (n : ℕ) → first_waiting served n ≤ length served
first_waiting-le served n = prefix_len-le-length (λ s. not (served_waits_for n s)) served

-- a flush that waits for n is at the first that does, or after it
pub first_waiting_at_most : (served : List Served) (i n : ℕ) (d : Served) → n < (get_or served i d).bound
    → first_waiting served n ≤ i
first_waiting_at_most served i n d lt = grind (arith, fails_before_first)

-- bounds rise, so one that doesn't wait for n is before the first that does
pub first_waiting_after : (served : List Served) (i n : ℕ) (d : Served) → IsNonDecreasingBy bound_of served
    → i < length served → (get_or served i d).bound ≤ n → i < first_waiting served n
first_waiting_after served i n d rise lt le =
    ⊎_elim (λ (before : i < first_waiting served n). before) (λ (at_most : first_waiting served n ≤ i).
    let waits = passes_at_first (served_waits_for n) served d (omega arith) in
    let less = rise (first_waiting served n) i d at_most lt in
    grind (arith, nat_tests)) (cases_lt i (first_waiting served n))
