-- Idle queues in a row, as the row grows by one queue; and that something is active where something is open.
use Rattle.std.proofs.Common.{◌≡◌, ℕ, zero, suc, ◌+◌, ◌<◌, ◌≤◌, List, [], ◌∷◌, length, ap, add-one}
use Rattle.std.proofs.Common.{arith, refl, sym, true, ◌∙◌}
use Rattle.std.proofs.lemmas.Bool.Decides.{nat_tests}
use Rattle.std.proofs.lemmas.List.Sums.{count_by-le-length}
use Rattle.std.specs.Prelude.{◌*◌, if◌then◌else◌, nat_lt, slice_index}
use Rattle.cmwq_model.specs.declared.entry.Entry.{Entry}
use Rattle.cmwq_model.specs.Prelude.{Layout, is_active, most_cpus, queueings, width}
use Rattle.cmwq_state.specs.Pwqs.{AreActiveCounts, active_on}
use Rattle.cmwq_theory_steps.specs.Places.{active_count, open_on}
use Rattle.cmwq_theory_steps.proofs.Active.{active_counted}
use Rattle.cmwq_views.specs.Open.{idle_from, is_idle_queue, is_open_on}

pub idle_at_first : (s : Layout) (past : List Entry) → 0 ≡ idle_from s past 0
unfolding idle_from
idle_at_first s past = refl

pub idle_next : (s : Layout) (past : List Entry) (q : ℕ)
    → (if is_idle_queue s past q then idle_from s past q else q + 1) ≡ idle_from s past (q + 1)
unfolding idle_from
idle_next s past q = rw (add-one q) refl

-- ---- what is open on a queue that is not frozen

positive_is : (n : ℕ) → 0 < n → nat_lt 0 n ≡ true
positive_is n some = grind (arith, nat_tests)

positive_too : (m n : ℕ) → m ≤ n → (0 < n → 0 < m) → nat_lt 0 m ≡ nat_lt 0 n
positive_too zero zero less more = refl
positive_too zero (suc n) less more = let no = more (omega arith) in absurd (omega arith)
positive_too (suc m) zero less more = absurd (omega arith)
positive_too (suc m) (suc n) less more =
    positive_is (suc m) (omega arith) ∙ sym (positive_is (suc n) (omega arith))

some_active : (s : Layout) (past : List Entry) (q c : ℕ) → 0 < width s past q → 0 < length (open_on past q c)
    → 0 < active_count s past q c
unfolding active_count queueings
some_active s [] q c wide some = some
some_active s (e ∷ past) q c wide some = omega arith

pub open_if_active : (s : Layout) (past : List Entry) (q c : ℕ) → 0 < width s past q
    → nat_lt 0 (active_on s past q c) ≡ is_open_on past q c
open_if_active s past q c wide =
    positive_too (active_on s past q c) (length (open_on past q c))
    (count_by-le-length (is_active s past) (open_on past q c))
    (λ some. rw (active_counted s past q c) (some_active s past q c wide some))

pub open_if_counted : (s : Layout) (past : List Entry) (counts : List ℕ) (q c : ℕ) → AreActiveCounts s past counts
    → q < length s.queues → c < most_cpus → 0 < width s past q
    → nat_lt 0 (slice_index counts (most_cpus * q + c)) ≡ is_open_on past q c
open_if_counted s past counts q c are here small wide =
    ap (λ n. nat_lt 0 n) (are.each q c here small) ∙ open_if_active s past q c wide
