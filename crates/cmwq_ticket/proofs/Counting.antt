-- What is counted over all rows, as tickets come and go.
use Rattle.cmwq_ticket.specs.Common.{◌≡◌, ℕ, ◌+◌, ◌-◌, ◌<◌, ◌≤◌, Bool, true, false, cond, ◌==◌, List, [], ◌∷◌, ◌++◌}
use Rattle.cmwq_ticket.specs.Common.{length, get_or, count_by, All, AllPairs, filter, Some, refl, ap, ◌∙◌, arith}
use Rattle.cmwq_ticket.specs.Common.{⊎_elim, slice_index, nat_lt, list_any, cases_eq, cases_lt, nat_tests}
use Rattle.cmwq_ticket.specs.Common.{get_or-set_same, get_or-set_other, get_or_default, get_or_past, sum_by-set}
use Rattle.cmwq_ticket.specs.Common.{sum_by_push, sum_by-cons, sum_by-le, count_by-le-length, Ticket}
use Rattle.cmwq_ticket.specs.Counts.{count_all, IsExact, IsBelowLimit, more_at, less_at}
use Rattle.cmwq_ticket.specs.Rows.{TicketRows, tickets_of_caller, rows_with, rows_without, ticket_of_caller}
use Rattle.cmwq_ticket.specs.Rows.{is_other_ticket, IsOlderTicket, IsRow}
use Rattle.cmwq_ticket.proofs.RowSteps.{count_by-other}

-- ---- one more, one less

count_all-given : (p : Ticket → Bool) (rows : TicketRows) (t : Ticket) → t.caller.0 < length rows
    → count_all p (rows_with rows t) ≡ count_all p rows + cond (p t) 1 0
count_all-given p rows t there =
    let row = tickets_of_caller rows t.caller.0 in
    let changed = sum_by-set (count_by p) rows t.caller.0 (row ++ t ∷ []) [] there in
    let more = sum_by_push (λ (u : Ticket). cond (p u) 1 0) row t in
    omega arith

count_all-ended : (p : Ticket → Bool) (rows : TicketRows) (c n : ℕ) (t : Ticket) → c < length rows
    → AllPairs IsOlderTicket (tickets_of_caller rows c) → ticket_of_caller rows c n ≡ Some t
    → count_all p (rows_without rows c n) + cond (p t) 1 0 ≡ count_all p rows
count_all-ended p rows c n t there rise found =
    let changed = sum_by-set (count_by p) rows c (filter (is_other_ticket n) (tickets_of_caller rows c)) [] there in
    let less = count_by-other p n t (tickets_of_caller rows c) rise found in
    omega arith

-- a count at each place, after one more and one less at a place
more_at-at : (counts : List ℕ) (k i : ℕ) → k < length counts
    → slice_index (more_at k counts) i ≡ slice_index counts i + cond (k == i) 1 0
more_at-at counts k i lt = ⊎_elim (λ (same : i ≡ k).
    let hit : (k == i) ≡ true = grind (arith, nat_tests) in
    rw (hit, same) (get_or-set_same counts k (slice_index counts k + 1) 0 lt)) (λ (differs : i ≡ k → ⊥).
    let miss : (k == i) ≡ false = grind (arith, nat_tests) in
    let kept = get_or-set_other counts k i (slice_index counts k + 1) 0 differs in
    rw miss (omega arith)) (cases_eq i k)

-- where something is counted there is a place
pub has_place : (counts : List ℕ) (k : ℕ) → 0 < slice_index counts k → k < length counts
has_place counts k some =
    ⊎_elim (λ (lt : k < length counts). lt) (λ (past : length counts ≤ k). let none = get_or_past counts k 0 past in
    absurd (omega arith)) (cases_lt k (length counts))

less_at-at : (counts : List ℕ) (k i : ℕ) → 0 < slice_index counts k
    → slice_index (less_at k counts) i + cond (k == i) 1 0 ≡ slice_index counts i
less_at-at counts k i some = ⊎_elim (λ (same : i ≡ k).
    let hit : (k == i) ≡ true = grind (arith, nat_tests) in
    let now = get_or-set_same counts k (slice_index counts k - 1) 0 (has_place counts k some) in
    rw (hit, same) (omega arith)) (λ (differs : i ≡ k → ⊥).
    let miss : (k == i) ≡ false = grind (arith, nat_tests) in
    let kept = get_or-set_other counts k i (slice_index counts k - 1) 0 differs in
    rw miss (omega arith)) (cases_eq i k)

-- something is counted where some ticket passes
any_of_row : (p : Ticket → Bool) (row : List Ticket) → nat_lt 0 (count_by p row) ≡ list_any p row
any_of_row p [] = refl
any_of_row p (x ∷ row) = which (p x) refl (any_of_row p row)
  where
    which : (b : Bool) → p x ≡ b → nat_lt 0 (count_by p row) ≡ list_any p row
        → nat_lt 0 (count_by p (x ∷ row)) ≡ list_any p (x ∷ row)
    which true is rest =
        let one = rw is at (sum_by-cons (λ (u : Ticket). cond (p u) 1 0) x row) in
        rw (is, one) (let more : nat_lt 0 (1 + count_by p row) ≡ true = grind (arith, nat_tests) in more)
    which false is rest =
        let one = rw is at (sum_by-cons (λ (u : Ticket). cond (p u) 1 0) x row) in
        rw (is, one) (ap (nat_lt 0) (let same : 0 + count_by p row ≡ count_by p row = omega arith in same) ∙ rest)

any_of_rows : (p : Ticket → Bool) (rows : TicketRows) → nat_lt 0 (count_all p rows) ≡ list_any (list_any p) rows
any_of_rows p [] = refl
any_of_rows p (row ∷ rows) =
    let all = sum_by-cons (count_by p) row rows in
    rw (all, ← any_of_row p row, ← any_of_rows p rows) (grind (arith, nat_tests))

-- ---- the counts beside the rows

module _ (p : ℕ → Ticket → Bool) (counts : List ℕ) (rows : TicketRows) (exact : IsExact p counts rows) where
  -- a ticket that isn't counted here comes or goes
  pub given_uncounted : (t : Ticket) → t.caller.0 < length rows → ((i : ℕ) → p i t ≡ false)
      → IsExact p counts (rows_with rows t)
  given_uncounted t there none i =
      let more = rw (none i) at (count_all-given (p i) rows t there) in
      let was = exact i in
      omega arith

  pub ended_uncounted : (c n : ℕ) (t : Ticket) → c < length rows → AllPairs IsOlderTicket (tickets_of_caller rows c)
      → ticket_of_caller rows c n ≡ Some t → ((i : ℕ) → p i t ≡ false) → IsExact p counts (rows_without rows c n)
  ended_uncounted c n t there rise found none i =
      let less = rw (none i) at (count_all-ended (p i) rows c n t there rise found) in
      let was = exact i in
      omega arith

  -- one that is counted at place k does
  pub given_counted : (t : Ticket) (k : ℕ) → t.caller.0 < length rows → ((i : ℕ) → p i t ≡ (k == i)) → k < length counts
      → IsExact p (more_at k counts) (rows_with rows t)
  given_counted t k there is lt i =
      let more = rw (is i) at (count_all-given (p i) rows t there) in
      let was = exact i in
      let now = more_at-at counts k i lt in
      omega arith

  pub counted_some : (c n : ℕ) (t : Ticket) (k : ℕ) → c < length rows
      → AllPairs IsOlderTicket (tickets_of_caller rows c) → ticket_of_caller rows c n ≡ Some t
      → ((i : ℕ) → p i t ≡ (k == i)) → 0 < slice_index counts k
  counted_some c n t k there rise found is =
      let hit : p k t ≡ true = is k ∙ (let e : (k == k) ≡ true = grind (arith, nat_tests) in e) in
      let less = rw hit at (count_all-ended (p k) rows c n t there rise found) in
      let was = exact k in
      omega arith

  pub ended_counted : (c n : ℕ) (t : Ticket) (k : ℕ) → c < length rows
      → AllPairs IsOlderTicket (tickets_of_caller rows c) → ticket_of_caller rows c n ≡ Some t
      → ((i : ℕ) → p i t ≡ (k == i)) → IsExact p (less_at k counts) (rows_without rows c n)
  ended_counted c n t k there rise found is i =
      let less = rw (is i) at (count_all-ended (p i) rows c n t there rise found) in
      let was = exact i in
      let now = less_at-at counts k i (counted_some c n t k there rise found is) in
      omega arith

  -- no count is out of range
  pub counts_below : length rows < 256 → All IsRow rows → All IsBelowLimit counts
  counts_below few are k d lt =
      let IsShort : List Ticket → Type 0 = λ row. count_by (p k) row ≤ 64 in
      let short : All IsShort rows = λ j e less. let le = count_by-le-length (p k) (get_or rows j e) in let fits =
      (are j e less).few in omega arith in
      let all = sum_by-le (count_by (p k)) 64 rows short in
      let same = get_or_default counts k d 0 lt in
      let was = exact k in
      omega arith

  -- what is counted at a place is what some ticket is
  pub any_counted : (i : ℕ) → nat_lt 0 (slice_index counts i) ≡ list_any (list_any (p i)) rows
  any_counted i = rw (exact i) (any_of_rows (p i) rows)
