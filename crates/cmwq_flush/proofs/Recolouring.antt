-- What each call keeps of the colouring, and what the counts of colours say of a flush.
use Rattle.cmwq_flush.specs.Common.{◌≡◌, ◌≢◌, ℕ, ◌+◌, ◌<◌, ◌≤◌, true, false, cond, List, [], ◌∷◌, ◌++◌, length, get_or}
use Rattle.cmwq_flush.specs.Common.{take, suc, sym, ap, ◌∙◌, arith, ⊎_elim, All, AllPairs, remove, IsNonDecreasingBy}
use Rattle.cmwq_flush.specs.Common.{cases_lt, nat_tests, get_or-take, length-take-le, get_or_append_left}
use Rattle.cmwq_flush.specs.Common.{get_or_default, length-append, All-push, All-filter, All-take, All-drop, All-append}
use Rattle.cmwq_flush.specs.Common.{length-remove, get_or-remove_below, get_or-remove_above, all_pairs_push}
use Rattle.cmwq_flush.specs.Common.{all_pairs_remove, get_or-le-sum_by, sum_by-le}
use Rattle.cmwq_flush.specs.declared.served.Served.{Served}
use Rattle.cmwq_flush.specs.declared.openings.Row.{Row}
use Rattle.cmwq_flush.specs.Rows.{has_colour, is_unused, without_row, is_other_row}
use Rattle.cmwq_flush.specs.Served.{bound_of, first_waiting}
use Rattle.cmwq_flush.specs.FlushBook.{flush_from}
use Rattle.cmwq_flush.specs.Colouring.{DiffersInColour, HasRightColour, IsColouring, AreUnused, WaitsForNothing}
use Rattle.cmwq_flush.proofs.Waiting.{first_waiting-push, first_waiting-none, first_waiting-remove, first_waiting-le}
use Rattle.cmwq_flush.proofs.Waiting.{first_waiting_at_most, first_waiting_after}

-- a queueing is opened after all were served, with the current colour
pub colouring_opened : (colours : List ℕ) (served : List Served) (rows : List Row) (r : Row)
    → All (λ s. s.bound ≤ r.number) served → r.colour ≡ get_or colours (length served) 0
    → IsColouring colours served rows → IsColouring colours served (rows ++ r ∷ [])
colouring_opened colours served rows r later current is = record {
  sixteen = is.sixteen;
  distinct = is.distinct;
  below = is.below;
  right = All-push (HasRightColour colours served) rows r is.right
      (current ∙ ap (λ k. get_or colours k 0) (sym (first_waiting-none served r.number later)));
}

-- one ends
pub colouring_ended : (colours : List ℕ) (served : List Served) (rows : List Row) (n : ℕ)
    → IsColouring colours served rows → IsColouring colours served (without_row n rows)
colouring_ended colours served rows n is = record {
  sixteen = is.sixteen;
  distinct = is.distinct;
  below = is.below;
  right = All-filter (is_other_row n) (HasRightColour colours served) rows is.right;
}

-- a flush is served: what was the current colour is its own, and no queueing has the new current one
pub colouring_served : (colours : List ℕ) (served : List Served) (rows : List Row) (s : Served)
    → All (λ r. r.number < s.bound) rows → IsColouring colours served rows → IsColouring colours (served ++ s ∷ []) rows
colouring_served colours served rows s older is = grind (arith, first_waiting-push)

-- a flush that waits for nothing that is open ends: its colour is free, and those after it move up
module _ (colours : List ℕ) (served : List Served) (rows : List Row) (i : ℕ) (sixteen : length colours ≡ 16)
    (few : length served ≤ 15) (lt : i < length served) where
  -- the colour after the freed one, and each later one, is a place further to the front
  moved_up : (k : ℕ) → i ≤ k → k < length served → get_or (remove colours i ++ get_or colours i 0 ∷ []) k 0
      ≡ get_or colours (k + 1) 0
  moved_up k after le =
      let shorter = length-remove colours i (omega arith) in
      get_or_append_left (remove colours i) (get_or colours i 0 ∷ []) 0 k (omega arith)
      ∙ get_or-remove_above colours i 0 k after (omega arith)

  freed_differs : (k d : ℕ) → AllPairs DiffersInColour colours → k < length (remove colours i)
      → DiffersInColour (get_or (remove colours i) k d) (get_or colours i 0)
  freed_differs k d distinct within =
      let shorter = length-remove colours i (omega arith) in
      rw (get_or_default (remove colours i) k d 0 within)
      (⊎_elim (λ (before : k < i). rw (get_or-remove_below colours i 0 k before (omega arith))
      (distinct k i 0 before (omega arith)))
      (λ (after : i ≤ k). rw (get_or-remove_above colours i 0 k after (omega arith))
      (λ same. distinct i (k + 1) 0 (omega arith) (omega arith) (sym same))) (cases_lt k i))

  pub colouring_removed : IsNonDecreasingBy bound_of served
      → ((d : Served) → All (λ r. (get_or served i d).bound ≤ r.number) rows) → IsColouring colours served rows
      → IsColouring (remove colours i ++ get_or colours i 0 ∷ []) (remove served i) rows
  colouring_removed rise ready is = record {
    sixteen = let shorter = length-remove colours i (omega arith) in rw length-append (omega arith);
    distinct =
        all_pairs_push DiffersInColour (remove colours i) (get_or colours i 0)
        (all_pairs_remove DiffersInColour colours i (omega arith) is.distinct)
        (λ k d within. freed_differs k d is.distinct within);
    below =
        let IsBelow : ℕ → Type 0 = λ c. c < 16 in
        All-push IsBelow (remove colours i) (get_or colours i 0)
        (All-append IsBelow _ _ (All-take IsBelow i colours is.below) (All-drop IsBelow (suc i) colours is.below))
        (is.below i 0 (omega arith));
    right = λ k d within.
        let n = (get_or rows k d).number in
        let after = first_waiting_after served i n (flush_from 0 0) rise lt (ready (flush_from 0 0) k d within) in
        let up = first_waiting-remove served i n after in
        let most = first_waiting-le served n in
        is.right k d within ∙ ap (λ j. get_or colours j 0) (sym up)
        ∙ sym (moved_up (first_waiting (remove served i) n) (omega arith) (omega arith));
  }

-- a count is 0 exactly where none has the colour
none_counted : (c : ℕ) (rows : List Row) → All (λ r. has_colour c r ≡ false) rows → is_unused rows c ≡ true
none_counted c rows none =
    let each : All (λ (r : Row). cond (has_colour c r) 1 0 ≤ 0) rows = λ k d lt. rw (none k d lt) (omega arith) in
    let nothing = sum_by-le (λ (r : Row). cond (has_colour c r) 1 0) 0 rows each in
    grind (arith, nat_tests)

none_has : (c : ℕ) (rows : List Row) → is_unused rows c ≡ true → (k : ℕ) (d : Row) → k < length rows
    → (get_or rows k d).colour ≢ c
none_has c rows unused k d lt same = grind (arith, get_or-le-sum_by)

module _ (colours : List ℕ) (served : List Served) (rows : List Row) (i : ℕ) (few : length served ≤ 15)
    (lt : i < length served) (rise : IsNonDecreasingBy bound_of served) (is : IsColouring colours served rows) where
  -- where the counts of a flush's colour and of all older ones are 0, it waits for nothing that is open
  pub ready_from_clear : AreUnused rows (take (i + 1) colours) → WaitsForNothing rows served i
  ready_from_clear clear d k e within =
      let n = (get_or rows k e).number in
      let front = length-take-le (i + 1) colours (omega arith) in
      ⊎_elim (λ (waits : n < (get_or served i d).bound).
      let first = first_waiting_at_most served i n d waits in
      let unused = clear (first_waiting served n) 0 (omega arith) in
      absurd (none_has (get_or colours (first_waiting served n) 0) rows
      (rw (get_or-take (i + 1) colours (first_waiting served n) 0 (omega arith)) at unused) k e within
      (is.right k e within))) (λ (after : (get_or served i d).bound ≤ n). after)
      (cases_lt n (get_or served i d).bound)

  -- and the other way round
  pub clear_from_ready : WaitsForNothing rows served i → AreUnused rows (take (i + 1) colours)
  clear_from_ready ready k d within =
      let front = length-take-le (i + 1) colours (omega arith) in
      rw (get_or-take (i + 1) colours k d (omega arith), get_or_default colours k d 0 (omega arith))
      (none_counted (get_or colours k 0) rows (λ j e inside.
      let n = (get_or rows j e).number in
      let after = first_waiting_after served i n (flush_from 0 0) rise lt (ready (flush_from 0 0) j e inside) in
      let most = first_waiting-le served n in
      let differs = is.distinct k (first_waiting served n) 0 (omega arith) (omega arith) in
      let colour = is.right j e inside in
      grind (arith, nat_tests)))
