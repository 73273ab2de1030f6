-- Each call keeps a flush book right.
use Rattle.cmwq_flush.specs.Common.{◌≡◌, ℕ, ◌+◌, ◌<◌, ◌≤◌, Bool, true, cond, List, [], ◌∷◌, ◌++◌, length, get_or, take}
use Rattle.cmwq_flush.specs.Common.{Some, None, refl, arith, ⊎_elim, All, AllPairs, Contains, map, ◌↔◌, Option, IfSome}
use Rattle.cmwq_flush.specs.Common.{slice_get, remove, range_with_len, cases_lt, get_or-map, get_or_default, length-map}
use Rattle.cmwq_flush.specs.Common.{length-append, All-map, Contains-append_cases, length-remove}
use Rattle.std.proofs.lemmas.List.FromFn.{get_or-range_with_len}
use Rattle.cmwq_flush.specs.declared.served.Served.{Served}
use Rattle.cmwq_flush.specs.declared.openings.Row.{Row}
use Rattle.cmwq_flush.specs.Numbers.{AreRising, is_other_number, without}
use Rattle.cmwq_flush.specs.Rows.{number_of_row, row_numbers, without_row, is_other_row, ComesBefore}
use Rattle.cmwq_flush.specs.Served.{ticket_of_served, tickets_of_served, IsOlderServed, HasTicketAt, LacksTicket}
use Rattle.cmwq_flush.specs.FlushBook.{FlushBook, new_book, flush_from, flush_tickets, served_of, IsReady}
use Rattle.cmwq_flush.specs.FlushBook.{IsLatestFlush, served_with_oldest, without_oldest, serve_oldest}
use Rattle.cmwq_flush.specs.FlushBook.{flushes_without_wait}
use Rattle.cmwq_flush.specs.Colouring.{IsOrderly, IsColouring, IsRight, IsToldByColours, AreUnused}
use Rattle.cmwq_flush.proofs.Search.{find_at_key, find_absent, absent_is_none, remove_at}
use Rattle.cmwq_flush.proofs.Orderly.{orderly_opened, orderly_ended, orderly_overflow, orderly_served, orderly_removed}
use Rattle.cmwq_flush.proofs.Orderly.{orderly_left, rising_served, rising_overflow}
use Rattle.cmwq_flush.proofs.Recolouring.{colouring_opened, colouring_ended, colouring_served, colouring_removed}
use Rattle.cmwq_lemmas.proofs.Lists.{filter_shorter}

split : (t : Bool) (r : Row) (rows : List Row) (ns : List ℕ) → row_numbers rows ≡ ns
    → row_numbers (cond t (r ∷ rows) rows) ≡ cond t (number_of_row r ∷ ns) ns
split t r rows ns e = grind arith

pub numbers_of-without : (n : ℕ) (rows : List Row) → row_numbers (without_row n rows) ≡ without n (row_numbers rows)
numbers_of-without n [] = refl
numbers_of-without n (r ∷ rows) = split (is_other_row n r) r _ _ (numbers_of-without n rows)

pub right_ended : (b : FlushBook) (rows : List Row) (colours : List ℕ) (n : ℕ) (opened : List ℕ)
    → IsRight b rows colours → IsRight (record b { opened = opened }) (without_row n rows) colours
right_ended b rows colours n opened is = record {
  orderly = orderly_ended b rows n opened is.orderly;
  serving = is.serving;
  colouring = colouring_ended colours b.served rows n is.colouring;
}

pub right_opened : (b : FlushBook) (rows : List Row) (colours : List ℕ) (r : Row) (opened : List ℕ) → b.next ≤ r.number
    → r.colour ≡ get_or colours (length b.served) 0 → IsRight b rows colours
    → IsRight (record b { next = r.number + 1; opened = opened }) (rows ++ r ∷ []) colours
right_opened b rows colours r opened later current is = record {
  orderly = orderly_opened b rows r opened later is.orderly;
  serving = is.serving;
  colouring =
      colouring_opened colours b.served rows r (λ k d lt. let bound = is.orderly.bounds k d lt in omega arith) current
      is.colouring;
}

empty_from : (xs : List ℕ) → (0 < length xs → ⊥) → xs ≡ []
empty_from [] none = refl
empty_from (x ∷ xs) none = absurd (none (omega arith))

-- a flush begins and is served, since none is in overflow
pub right_served : (b : FlushBook) (rows : List Row) (colours : List ℕ) (t : ℕ) → length b.served < 15
    → IsLatestFlush b t → IsRight b rows colours
    → IsRight (record b { served = b.served ++ flush_from t b.next ∷ [] }) rows colours
right_served b rows colours t fits later is =
    let none : b.overflow ≡ [] = empty_from b.overflow (λ some. let full = is.serving some in omega arith) in
    let first = orderly_overflow b rows t later is.orderly in
    let last : IsOrderly (record b { overflow = t ∷ [] }) rows = rw none at first in
    let served = orderly_served b rows t [] fits last in
    record {
      orderly = rw none served;
      serving = λ some. absurd (let full = is.serving some in omega arith);
      colouring = colouring_served colours b.served rows (flush_from t b.next) is.orderly.older is.colouring;
    }

-- a flush begins and is in overflow
pub right_overflow : (b : FlushBook) (rows : List Row) (colours : List ℕ) (t : ℕ) → 15 ≤ length b.served
    → IsLatestFlush b t → IsRight b rows colours → IsRight (record b { overflow = b.overflow ++ t ∷ [] }) rows colours
right_overflow b rows colours t full later is = record {
  orderly = orderly_overflow b rows t later is.orderly;
  serving = λ some. let few = is.orderly.few in omega arith;
  colouring = is.colouring;
}

-- a served flush ends, and the oldest of the overflow is served
ends_and_serves : (b : FlushBook) (rows : List Row) (colours : List ℕ) (i : ℕ) (overflow : List ℕ) → i < length b.served
    → IsOrderly (record b { overflow = overflow }) rows → (0 < length overflow → length b.served ≡ 15)
    → IsColouring (remove colours i ++ get_or colours i 0 ∷ []) (remove b.served i) rows
    → IsRight
    (record b { served = served_with_oldest (remove b.served i) overflow b.next; overflow = without_oldest overflow })
    rows (remove colours i ++ get_or colours i 0 ∷ [])
ends_and_serves b rows colours i [] lt orderly serving colouring = record {
  orderly = orderly_removed (record b { overflow = [] }) rows i lt orderly;
  serving = λ some. absurd (omega arith);
  colouring = colouring;
}
ends_and_serves b rows colours i (t ∷ rest) lt orderly serving colouring =
    let shorter = length-remove b.served i lt in
    let full = serving (omega arith) in
    record {
      orderly =
          orderly_served (record b { served = remove b.served i }) rows t rest (omega arith)
          (orderly_removed (record b { overflow = t ∷ rest }) rows i lt orderly);
      serving = λ some. let longer = length-append (remove b.served i) (flush_from t b.next ∷ []) in omega arith;
      colouring = colouring_served _ (remove b.served i) rows (flush_from t b.next) orderly.older colouring;
    }

pub right_end : (b : FlushBook) (rows : List Row) (colours : List ℕ) (i : ℕ) → i < length b.served
    → ((d : Served) → All (λ r. (get_or b.served i d).bound ≤ r.number) rows) → IsRight b rows colours
    → IsRight
    (record b {
      served = served_with_oldest (remove b.served i) b.overflow b.next;
      overflow =
          without_oldest b.overflow;
    }) rows (remove colours i ++ get_or colours i 0 ∷ [])
right_end b rows colours i lt ready is =
    ends_and_serves b rows colours i b.overflow lt is.orderly is.serving
    (colouring_removed colours b.served rows i is.colouring.sixteen is.orderly.few lt is.orderly.bounds_rise ready
    is.colouring)

-- one in overflow ends
pub right_left : (b : FlushBook) (rows : List Row) (colours : List ℕ) (t : ℕ) → IsRight b rows colours
    → IsRight (record b { overflow = without t b.overflow }) rows colours
right_left b rows colours t is = record {
  orderly = orderly_left b rows t is.orderly;
  serving = λ some. is.serving (let shorter = filter_shorter (is_other_number t) b.overflow in omega arith);
  colouring = is.colouring;
}

-- nothing is open and no flush stands
pub right_new : (items : ℕ) → IsRight (new_book items) [] (range_with_len 0 16)
right_new items = record {
  orderly = record {
    older = λ k d lt. absurd (omega arith);
    bounds_rise = λ i j d le lt. absurd (omega arith);
    bounds = λ k d lt. absurd (omega arith);
    tickets_rise = λ i j d before lt. absurd (omega arith);
    few = omega arith;
  };
  serving = λ some. absurd (omega arith);
  colouring = record {
    sixteen = refl;
    distinct = λ i j d before lt same. let at_i = get_or-range_with_len 0 16 i d (omega arith) in let at_j =
        get_or-range_with_len 0 16 j d lt in omega arith;
    below = λ k d lt. let at_k = get_or-range_with_len 0 16 k d lt in omega arith;
    right = λ k d lt. absurd (omega arith);
  };
}

-- what is ready, over numbers and over rows
pub rows_from_numbers : (n : ℕ) (rows : List Row) → All (λ m. n ≤ m) (row_numbers rows) → All (λ r. n ≤ r.number) rows
rows_from_numbers n rows all k d lt = rw (← get_or-map number_of_row rows k d 0 lt) (all k 0 (rw length-map lt))

pub numbers_from_rows : (n : ℕ) (rows : List Row) → All (λ r. n ≤ r.number) rows → All (λ m. n ≤ m) (row_numbers rows)
numbers_from_rows n rows all = All-map (λ m. n ≤ m) number_of_row rows all

pub no_rows : (rows : List Row) → row_numbers rows ≡ [] → rows ≡ []
no_rows [] e = refl
no_rows (r ∷ rows) e = cc

-- the first of the rows has the least number
pub first_is_least : (rows : List Row) (o : Option ℕ) → o ≡ slice_get (row_numbers rows) 0 → AllPairs ComesBefore rows
    → IfSome o (λ n. All (λ m. n ≤ m) (row_numbers rows))
first_is_least [] o e rise = rw e tt
first_is_least (r ∷ rows) o e rise =
    rw e (numbers_from_rows r.number (r ∷ rows)
    (λ k d lt. ⊎_elim (λ (later : 0 < k). let above = rise 0 k d later lt in omega arith)
    (λ (first : k ≤ 0). let here : k ≡ 0 = omega arith in rw here (omega arith)) (cases_lt 0 k)))

pub not_in_overflow : (served : List Served) (overflow : List ℕ) (t : ℕ) → (Contains (tickets_of_served served) t → ⊥)
    → Contains (tickets_of_served served ++ overflow) t → Contains overflow t
not_in_overflow served overflow t absent stands =
    ⊎_elim (λ (found : Contains (tickets_of_served served) t). absurd (absent found))
    (λ (found : Contains overflow t). found) (Contains-append_cases (tickets_of_served served) overflow t stands)

module _ (b : FlushBook) (rows : List Row) (colours : List ℕ) (t : ℕ) (is : IsRight b rows colours) where
  pub served_rise : AllPairs IsOlderServed b.served
  served_rise = rising_served b.served b.overflow is.orderly.tickets_rise

  pub overflow_rises : AreRising b.overflow
  overflow_rises = rising_overflow (map ticket_of_served b.served) b.overflow is.orderly.tickets_rise

  pub served_at : (i : ℕ) → HasTicketAt b.served t i → served_of b t ≡ Some (get_or b.served i (flush_from 0 0))
  served_at i at = find_at_key ticket_of_served b.served t served_rise (flush_from 0 0) i at

  pub not_served : LacksTicket b.served t → served_of b t ≡ None
  not_served absent = find_absent ticket_of_served b.served t absent

  pub in_overflow : LacksTicket b.served t → Contains (flush_tickets b) t → Contains b.overflow t
  in_overflow absent stands =
      not_in_overflow b.served b.overflow t (absent_is_none ticket_of_served b.served t (flush_from 0 0) absent) stands

  -- what a served flush that is ready waited for has ended
  pub ready_rows : (i : ℕ) → b.opened ≡ row_numbers rows → HasTicketAt b.served t i → IsReady b t → (d : Served)
      → All (λ r. (get_or b.served i d).bound ≤ r.number) rows
  ready_rows i opened at ready d =
      let found = rw (served_at i at, opened) at ready in
      rw (get_or_default b.served i d (flush_from 0 0) at.0)
      (rows_from_numbers (get_or b.served i (flush_from 0 0)).bound rows found)

  pub rows_ready : (i : ℕ) → b.opened ≡ row_numbers rows → HasTicketAt b.served t i
      → ((d : Served) → All (λ r. (get_or b.served i d).bound ≤ r.number) rows) → IsReady b t
  rows_ready i opened at ready =
      rw (served_at i at, opened)
      (numbers_from_rows (get_or b.served i (flush_from 0 0)).bound rows (ready (flush_from 0 0)))

  -- it has one place
  one_place : (i j : ℕ) → HasTicketAt b.served t i → HasTicketAt b.served t j → i ≡ j
  one_place i j at_i at_j =
      let d = flush_from 0 0 in let here = at_i.1 d in let there = at_j.1 d in
      ⊎_elim (λ (before : i < j). absurd (let rise = served_rise i j d before at_j.0 in omega arith))
      (λ (after : j ≤ i).
      ⊎_elim (λ (before : j < i). absurd (let rise = served_rise j i d before at_i.0 in omega arith))
      (λ (same : i ≤ j). omega arith) (cases_lt j i)) (cases_lt i j)

  pub told_at : (i : ℕ) (told : Bool) → b.opened ≡ row_numbers rows → HasTicketAt b.served t i
      → (told ≡ true) ↔ AreUnused rows (take (i + 1) colours) → IsToldByColours b t told
  told_at i told opened at clear = record {
    rows = rows;
    colours = colours;
    opened = opened;
    colouring = is.colouring;
    told = λ j at_j. rw (one_place j i at_j at) clear;
  }

  pub told_in_overflow : (told : Bool) → b.opened ≡ row_numbers rows → LacksTicket b.served t → IsToldByColours b t told
  told_in_overflow told opened absent = record {
    rows = rows;
    colours = colours;
    opened = opened;
    colouring = is.colouring;
    told = λ j at_j. absurd (let d = flush_from 0 0 in absent j d at_j.0 (at_j.1 d));
  }

  pub empty_is_ready : b.opened ≡ row_numbers rows → LacksTicket b.served t → (rows ≡ []) ↔ IsReady b t
  empty_is_ready opened absent = (
    λ none. rw (not_served absent, opened, none) refl,
    λ ready. no_rows rows (rw (not_served absent, opened) at ready),
  )

  -- what the end of a flush leaves, by its place
  pub after_end-served : (i : ℕ) → HasTicketAt b.served t i
      → flushes_without_wait b t ≡ serve_oldest b (remove b.served i)
  after_end-served i at = rw (served_at i at, remove_at ticket_of_served b.served t served_rise i at) refl

  pub after_end-overflow : LacksTicket b.served t
      → flushes_without_wait b t ≡ record b { overflow = without t b.overflow }
  after_end-overflow absent = rw (not_served absent) refl
