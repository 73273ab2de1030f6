-- What holds of a flush book and its colours at every moment.
use Rattle.std.specs.Prelude.{◌≡◌, ◌≢◌, ◌↔◌, ◌+◌, ◌<◌, ◌≤◌}
use Rattle.cmwq_flush.specs.Common.{ℕ, Bool, List, length, take, All, AllPairs, IsTrue, slice_index, HoldsAt}
use Rattle.cmwq_flush.specs.Common.{IsNonDecreasingBy}
use Rattle.cmwq_flush.specs.declared.served.Served.{Served}
use Rattle.cmwq_flush.specs.declared.openings.Row.{Row}
use Rattle.cmwq_flush.specs.Numbers.{AreRising}
use Rattle.cmwq_flush.specs.Rows.{row_numbers, is_unused}
use Rattle.cmwq_flush.specs.Served.{bound_of, first_waiting, HasTicketAt}
use Rattle.cmwq_flush.specs.FlushBook.{FlushBook, flush_tickets}

abbrev pub DiffersInColour : ℕ → ℕ → Type 0
DiffersInColour c d = c ≢ d

-- The i-th of the served flushes has the i-th colour, and the next one is the current one. An open queueing has the
-- colour of the first flush that was served after it was opened, or the current one.
abbrev pub right_colour : List ℕ → List Served → ℕ → ℕ
right_colour colours served n = slice_index colours (first_waiting served n)

abbrev pub HasRightColour : List ℕ → List Served → Row → Type 0
HasRightColour colours served r = r.colour ≡ right_colour colours served r.number

pub record IsColouring (colours : List ℕ) (served : List Served) (rows : List Row) : Type 0 where
  pub sixteen : length colours ≡ 16
  pub distinct : AllPairs DiffersInColour colours
  pub below : All (λ c. c < 16) colours
  pub right : All (HasRightColour colours served) rows

-- the counts of these colours are 0
abbrev pub AreUnused : List Row → List ℕ → Type 0
AreUnused rows colours = All (λ c. IsTrue (is_unused rows c)) colours

-- nothing is open that the flush at this place waits for
abbrev pub WaitsForNothing : List Row → List Served → ℕ → Type 0
WaitsForNothing rows served i = HoldsAt (λ s. All (λ r. s.bound ≤ r.number) rows) served i

-- By a colouring of the book: a served flush is told ready exactly where the counts of its colour and of all older ones
-- are 0. The i-th of the flushes has the i-th colour, so these are the colours up to its place.
pub record IsToldByColours (b : FlushBook) (t : ℕ) (ready : Bool) : Type 0 where
  pub rows : List Row
  pub colours : List ℕ
  pub opened : b.opened ≡ row_numbers rows
  pub colouring : IsColouring colours b.served rows
  pub told : (i : ℕ) → HasTicketAt b.served t i → IsTrue ready ↔ AreUnused rows (take (i + 1) colours)

-- numbers and bounds below what comes next, bounds and tickets by age, and no more served than there may be
pub record IsOrderly (b : FlushBook) (rows : List Row) : Type 0 where
  pub older : All (λ r. r.number < b.next) rows
  pub bounds_rise : IsNonDecreasingBy bound_of b.served
  pub bounds : All (λ s. s.bound ≤ b.next) b.served
  pub tickets_rise : AreRising (flush_tickets b)
  pub few : length b.served ≤ 15

-- where some are in overflow, as many are served as may be
abbrev pub IsServing : FlushBook → Type 0
IsServing b = 0 < length b.overflow → length b.served ≡ 15

pub record IsRight (b : FlushBook) (rows : List Row) (colours : List ℕ) : Type 0 where
  pub orderly : IsOrderly b rows
  pub serving : IsServing b
  pub colouring : IsColouring colours b.served rows

abbrev pub book_of : ℕ → ℕ → List Row → List Served → List ℕ → FlushBook
book_of items next rows served overflow =
    record { items = items; next = next; opened = row_numbers rows; served = served; overflow = overflow }
