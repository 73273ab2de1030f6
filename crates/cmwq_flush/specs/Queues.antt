-- What is kept of each queue, beside the rows of what is open of it and its flushes in overflow.
use Rattle.std.specs.Prelude.{◌≡◌, ◌<◌, ◌≤◌, ◌∷◌, vec_capacity}
use Rattle.cmwq_flush.specs.Common.{ℕ, List, [], length, get_or}
use Rattle.cmwq_flush.specs.declared.flushes.Flushes.{Flushes}
use Rattle.cmwq_flush.specs.declared.openings.Row.{Row}
use Rattle.cmwq_flush.specs.Rows.{IsTally, rows_at}
use Rattle.cmwq_flush.specs.Overflow.{tickets_at}
use Rattle.cmwq_flush.specs.FlushBook.{FlushBook}
use Rattle.cmwq_flush.specs.Colouring.{IsRight, book_of}

abbrev pub book_by : ℕ → List Row → List ℕ → Flushes → FlushBook
book_by items rows overflow f = book_of items f.next rows f.served.items overflow

pub record IsQueueRight (items : ℕ) (rows : List Row) (overflow : List ℕ) (f : Flushes) : Type 0 where
  pub right : IsRight (book_by items rows overflow f) rows f.colours
  pub tally : IsTally rows f.counts
  pub served_room : 15 ≤ vec_capacity f.served

-- the flush books of all queues
abbrev pub books_by : ℕ → List (List Row) → List (List ℕ) → List Flushes → List FlushBook
books_by items rows overflow [] = []
books_by items [] overflow (f ∷ fs) = []
books_by items (rows ∷ others) [] (f ∷ fs) = []
books_by items (rows ∷ others) (overflow ∷ rest) (f ∷ fs) =
    book_by items rows overflow f ∷ books_by items others rest fs

pub record AreQueuesRight (items : ℕ) (rows : List (List Row)) (overflow : List (List ℕ)) (fs : List Flushes) : Type 0
  where
    pub many : length rows ≡ length fs
    pub lists : length overflow ≡ length fs
    pub each : (q : ℕ) (d : Flushes) → q < length fs
        → IsQueueRight items (rows_at rows q) (tickets_at overflow q) (get_or fs q d)

-- what is kept of a queue is what is kept of another, in a table that has room for all served flushes
pub record IsKeptAs (f other : Flushes) : Type 0 where
  pub next : f.next ≡ other.next
  pub counts : f.counts ≡ other.counts
  pub served : f.served.items ≡ other.served.items
  pub colours : f.colours ≡ other.colours
  pub served_room : 15 ≤ vec_capacity f.served

abbrev pub AreKeptAs : List Flushes → List Flushes → Type 0
AreKeptAs fs others = (length fs ≡ length others) × ((q : ℕ) (d e : Flushes) → q < length others
    → IsKeptAs (get_or fs q d) (get_or others q e))

-- no more flushes are served of a queue than may be, and there is room for as many
abbrev pub HaveFewServed : List Flushes → Type 0
HaveFewServed fs = (q : ℕ) (d : Flushes) → q < length fs → length (get_or fs q d).served.items ≤ 15

abbrev pub HaveServedRoom : List Flushes → Type 0
HaveServedRoom fs = (q : ℕ) (d : Flushes) → q < length fs → 15 ≤ vec_capacity (get_or fs q d).served
