-- The flush books of all queues, with the open numbers of all items.
use Rattle.std.specs.Prelude.{ℕ, ◌*◌, ◌<◌, ◌≤◌, List, [], All, Contains, length, replicate, slice_index_or, slice_set}
use Rattle.std.specs.List.{sum_by}
use Rattle.cmwq_flush.specs.FlushBook.{FlushBook, CanOpen, IsLatestFlush, flushes_with_open, flushes_without_open}
use Rattle.cmwq_flush.specs.FlushBook.{new_book}
use Rattle.cmwq_flush.specs.ItemNumbers.{numbers_open, numbers_with, numbers_without}

-- room is how many flushes may be in overflow, of all queues together
pub record FlushState : Type 0 where
  pub room : ℕ
  pub books : List FlushBook
  pub opened : List (List ℕ)

abbrev pub new_flush_state : ℕ → ℕ → ℕ → FlushState
new_flush_state queues items callers =
    record { room = 64 * callers; books = replicate queues (new_book items); opened = replicate items [] }

abbrev pub no_book : FlushBook
no_book = new_book 0

abbrev pub book_in : List FlushBook → ℕ → FlushBook
book_in books q = slice_index_or books q no_book

abbrev pub with_book : FlushState → ℕ → FlushBook → FlushState
with_book s q b = record s { books = slice_set s.books q b }

-- a queueing may be opened on a queue with a number that comes after all that were, of whichever queue, where the item
-- has one open at most
pub record CanOpenOn (s : FlushState) (q i n : ℕ) : Type 0 where
  pub queue : q < length s.books
  pub can : CanOpen (book_in s.books q) n
  pub latest : All (λ b. b.next ≤ n) s.books
  pub item : i < length s.opened
  pub one : length (numbers_open s.opened i) < 2

abbrev pub with_open : FlushState → ℕ → ℕ → ℕ → FlushState
with_open s q i n =
    record s {
      books = slice_set s.books q (flushes_with_open (book_in s.books q) n);
      opened =
          numbers_with s.opened i n;
    }

-- it is open, on the queue and of the item
pub record IsOpenOn (s : FlushState) (q i n : ℕ) : Type 0 where
  pub queue : q < length s.books
  pub on : Contains (book_in s.books q).opened n
  pub of : Contains (numbers_open s.opened i) n

abbrev pub without_open : FlushState → ℕ → ℕ → ℕ → FlushState
without_open s q i n =
    record s {
      books = slice_set s.books q (flushes_without_open (book_in s.books q) n);
      opened =
          numbers_without s.opened i n;
    }

-- a flush begins with a later ticket than those of its queue that stand, while there is room in overflow
abbrev pub overflow_count : List FlushBook → ℕ
overflow_count books = sum_by (λ b. length b.overflow) books

pub record CanBegin (s : FlushState) (q t : ℕ) : Type 0 where
  pub latest : IsLatestFlush (book_in s.books q) t
  pub room : overflow_count s.books < s.room
