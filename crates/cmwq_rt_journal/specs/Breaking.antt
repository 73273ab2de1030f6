-- What is written where a journal breaks off.
use Rattle.std.specs.Prelude.{◌<◌, ◌≤◌, ◌++◌}
use Rattle.cmwq_rt_journal.specs.Common.{ℕ, List, Option, length, take, Appends, AppendsFront, Entry, Layout, body_text}

-- a front of the text of these entries, in which the lines of the first n stand whole, if n is not 0
pub record BreaksOff (s : Layout) (entries : List Entry) (n : ℕ) (a b : Option (List ℕ)) : Type 0 where
  pub front : AppendsFront a b (body_text 3 s entries)
  pub within : n ≤ length entries
  pub whole : 0 < n → (more : List ℕ) × Appends a b (body_text 3 s (take n entries) ++ more)
