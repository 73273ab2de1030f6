-- Entries that were handed out, until they are written as lines.
use Rattle.cmwq_c.specs.Common.{Entry}
use Rattle.std.specs.Prelude.{◌≡◌, ◌⊎◌, ◌<◌, ◌+◌, ℕ, List, [], length, drop, take}
use Rattle.cmwq_text.specs.HistoryText.{entries_text}
use Rattle.cmwq_c.specs.Statuses.{IsTextWritten}

-- The entries that are not written yet, the oldest first, and how many can be taken at once.
pub record Lined : Type 0 where
  pub left : List Entry
  pub holds : ℕ

abbrev pub lined_of : List Entry → ℕ → ℕ → Lined
lined_of entries written holds = record { left = drop written entries; holds = holds }

-- no entries, and space for so many
abbrev pub no_lines : ℕ → Lined
no_lines holds = record { left = []; holds = holds }

-- others are left
abbrev pub with_left : Lined → List Entry → Lined
with_left l left = record l { left = left }

-- So many lines stand at the front of the buffer. They are all that are left, or one more would be too long for it.
pub record AreWritten (left : List Entry) (count written : ℕ) (old new : List ℕ) : Type 0 where
  pub text : IsTextWritten (entries_text (take count left)) written old new
  pub most : (count ≡ length left) ⊎ (length old < length (entries_text (take (count + 1) left)))

-- Those that are written are left no more.
pub record WritesLines (old new : Lined) (written : ℕ) (before after : List ℕ) : Type 0 where
  pub count : ℕ
  pub lines : AreWritten old.left count written before after
  pub rest : new ≡ with_left old (drop count old.left)
