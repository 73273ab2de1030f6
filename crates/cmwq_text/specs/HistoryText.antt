-- The whole text of a history with its shape: in format 2 the line `history 2` and in format 3 `history 3`, then the
-- shape line, a line for each queue, a line for each entry from the oldest on, and in format 3 the line `end
-- <entries>`. That of calls with their shape has a line for each call in place of the entries, in format 3 the first
-- line `calls 3` and else none of a format, and no last line.
use Rattle.std.specs.Prelude.{if◌then◌else◌, ◌∷◌, ◌++◌}
use Rattle.cmwq_text.specs.Common.{ℕ, List, [], length, nat_le, flat_map, Who, Call, Entry, Counts, Layout}
use Rattle.cmwq_text.specs.CallText.{call_text}
use Rattle.cmwq_text.specs.EntryText.{entry_text}
use Rattle.cmwq_text.specs.EndText.{end_text}
use Rattle.cmwq_text.specs.Formats.{version_name, calls_name, needs_end}
use Rattle.cmwq_text.specs.ShapeText.{counts_text, queue_text}

abbrev pub counts_in : Layout → Counts
counts_in s = record { cpus = s.cpus; workers = s.workers; callers = s.callers; items = s.items; room = s.room }

abbrev pub shape_text : Layout → List ℕ
shape_text s = counts_text (counts_in s) ++ flat_map queue_text s.queues

abbrev pub entries_text : List Entry → List ℕ
entries_text entries = flat_map entry_text entries

abbrev pub version_text : ℕ → List ℕ
version_text version = if nat_le 2 version then version_name version ++ 10 ∷ [] else []

-- what stands before the entries
abbrev pub head_text : ℕ → Layout → List ℕ
head_text version s = version_text version ++ shape_text s

-- what stands before the last line of its format
abbrev pub body_text : ℕ → Layout → List Entry → List ℕ
body_text version s entries = head_text version s ++ entries_text entries

-- the last line of a history with so many entries, or nothing in a format without one
abbrev pub last_text : ℕ → ℕ → List ℕ
last_text version entries = if needs_end version then end_text entries else []

abbrev pub text_of_format : ℕ → Layout → List Entry → List ℕ
text_of_format version s entries = body_text version s entries ++ last_text version (length entries)

abbrev pub calls_version_text : ℕ → List ℕ
calls_version_text version = if nat_le 3 version then calls_name ++ 10 ∷ [] else []

abbrev pub calls_text : ℕ → Layout → List (Who × Call) → List ℕ
calls_text version s calls = calls_version_text version ++ (shape_text s ++ flat_map (λ x. call_text x.0 x.1) calls)
