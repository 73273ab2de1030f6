-- What the texts of lines keep. A line is meant without its line feed where it is read, and with it where it is
-- spelled.
use Rattle.std.specs.Prelude.{◌≡◌, ◌≤◌, ◌∷◌, ◌++◌}
use Rattle.cmwq_text.specs.Common.{ℕ, List, [], length, Some, IsTrue, Who, Call, Entry, Counts, QueueShape, Layout}
use Rattle.cmwq_text.specs.Common.{are_counts, is_queue, is_layout, fits, entry_fits, IsWho, IsCall, IsEntry}
use Rattle.cmwq_text.specs.CallText.{call_text, call_read, may_say}
use Rattle.cmwq_text.specs.EntryText.{entry_text, entry_of}
use Rattle.cmwq_text.specs.EndText.{end_text, end_of}
use Rattle.cmwq_text.specs.ShapeText.{counts_text, counts_read, queue_text, queue_of_calls, queue_of_history}
use Rattle.cmwq_text.specs.Numbers.{greatest_number}

-- the line, with a line feed, is this text
abbrev pub IsLineOf : List ℕ → List ℕ → Type 0
IsLineOf text line = text ≡ line ++ 10 ∷ []

-- what is spelled is read again
abbrev pub CallsReadAgain : Type 0
CallsReadAgain = (who : Who) (call : Call) (line : List ℕ) → IsWho who → (IsCall greatest_number) call
    → IsTrue (may_say who call) → IsLineOf (call_text who call) line → call_read line ≡ Some (who, call)

abbrev pub EntriesReadAgain : Type 0
EntriesReadAgain = (e : Entry) (line : List ℕ) → (IsEntry greatest_number) e → IsTrue (may_say e.who e.call)
    → IsLineOf (entry_text e) line → entry_of line ≡ Some e

abbrev pub CountsReadAgain : Type 0
CountsReadAgain = (n : Counts) (line : List ℕ) → IsTrue (are_counts n.cpus n.workers n.callers n.items n.room)
    → IsLineOf (counts_text n) line → counts_read line ≡ Some n

abbrev pub QueuesReadAgain : Type 0
QueuesReadAgain = (q : QueueShape) (line : List ℕ) → IsTrue (is_queue q) → IsLineOf (queue_text q) line
    → (queue_of_calls line ≡ Some q) × (queue_of_history line ≡ Some q)

-- what is read is spelled so, if its ids are inside some shape
abbrev pub CallsSpelledSo : Type 0
CallsSpelledSo = (s : Layout) (who : Who) (call : Call) (line : List ℕ) → IsTrue (is_layout s)
    → IsTrue (fits s who call) → call_read line ≡ Some (who, call) → IsLineOf (call_text who call) line

abbrev pub EntriesSpelledSo : Type 0
EntriesSpelledSo = (s : Layout) (e : Entry) (line : List ℕ) → IsTrue (is_layout s) → IsTrue (entry_fits s e)
    → entry_of line ≡ Some e → IsLineOf (entry_text e) line

abbrev pub CountsSpelledSo : Type 0
CountsSpelledSo = (n : Counts) (line : List ℕ) → counts_read line ≡ Some n → IsLineOf (counts_text n) line

abbrev pub QueuesSpelledSo : Type 0
QueuesSpelledSo = (q : QueueShape) (line : List ℕ) → queue_of_history line ≡ Some q → IsLineOf (queue_text q) line

-- the last line of a history that is spelled is read again, and what is read is spelled so
abbrev pub EndsReadAgain : Type 0
EndsReadAgain = (n : ℕ) (line : List ℕ) → n ≤ greatest_number → IsLineOf (end_text n) line → end_of line ≡ Some n

abbrev pub EndsSpelledSo : Type 0
EndsSpelledSo = (n : ℕ) (line : List ℕ) → end_of line ≡ Some n → IsLineOf (end_text n) line

-- no text of an entry begins another's
abbrev pub EntriesStandApart : Type 0
EntriesStandApart = (e f : Entry) (rest : List ℕ) → (IsEntry greatest_number) e → (IsEntry greatest_number) f
    → IsTrue (may_say e.who e.call) → IsTrue (may_say f.who f.call) → entry_text f ≡ entry_text e ++ rest
    → (e ≡ f) × (rest ≡ [])

-- no line that is spelled is longer than 120 bytes and its line feed
abbrev pub LinesAreShort : Type 0
LinesAreShort =
    ((who : Who) (call : Call) → IsWho who → (IsCall greatest_number) call → length (call_text who call) ≤ 121)
    × ((e : Entry) → (IsEntry greatest_number) e → length (entry_text e) ≤ 121)
    × ((n : Counts) → IsTrue (are_counts n.cpus n.workers n.callers n.items n.room) → length (counts_text n) ≤ 121)
    × ((q : QueueShape) → IsTrue (is_queue q) → length (queue_text q) ≤ 121)
    × ((n : ℕ) → n ≤ greatest_number → length (end_text n) ≤ 121)
