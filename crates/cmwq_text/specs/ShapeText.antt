-- Shapes in a text: `shape <cpus> <workers> <callers> <items> <room>`, and `wq <max_active> <flags>` for each queue.
use Rattle.std.specs.Prelude.{◌&&◌, ◌==◌, if◌then◌else◌, ◌∷◌, ◌++◌}
use Rattle.cmwq_text.specs.Common.{ℕ, Bool, true, false, List, [], find, Option, Some, None, codes, decimal, min}
use Rattle.cmwq_text.specs.Common.{nat_eq, starts_with, bytes_eq, Counts, QueueShape, are_counts, is_between}
use Rattle.cmwq_text.specs.declared.shape.Flags.{Flags}
use Rattle.cmwq_text.specs.declared.shape.QueueLine.{QueueLine}
use Rattle.cmwq_text.specs.Words.{◌>>=◌, words_of, line_text, has_no_word, after, word_read, byte_count_in}
use Rattle.cmwq_text.specs.Words.{short_count_in, number_in, wide_in}

abbrev pub counts_words : Counts → List (List ℕ)
counts_words n = codes "shape" ∷ decimal n.cpus ∷ decimal n.workers ∷ decimal n.callers ∷ decimal n.items
    ∷ decimal n.room ∷ []

unfoldable pub counts_text : Counts → List ℕ
counts_text n = line_text (counts_words n)

-- the counts of a shape line, inside their limits, by all its words
abbrev pub counts_of_words : List (List ℕ) → Option Counts
counts_of_words words = do
  numbers ← after (codes "shape") words
  cpus ← byte_count_in numbers
  workers ← byte_count_in cpus.1
  callers ← byte_count_in workers.1
  items ← short_count_in callers.1
  room ← wide_in items.1
  if has_no_word room.1 && are_counts cpus.0 workers.0 callers.0 items.0 room.0
      then Some (record { cpus = cpus.0; workers = workers.0; callers = callers.0; items = items.0; room = room.0 })
      else None

-- by the line
unfoldable pub counts_read : List ℕ → Option Counts
counts_read line = counts_of_words (words_of line)

-- whether a line is to be one of a queue
abbrev pub begins_queue : List ℕ → Bool
begins_queue line = starts_with nat_eq line (codes "wq ")

-- `h` for high priority, `i` for CPU intensive and `f` for freezable, in this order, or `-` for none of them
abbrev pub flags : Bool → Bool → Bool → Flags
flags high intensive freezable = record { high = high; intensive = intensive; freezable = freezable }

abbrev pub flags_in : QueueShape → Flags
flags_in q = flags q.high q.intensive q.freezable

abbrev pub letter : Bool → List ℕ → List ℕ
letter stands text = if stands then text else []

abbrev pub or_dash : List ℕ → List ℕ
or_dash [] = codes "-"
or_dash (first ∷ letters) = first ∷ letters

abbrev pub flags_text : Flags → List ℕ
flags_text f = or_dash (letter f.high (codes "h") ++ letter f.intensive (codes "i") ++ letter f.freezable (codes "f"))

abbrev pub all_flags : List Flags
all_flags =
    flags false false false ∷ flags true false false ∷ flags false true false ∷ flags true true false
    ∷ flags false false true ∷ flags true false true ∷ flags false true true ∷ flags true true true ∷ []

abbrev pub flags_of : List ℕ → Option Flags
flags_of word = find (λ f. bytes_eq word (flags_text f)) all_flags

abbrev pub queue_words : QueueShape → List (List ℕ)
queue_words q = codes "wq" ∷ decimal q.max_active ∷ flags_text (flags_in q) ∷ []

unfoldable pub queue_text : QueueShape → List ℕ
queue_text q = line_text (queue_words q)

-- what a queue's line says, by all its words
abbrev pub queue_line_of_words : List (List ℕ) → Option QueueLine
queue_line_of_words words = do
  numbers ← after (codes "wq") words
  width ← number_in numbers
  f ← word_read flags_of width.1
  if has_no_word f.1 then Some (record { max_active = width.0; flags = f.0 }) else None

-- by the line
unfoldable pub queue_line_of : List ℕ → Option QueueLine
queue_line_of line = queue_line_of_words (words_of line)

abbrev pub queue_with : ℕ → Flags → QueueShape
queue_with max_active f =
    record { max_active = max_active; high = f.high; intensive = f.intensive; freezable = f.freezable }

-- In a file of calls 0 is taken as 256, and more than 512 as 512.
abbrev pub width_taken : ℕ → ℕ
width_taken n = if n == 0 then 256 else min n 512

unfoldable pub queue_of_calls : List ℕ → Option QueueShape
queue_of_calls line = do
  q ← queue_line_of line
  Some (queue_with (width_taken q.max_active) q.flags)

-- In a history it is 1 to 512.
unfoldable pub queue_of_history : List ℕ → Option QueueShape
queue_of_history line = do
  q ← queue_line_of line
  if is_between 1 512 q.max_active then Some (queue_with q.max_active q.flags) else None
