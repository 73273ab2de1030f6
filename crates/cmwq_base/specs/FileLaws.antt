-- What the texts of whole files keep.
use Rattle.std.specs.Prelude.{◌≡◌, ◌⊎◌, ◌↔◌, ◌≤◌, ◌++◌}
use Rattle.cmwq_base.specs.Common.{ℕ, true, false, List, length, map, Ok, IsTrue, All, Who, Call, Entry, QueueShape}
use Rattle.cmwq_base.specs.Common.{layout_of, is_layout, IsWho, IsCall, IsEntry, greatest, greatest_number}
use Rattle.cmwq_base.specs.Common.{number_limit, allows_queue, allows_entry, flags_in, queue_with, width_taken}
use Rattle.cmwq_base.specs.Common.{last_text, text_of_format, counts_in, calls_text}
use Rattle.cmwq_base.specs.Files.{File, IsSound, is_long}
use Rattle.cmwq_base.specs.Kinds.{calls_kind, call_file_of, history_kind, history_file_of, front_file_of}
use Rattle.cmwq_base.specs.Pieces.{whole_lines, cut_line}

-- a history and its shape have one text in each format: what is read of it as a history is spelled so
abbrev pub HistoriesHaveOneText : Type 0
HistoriesHaveOneText = (text : List ℕ) (f : File Entry) → history_file_of text ≡ Ok f
    → text ≡ text_of_format f.version f.layout f.items

-- a queue that a file of calls writes so, as it is taken
abbrev pub queue_taken : QueueShape → QueueShape
queue_taken q = queue_with (width_taken q.max_active) (flags_in q)

-- the text of these calls and their shape, where a queue may be written with another max_active that is taken as its
-- own
abbrev pub IsTextOfCalls : File (Who × Call) → List ℕ → Type 0
IsTextOfCalls f text = (queues : List QueueShape) × (map queue_taken queues ≡ f.layout.queues)
    × (text ≡ calls_text f.version (layout_of (counts_in f.layout) queues) f.items)

-- what is read of a file of calls is spelled so, but for max_active
abbrev pub CallFilesSpelledSo : Type 0
CallFilesSpelledSo = (text : List ℕ) (f : File (Who × Call)) → call_file_of text ≡ Ok f → IsTextOfCalls f text

-- a text is a front of this history: it is its whole text, or its whole lines are, once the last line stands after them
-- that they lack, and what follows them isn't too long for a line
abbrev pub IsFrontOf : File Entry → List ℕ → Type 0
IsFrontOf f text =
    (history_file_of text ≡ Ok f)
    ⊎ ((history_file_of (whole_lines text ++ last_text f.version (length f.items)) ≡ Ok f)
    × (is_long (cut_line text) ≡ false))

-- as a front such a text is read as that history, and no other text is read
abbrev pub FrontsAreWholeLines : Type 0
FrontsAreWholeLines = (text : List ℕ) (f : File Entry) → (front_file_of true text ≡ Ok f) ↔ IsFrontOf f text

-- what is read of it has nothing that its format doesn't have
abbrev pub IsOfFormat : File Entry → Type 0
IsOfFormat f = All (λ q. IsTrue (allows_queue f.version q)) f.layout.queues
    × All (λ e. IsTrue (allows_entry f.version e)) f.items

abbrev pub HistoriesAreOfTheirFormat : Type 0
HistoriesAreOfTheirFormat = (text : List ℕ) (f : File Entry) → history_file_of text ≡ Ok f → IsOfFormat f

-- a history that is spelled is read again, if its shape is inside the limits, it has no more room and entries than its
-- format allows, each of them fits the shape and the format, and their numbers are inside the ranges of their types
abbrev pub HistoriesReadAgain : Type 0
HistoriesReadAgain =
    (f : File Entry) → (2 ≤ f.version) → (f.version ≤ 3) → IsOfFormat f → IsTrue (is_layout f.layout)
    → IsSound history_kind f → All (IsEntry greatest_number) f.items
    → history_file_of (text_of_format f.version f.layout f.items) ≡ Ok f

-- the same in format 1, if its queues and entries are such as that format has
abbrev pub OldHistoriesReadAgain : Type 0
OldHistoriesReadAgain = (f : File Entry) → f.version ≡ 1 → IsOfFormat f → IsTrue (is_layout f.layout)
    → IsSound history_kind f → All (IsEntry greatest) f.items → history_file_of (text_of_format 1 f.layout f.items)
    ≡ Ok f

-- the same of a file of calls, of either format
abbrev pub CallFilesReadAgain : Type 0
CallFilesReadAgain =
    (f : File (Who × Call)) → (f.version ≡ 1) ⊎ (f.version ≡ 3) → IsTrue (is_layout f.layout) → IsSound calls_kind f
    → All (λ x. IsWho x.0 × (IsCall (number_limit f.version)) x.1) f.items
    → call_file_of (calls_text f.version f.layout f.items) ≡ Ok f
