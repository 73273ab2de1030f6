-- The verdict that cmwq_check writes.
use Rattle.cmwq_c.specs.Common.{Entry, Illegal, history_file_of, IsVerdict, verdict_line_text}
use Rattle.std.specs.Prelude.{◌≡◌, ℕ, List, length, Ok, Option}
use Rattle.cmwq_base.specs.Files.{File}

-- The text is a history of any format, this is the verdict on it, and the line says so.
abbrev pub Judges : List ℕ → Option Illegal → List ℕ → Type 0
Judges text verdict line = (f : File Entry) × (history_file_of text ≡ Ok f) × IsVerdict f verdict
    × (line ≡ verdict_line_text (length f.items) verdict)
