-- What a run of `check` reads, writes and answers.
use Rattle.std.specs.Prelude.{ℕ, Bool, List, length, Result, Option}
use Rattle.cmwq_model.specs.declared.entry.Entry.{Entry}
use Rattle.cmwq_model.specs.declared.verdict.Illegal.{Illegal}
use Rattle.cmwq_base.specs.Files.{File}
use Rattle.cmwq_base.specs.Kinds.{history_file_of, front_file_of}
use Rattle.cmwq_base.specs.declared.refusal.Refusal.{Refusal}
use Rattle.cmwq_history.specs.Ends.{Word, RunEnds}
use Rattle.cmwq_history.specs.Verdicts.{IsVerdict, verdict_line_text}

-- `check` answers the verdict, and writes it
abbrev pub check_word : Word (File Entry) (Option Illegal)
check_word = record { Answers = IsVerdict; text_of = λ f verdict. verdict_line_text (length f.items) verdict }

abbrev pub CheckEnds : List ℕ → Option (List ℕ) → Option (List ℕ) → Result (Option Illegal) Refusal → Type 0
CheckEnds text old new ended = RunEnds check_word (history_file_of text) old new ended

-- the same where the text may be the front of a history's
abbrev pub FrontEnds : Bool → List ℕ → Option (List ℕ) → Option (List ℕ) → Result (Option Illegal) Refusal → Type 0
FrontEnds front text old new ended = RunEnds check_word (front_file_of front text) old new ended
