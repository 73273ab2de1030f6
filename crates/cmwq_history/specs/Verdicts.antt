-- Verdicts on histories: what callers see of one that is judged while it is read, and the line that tells it.
use Rattle.std.specs.Prelude.{ℕ, List, Option, None, Some, Result, Ok, Err}
use Rattle.cmwq_model.specs.declared.entry.Entry.{Entry}
use Rattle.cmwq_model.specs.declared.verdict.Illegal.{Illegal}
use Rattle.cmwq_model.specs.Prelude.{Layout, IsLegal, IsFirstWrong, past_of}
use Rattle.cmwq_text.specs.VerdictText.{legal_text, illegal_text}
use Rattle.cmwq_base.specs.Files.{File}
use Rattle.cmwq_base.specs.declared.refusal.Refusal.{Refusal}
use Rattle.cmwq_history.specs.Ends.{refusal_status}

-- its shape, and all entries that came, with the oldest first
pub record Seen : Type 0 where
  pub layout : Layout
  pub entries : List Entry

-- the entries are legal, or this is the first that is wrong
abbrev pub IsVerdictOf : Layout → List Entry → Option Illegal → Type 0
IsVerdictOf s entries None = IsLegal s (past_of entries)
IsVerdictOf s entries (Some i) = IsFirstWrong s entries i

abbrev pub IsVerdict : File Entry → Option Illegal → Type 0
IsVerdict f verdict = IsVerdictOf f.layout f.items verdict

-- the line of a verdict on a history with n entries
abbrev pub verdict_line_text : ℕ → Option Illegal → List ℕ
verdict_line_text n None = legal_text n
verdict_line_text n (Some i) = illegal_text i

-- the exit status: 0 legal, 3 illegal
abbrev pub check_status : Result (Option Illegal) Refusal → ℕ
check_status (Ok None) = 0
check_status (Ok (Some i)) = 3
check_status (Err e) = refusal_status e
