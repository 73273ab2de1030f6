-- The text of the calls that resume a history.
use Rattle.std.specs.Prelude.{ℕ, Bool, List, map}
use Rattle.cmwq_model.specs.declared.call.Call.{Call}
use Rattle.cmwq_model.specs.declared.entry.Entry.{Entry}
use Rattle.cmwq_model.specs.declared.id.CallerId.{CallerId}
use Rattle.cmwq_model.specs.declared.id.Who.{Who}
use Rattle.cmwq_model.specs.Prelude.{past_of}
use Rattle.cmwq_text.specs.HistoryText.{calls_text}
use Rattle.cmwq_base.specs.Files.{File}
use Rattle.cmwq_resume.specs.Plays.{by_caller}
use Rattle.cmwq_resume.specs.Resume.{resume_calls}

-- all calls are those of the first caller
abbrev pub first_caller : CallerId
first_caller = record { 0 = 0 }

abbrev pub by_first : List Call → List (Who × Call)
by_first calls = map (by_caller first_caller) calls

-- a file of calls in the format of the history
unfoldable pub resumed_text : (ℕ → Bool) → File Entry → List ℕ
resumed_text again f =
    calls_text f.version f.layout (by_first (resume_calls f.layout again (past_of f.items)))
