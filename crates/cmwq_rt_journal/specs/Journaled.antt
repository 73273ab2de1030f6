-- What is written of a run whose history is written while it is made.
use Rattle.std.specs.Prelude.{◌≡◌}
use Rattle.cmwq_text.specs.HistoryText.{text_of_format}
use Rattle.cmwq_rt.specs.Running.{Behavior}
use Rattle.cmwq_rt.specs.declared.left_out.LeftOut.{LeftOut}
use Rattle.cmwq_engine.specs.Conduct.{Conduct}
use Rattle.cmwq_engine.specs.declared.crew.Roster.{Roster}
use Rattle.cmwq_engine.specs.Ended.{FailsAs, IsLeft, is_silent}
use Rattle.cmwq_rt_journal.specs.Common.{ℕ, Bool, true, List, length, Option, Appends, Entry, Layout}
use Rattle.cmwq_rt_journal.specs.declared.fault.Unwritten.{Unwritten}
use Rattle.cmwq_rt_journal.specs.declared.fault.Unwritten.TheVariants as unwritten

-- the whole text of a history that the run leaves, of so many entries
abbrev pub WritesLeft : Layout → Behavior → Conduct → Roster → ℕ → ℕ → LeftOut → Option (List ℕ) → Option (List ℕ)
    → Type 0
WritesLeft s does calls r entries full l a b = (history : List Entry) × IsLeft s does calls r full l history
    × (entries ≡ length history) × Appends a b (text_of_format 3 s history)

-- it says nothing of what callers and workers did
abbrev pub is_quiet : Unwritten → Bool
is_quiet unwritten.Sink = true
is_quiet (unwritten.Run f) = is_silent f

-- what is told of the run where the text ends before its last line
abbrev pub TellsOf : Layout → Conduct → Roster → Unwritten → Type 0
TellsOf s calls r unwritten.Sink = Unit {0}
TellsOf s calls r (unwritten.Run f) = FailsAs s calls r f
