-- What is written of a run whose history is written as it is made.
use Rattle.std.specs.Prelude.{◌≡◌}
use Rattle.cmwq_rt_scripts.specs.Common.{ℕ, List, length, Option, Appends, Call, Entry, Layout, text_of_format}
use Rattle.cmwq_rt_scripts.specs.Common.{Behavior, LeftOut}
use Rattle.cmwq_rt_scripts.specs.Ended.{FailsAs, IsLeft}
use Rattle.cmwq_rt_journal.specs.declared.fault.Unwritten.{Unwritten}
use Rattle.cmwq_rt_journal.specs.declared.fault.Unwritten.TheVariants as unwritten

-- the whole text of a history that the scripts leave, of so many entries
abbrev pub WritesAll : Layout → Behavior → List (List Call) → ℕ → ℕ → ℕ → LeftOut → Option (List ℕ) → Option (List ℕ)
    → Type 0
WritesAll s does scripts lent entries full l a b = (history : List Entry) × IsLeft s does scripts lent full l history
    × (entries ≡ length history) × Appends a b (text_of_format 3 s history)

-- what is told of the scripts where the text ends before its last line
abbrev pub TellsOf : Layout → List (List Call) → ℕ → Unwritten → Type 0
TellsOf s scripts lent unwritten.Sink = Unit {0}
TellsOf s scripts lent (unwritten.Run f) = FailsAs s scripts lent f
