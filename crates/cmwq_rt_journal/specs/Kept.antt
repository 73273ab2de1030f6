-- What a journal has written that came to its end or broke off.
use Rattle.std.specs.Prelude.{Err, Ok, Result}
use Rattle.cmwq_model.specs.Prelude.{IsLegal, past_of}
use Rattle.cmwq_text.specs.HistoryText.{text_of_format}
use Rattle.cmwq_rt_journal.specs.Common.{ℕ, List, Option, Appends, AppendsFront, Entry, Layout, body_text}
use Rattle.cmwq_rt_journal.specs.declared.fault.JournalFault.{JournalFault}

-- a front of the text of a legal history
abbrev pub WritesFront : Layout → Option (List ℕ) → Option (List ℕ) → Type 0
WritesFront s a b = (history : List Entry) × IsLegal s (past_of history) × AppendsFront a b (text_of_format 3 s history)

-- what a journal that has these entries wrote, to its end or not
abbrev pub HasKept : Layout → List Entry → Option (List ℕ) → Option (List ℕ) → Result (Unit {0}) JournalFault → Type 0
HasKept s seen a b (Ok _) = Appends a b (body_text 3 s seen)
HasKept s seen a b (Err f) = AppendsFront a b (text_of_format 3 s seen)
