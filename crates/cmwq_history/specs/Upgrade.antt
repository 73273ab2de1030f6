-- What a run of `upgrade` reads, writes and answers.
use Rattle.std.specs.Prelude.{◌≡◌, ◌≤◌, ℕ, List, Result, Ok, Option}
use Rattle.cmwq_model.specs.declared.entry.Entry.{Entry}
use Rattle.cmwq_model.specs.declared.verdict.Illegal.{Illegal}
use Rattle.cmwq_text.specs.HistoryText.{text_of_format}
use Rattle.cmwq_base.specs.Files.{File}
use Rattle.cmwq_base.specs.Kinds.{history_file_of}
use Rattle.cmwq_base.specs.declared.refusal.Refusal.{Refusal}
use Rattle.cmwq_history.specs.Ends.{written_version}
use Rattle.cmwq_history.specs.Views.{ViewEnds}

-- of a legal history the text of that format with the same shape and entries
abbrev pub upgraded_text : File Entry → List ℕ
upgraded_text f = text_of_format (written_version f.version) f.layout f.items

abbrev pub UpgradeEnds : List ℕ → Option (List ℕ) → Option (List ℕ) → Result (Option Illegal) Refusal → Type 0
UpgradeEnds text old new ended = ViewEnds upgraded_text text old new ended

-- what is of format 2 or 3 already is written as it was read
abbrev pub NewestStay : Type 0
NewestStay = (text : List ℕ) (f : File Entry) → history_file_of text ≡ Ok f → 2 ≤ f.version → upgraded_text f ≡ text
