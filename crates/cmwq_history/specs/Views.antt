-- What is written of a legal history, and how a run ends that reads a history and writes that.
use Rattle.std.specs.Prelude.{◌≡◌, ℕ, Bool, List, [], Option, None, Some, Result, Ok, Err}
use Rattle.std.specs.Io.KnownBytes.{Appends, Keeps}
use Rattle.cmwq_io.specs.Moves.{AppendsFront}
use Rattle.cmwq_model.specs.declared.entry.Entry.{Entry}
use Rattle.cmwq_model.specs.declared.verdict.Illegal.{Illegal}
use Rattle.cmwq_model.specs.Prelude.{Layout, IsLegal, past_of}
use Rattle.cmwq_base.specs.Files.{File}
use Rattle.cmwq_base.specs.Kinds.{front_file_of, history_file_of}
use Rattle.cmwq_base.specs.declared.refusal.Refusal.{Refusal}
use Rattle.cmwq_base.specs.declared.refusal.Refusal.TheVariants as refusal
use Rattle.cmwq_core.specs.Judged.{Judged}
use Rattle.cmwq_history.specs.Ends.{Word, RunEnds}
use Rattle.cmwq_history.specs.Verdicts.{IsVerdict}

-- of a legal history its text, of another nothing
abbrev pub text_or_none : (File Entry → List ℕ) → File Entry → Option Illegal → List ℕ
text_or_none text_of f None = text_of f
text_or_none text_of f (Some i) = []

-- a view answers the verdict as `check` does, and writes that
abbrev pub view_word : (File Entry → List ℕ) → Word (File Entry) (Option Illegal)
view_word text_of = record { Answers = IsVerdict; text_of = text_or_none text_of }

abbrev pub ViewEnds : (File Entry → List ℕ) → List ℕ → Option (List ℕ) → Option (List ℕ)
    → Result (Option Illegal) Refusal → Type 0
ViewEnds text_of text old new ended = RunEnds (view_word text_of) (history_file_of text) old new ended

-- the same where the text may be the front of a history's
abbrev pub FrontViewEnds : (File Entry → List ℕ) → Bool → List ℕ → Option (List ℕ) → Option (List ℕ)
    → Result (Option Illegal) Refusal → Type 0
FrontViewEnds text_of front text old new ended = RunEnds (view_word text_of) (front_file_of front text) old new ended

-- nothing of what was written is held back
abbrev pub IsFlushed : Result (Option Illegal) Refusal → ℕ → Type 0
IsFlushed ended held = ended ≡ Ok None → held ≡ 0

-- a text was written whole, or a front of it where the sink failed, or nothing of it where memory ran out
abbrev pub WriteEnds : Option (List ℕ) → Option (List ℕ) → List ℕ → Result (Unit {0}) Refusal → Type 0
WriteEnds old new text (Ok u) = Appends old new text
WriteEnds old new text (Err refusal.NoMemory) = Keeps old new
WriteEnds old new text (Err refusal.WriteFault) = AppendsFront old new text
WriteEnds old new text (Err e) = ⊥

-- the file that was read, of what a judge has seen
abbrev pub file_in : ℕ → Judged → File Entry
file_in version j = record { version = version; layout = j.layout; items = j.entries }

-- what a judge has seen is a legal history of the shape, and this is made of it
pub record IsMadeOf {F : Type 0} (is_of : Layout → List Entry → F → Type 0) (s : Layout) (j : Judged) (made : F) : Type
    0 where
  pub layout : s ≡ j.layout
  pub legal : IsLegal j.layout (past_of j.entries)
  pub made_is : is_of j.layout (past_of j.entries) made
