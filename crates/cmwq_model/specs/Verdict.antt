-- The verdict of a history: which is the first entry that isn't the one that its call gets at that point, and what
-- should stand there.
use Rattle.std.specs.Prelude.{◌≡◌, List, ◌∷◌, ◌++◌, length, IsTrue}
use Rattle.std.specs.List.{All}
use Rattle.cmwq_model.specs.declared.entry.Entry.{Entry}
use Rattle.cmwq_model.specs.declared.verdict.Wanted.{Wanted}
use Rattle.cmwq_model.specs.declared.verdict.Wanted.TheVariants as wanted
use Rattle.cmwq_model.specs.declared.verdict.Illegal.{Illegal}
use Rattle.cmwq_model.specs.Layout.{Layout, fits}
use Rattle.cmwq_model.specs.Calls.{serial_of}
use Rattle.cmwq_model.specs.Answer.{answer}
use Rattle.cmwq_model.specs.Legal.{IsLegal, past_of}

-- each entry's who and call fit the shape
abbrev pub AllFit : Layout → List Entry → Type 0
AllFit s entries = All (λ e. IsTrue (fits s e.who e.call)) entries

-- what should stand in an entry after past where something else stands: the serial, or where that is right the reply
abbrev pub Wants : Layout → List Entry → Entry → Wanted → Type 0
Wants s past e (wanted.Serial n) = (n ≡ serial_of past e.who) × (e.serial ≡ n → ⊥)
Wants s past e (wanted.Reply r) = (e.serial ≡ serial_of past e.who) × (r ≡ answer s past e.who e.call)
    × (e.reply ≡ r → ⊥)

-- the entries before it are a legal history, and it isn't the entry that its call gets after them
pub record IsFirstWrong (s : Layout) (entries : List Entry) (i : Illegal) : Type 0 where
  pub before : List Entry
  pub entry : Entry
  pub rest : List Entry
  pub parts : entries ≡ before ++ entry ∷ rest
  pub place : i.at ≡ length before
  pub is_legal : IsLegal s (past_of before)
  pub wants : Wants s (past_of before) entry i.wanted
