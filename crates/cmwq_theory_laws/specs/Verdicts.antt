-- The verdict of a history is one: it is legal, or has one first wrong entry, and never both.
use Rattle.std.specs.Prelude.{◌≡◌}
use Rattle.cmwq_theory_laws.specs.Common.{List, Entry, Illegal, Layout, IsLegal, past_of, IsFirstWrong}

-- a history that has a first wrong entry is not legal
abbrev pub WrongAreIllegal : Type 0
WrongAreIllegal = (s : Layout) (entries : List Entry) (i : Illegal) → IsFirstWrong s entries i
    → IsLegal s (past_of entries) → ⊥

-- there is one first wrong entry at most, and one thing that should stand there
abbrev pub FirstWrongIsOne : Type 0
FirstWrongIsOne = (s : Layout) (entries : List Entry) (i j : Illegal) → IsFirstWrong s entries i
    → IsFirstWrong s entries j → i ≡ j
