-- Where every schedule of a script ends, turns have their end if somebody moves again and again.
use Rattle.std.specs.Prelude.{◌≡◌, ◌≤◌, ◌⊎◌, ℕ, true, false, Some}
use Rattle.cmwq_play.specs.Searches.{AllEnd}
use Rattle.cmwq_play.specs.Stands.{Stand, may}
use Rattle.cmwq_progress_laws.specs.Turns.{HasItsEnd, Turns, moves_at, moves_before, stand_at}

-- Whenever a party may move, some party does, then or later.
abbrev pub SomebodyMovesOn : Stand → Turns → Type 0
SomebodyMovesOn start turns = (time party : ℕ) → may (stand_at start turns time) party ≡ true
    → (later : ℕ) × (time ≤ later) × (moves_at start turns later ≡ true)

-- Then they have their end, if every schedule of the script ends: nobody may move at last, and nothing is left to do.
abbrev pub MovingOnEnds : Type 0
MovingOnEnds = (n : ℕ) (start : Stand) (turns : Turns) → AllEnd n start → SomebodyMovesOn start turns
    → HasItsEnd start turns

-- Whenever a party may move, its turn comes, then or later, or it may no longer move.
abbrev pub NobodyIsPassedOver : Stand → Turns → Type 0
NobodyIsPassedOver start turns = (time party : ℕ) → may (stand_at start turns time) party ≡ true
    → (later : ℕ) × (time ≤ later)
    × ((turns later ≡ Some party) ⊎ (may (stand_at start turns later) party ≡ false))

-- Then somebody moves on, so they have their end too.
abbrev pub FairTurnsEnd : Type 0
FairTurnsEnd = (n : ℕ) (start : Stand) (turns : Turns) → AllEnd n start → NobodyIsPassedOver start turns
    → HasItsEnd start turns

-- Turns that have their end move on until then, whatever the script is. So nothing less is enough.
abbrev pub EndedMovedOn : Type 0
EndedMovedOn = (start : Stand) (turns : Turns) → HasItsEnd start turns → SomebodyMovesOn start turns

-- If every schedule ends within so many moves, no more are made before any time, whatever the turns are.
abbrev pub MovesAreFew : Type 0
MovesAreFew = (n : ℕ) (start : Stand) (turns : Turns) (time : ℕ) → AllEnd n start → moves_before start turns time ≤ n
