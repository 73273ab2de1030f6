-- A script that is played for ever: what its parties do in their turns.
use Rattle.std.specs.Prelude.{◌≤◌, ℕ, zero, suc, Bool, false, if◌then◌else◌, Option, count_by}
use Rattle.std.specs.List.{range_with_len}
use Rattle.std.specs.Option.{option_map_or}
use Rattle.cmwq_play.specs.Searches.{Rests}
use Rattle.cmwq_play.specs.Stands.{Stand, IsDone, may, moved}

-- At each time it is the turn of a party, or of nobody.
abbrev pub Turns : Type 0
Turns = ℕ → Option ℕ

-- A party moves in its turn, if it may. Else nothing happens.
abbrev pub after_turn : Stand → Option ℕ → Stand
after_turn p turn = option_map_or (λ party. if may p party then moved p party else p) turn p

-- where the script stands at a time
unfoldable pub stand_at : Stand → Turns → ℕ → Stand
stand_at start turns zero = start
stand_at start turns (suc time) = after_turn (stand_at start turns time) (turns time)

-- a party moves at this time
abbrev pub moves_at : Stand → Turns → ℕ → Bool
moves_at start turns time = option_map_or (may (stand_at start turns time)) (turns time) false

-- how many moves are made before a time
abbrev pub moves_before : Stand → Turns → ℕ → ℕ
moves_before start turns time = count_by (moves_at start turns) (range_with_len 0 time)

-- From some time on nobody may move, and nothing is left to do.
pub record HasItsEnd (start : Stand) (turns : Turns) : Type 0 where
  pub time : ℕ
  pub rests : (later : ℕ) → time ≤ later → Rests (stand_at start turns later)
  pub is_done : (later : ℕ) → time ≤ later → IsDone (stand_at start turns later)
