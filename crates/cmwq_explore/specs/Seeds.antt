-- How the schedules of many seeds end.
use Rattle.std.specs.Prelude.{◌≡◌, ◌+◌, ◌<◌, ◌≤◌, ℕ, Bool, true, false, if◌then◌else◌, List, [], ◌∷◌, length, count_by}
use Rattle.std.specs.Prelude.{nat_le, Option, Some, None, IfSome}
use Rattle.cmwq_play.specs.declared.play.Standing.{Standing}
use Rattle.cmwq_play.specs.declared.play.Standing.TheVariants as standings
use Rattle.cmwq_explore.specs.declared.seeds.StuckSeed.{StuckSeed}
use Rattle.cmwq_explore.specs.declared.seeds.Tally.{Tally}
use Rattle.cmwq_explore.specs.Chances.{chosen_by, played}
use Rattle.cmwq_play.specs.Searches.{Rests}
use Rattle.cmwq_play.specs.Stands.{Stand, IsDone}

-- how a stand stands: nobody may move and nothing is left to do, or something is; or somebody may move
abbrev pub StandsAs : Standing → Stand → Type 0
StandsAs standings.Ended p = Rests p × IsDone p
StandsAs standings.Stuck p = Rests p × (IsDone p → ⊥)
StandsAs standings.Goes p = Rests p → ⊥

-- the schedule of this seed, of so many moves at most, ends so
abbrev pub EndsAs : Stand → ℕ → ℕ → Standing → Type 0
EndsAs start moves seed standing = StandsAs standing (played moves seed start)

abbrev pub has_ended : Standing → Bool
has_ended standings.Ended = true
has_ended s = false

abbrev pub is_stuck : Standing → Bool
is_stuck standings.Stuck = true
is_stuck s = false

abbrev pub goes_on : Standing → Bool
goes_on standings.Goes = true
goes_on s = false

abbrev pub ones : Bool → ℕ
ones is = if is then 1 else 0

abbrev pub shorter_of : Option StuckSeed → StuckSeed → StuckSeed
shorter_of None other = other
shorter_of (Some one) other = if nat_le one.moves other.moves then one else other

-- the schedules of the seeds from this one on end so, the last first
abbrev pub EndInTurn : Stand → ℕ → ℕ → List Standing → Type 0
EndInTurn start moves first [] = Unit {0}
EndInTurn start moves first (end ∷ ends) =
    EndsAs start moves (first + length ends) end × EndInTurn start moves first ends

-- the schedule of this seed gets stuck after so many moves, and those of the others among the first so many that get
-- stuck have as many at least
pub record IsShortest (start : Stand) (moves first count : ℕ) (s : StuckSeed) : Type 0 where
  pub from : first ≤ s.seed
  pub below : s.seed < first + count
  pub stuck : EndsAs start moves s.seed standings.Stuck
  pub long : s.moves ≡ length (chosen_by moves s.seed start)
  pub least : (k : ℕ) → k < count → EndsAs start moves (first + k) standings.Stuck
      → s.moves ≤ length (chosen_by moves (first + k) start)

-- what is told of the schedules of so many seeds
pub record TellsSeeds (start : Stand) (moves first count : ℕ) (t : Tally) : Type 0 where
  pub ends : List Standing
  pub all : length ends ≡ count
  pub each : EndInTurn start moves first ends
  pub ended : t.ended ≡ count_by has_ended ends
  pub stuck : t.stuck ≡ count_by is_stuck ends
  pub cut : t.cut ≡ count_by goes_on ends
  pub shortest : IfSome t.shortest (IsShortest start moves first count)
  pub none : t.shortest ≡ None → (k : ℕ) → k < count → EndsAs start moves (first + k) standings.Stuck → ⊥
