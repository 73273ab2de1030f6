-- What a search of all schedules finds out.
use Rattle.std.specs.Prelude.{◌≡◌, ℕ, zero, suc, true, false, List, [], ◌∷◌, ◌<◌, ◌≤◌, length, slice_index, take}
use Rattle.cmwq_play.specs.Stands.{Stand, IsDone, may, moved}

-- the stand after the moves of these
abbrev pub after : Stand → List ℕ → Stand
after p [] = p
after p (party ∷ more) = after (moved p party) more

-- a schedule: each may move when it is its turn
abbrev pub IsSchedule : Stand → List ℕ → Type 0
IsSchedule p [] = Unit {0}
IsSchedule p (party ∷ more) = (may p party ≡ true) × IsSchedule (moved p party) more

-- this schedule leads to a stand
abbrev pub IsPathTo : Stand → List ℕ → Stand → Type 0
IsPathTo start path p = IsSchedule start path × (p ≡ after start path)

-- a stand to which a schedule leads
abbrev pub IsReached : Stand → Stand → Type 0
IsReached start p = (schedule : List ℕ) × IsPathTo start schedule p

-- the parties before this place may move, each in its turn, and lead to a stand in which the one of this place may not
pub record BreaksOff (start : Stand) (path : List ℕ) (p : Stand) (place : ℕ) : Type 0 where
  pub within : place < length path
  pub goes : IsPathTo start (take place path) p
  pub stays : may p (slice_index path place) ≡ false

-- nobody may move
abbrev pub Rests : Stand → Type 0
Rests p = (k : ℕ) → may p k ≡ false

-- it isn't stuck: where nobody may move, nothing is left to do
abbrev pub IsFine : Stand → Type 0
IsFine p = Rests p → IsDone p

-- every schedule from here on ends, within so many moves, and none gets stuck
unfoldable pub AllEnd : ℕ → Stand → Type 0
AllEnd zero p = IsFine p × Rests p
AllEnd (suc n) p = IsFine p × ((k : ℕ) → may p k ≡ true → AllEnd n (moved p k))

-- and so after a move of the first so many of these
abbrev pub AllEndAfter : ℕ → Stand → List ℕ → ℕ → Type 0
AllEndAfter n p movers count = (j : ℕ) → j < count → AllEnd n (moved p (slice_index movers j))

-- this schedule gets stuck: nobody may move after it, and something is left to do
pub record GetsStuck (start : Stand) (schedule : List ℕ) : Type 0 where
  pub goes : IsSchedule start schedule
  pub rests : Rests (after start schedule)
  pub not_done : IsDone (after start schedule) → ⊥

-- no schedule of fewer moves than this gets stuck
unfoldable pub NoneStuck : ℕ → Stand → Type 0
NoneStuck zero p = Unit {0}
NoneStuck (suc n) p = IsFine p × ((k : ℕ) → may p k ≡ true → NoneStuck n (moved p k))

-- none after a move of the first so many of these
abbrev pub NoneStuckAfter : ℕ → Stand → List ℕ → ℕ → Type 0
NoneStuckAfter n p movers count = (j : ℕ) → j < count → NoneStuck n (moved p (slice_index movers j))

-- where every schedule ends, none gets stuck
abbrev pub AllEndOrOneIsStuck : Type 0
AllEndOrOneIsStuck = (n : ℕ) (p : Stand) (schedule : List ℕ) → AllEnd n p → GetsStuck p schedule → ⊥

-- and where none of fewer moves gets stuck, one that does has so many at least
abbrev pub StuckAreLong : Type 0
StuckAreLong = (n : ℕ) (p : Stand) (schedule : List ℕ) → NoneStuck n p → GetsStuck p schedule → n ≤ length schedule
