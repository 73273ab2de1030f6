-- Why a search cuts schedules off.
use Rattle.std.specs.Prelude.{◌≡◌, ◌⊎◌, ◌<◌, ◌≤◌, ℕ, true, List, length}
use Rattle.cmwq_explore.specs.declared.progress.Progress.{Progress}
use Rattle.cmwq_explore.specs.declared.search.Limits.{Limits}
use Rattle.cmwq_explore.specs.declared.search.Search.{Search}
use Rattle.cmwq_play.specs.Searches.{IsSchedule}
use Rattle.cmwq_play.specs.Stands.{Stand}

-- as many moves were made as may be, or a schedule that gets stuck was played, and the search ends with the first
abbrev pub IsLimited : Limits → Progress → Type 0
IsLimited limits progress = (limits.moves ≤ progress.moves) ⊎ ((limits.is_first ≡ true) × (0 < progress.stuck))

-- a schedule from here on has more moves than this
abbrev pub HasLonger : ℕ → Stand → Type 0
HasLonger n p = (schedule : List ℕ) × IsSchedule p schedule × (n < length schedule)

-- a schedule from here on may be cut off
abbrev pub MayCut : ℕ → Stand → Search → Type 0
MayCut depth p s = IsLimited s.limits s.progress ⊎ HasLonger depth p

-- as many moves were made as before at least, and as many schedules played that got stuck
pub record HasGoneOn (old new : Progress) : Type 0 where
  pub moves : old.moves ≤ new.moves
  pub stuck : old.stuck ≤ new.stuck

-- the search has gone on, within the same limits
pub record IsLater (old new : Search) : Type 0 where
  pub limits : new.limits ≡ old.limits
  pub progress : HasGoneOn old.progress new.progress

-- the same, and nothing more is known of states
pub record IsSameSearch (old new : Search) : Type 0 where
  pub seen : new.seen ≡ old.seen
  pub merges : new.merges ≡ old.merges
  pub later : IsLater old new
