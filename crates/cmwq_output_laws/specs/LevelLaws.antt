-- Laws of levels: each is as the model says after each entry that it covers, and each place has one there.
use Rattle.std.specs.Prelude.{◌≡◌, ℕ, ◌≤◌, List, ◌∷◌, length, Contains, IfSome}
use Rattle.std.specs.List.{AllByRecursion}
use Rattle.cmwq_model.specs.declared.entry.Entry.{Entry}
use Rattle.cmwq_model.specs.declared.record.Place.{Place}
use Rattle.cmwq_model.specs.declared.record.Queueing.{Queueing}
use Rattle.cmwq_model.specs.Prelude.{Layout, queueings, width}
use Rattle.cmwq_theory_steps.specs.Histories.{OfLegal}
use Rattle.cmwq_chart.specs.declared.levels.Level.{Level}
use Rattle.cmwq_chart.specs.Levels.{open_at, active_at, places_of, levels_of}
use Rattle.cmwq_output_laws.specs.BarLaws.{StandsIn}

-- the entry at a place of the history is one of those from the level's first to its last
pub record Covers (l : Level) (at : ℕ) : Type 0 where
  pub begun : l.from ≤ at
  pub not_over : IfSome l.to (λ last. at ≤ last)

-- what the level says of its queue and CPU is so after these entries
pub record IsTrueAfter (s : Layout) (past : List Entry) (l : Level) : Type 0 where
  pub opens : l.height.open_count ≡ open_at past l.place
  pub actives : l.height.active_count ≡ active_at s past l.place
  pub widths : l.height.width ≡ width s past l.place.queue.0

abbrev pub IsTrueWhereItIs : Layout → List Entry → Level → Type 0
IsTrueWhereItIs s past l = (e : Entry) (before : List Entry) → StandsIn past e before → Covers l (length before)
    → IsTrueAfter s (e ∷ before) l

abbrev pub LevelsAreTrue : Type 0
LevelsAreTrue = (s : Layout) (past : List Entry) (places : List Place)
    → AllByRecursion (IsTrueWhereItIs s past) (levels_of s past places)

pub record HasLevelAt (s : Layout) (past : List Entry) (places : List Place) (p : Place) (at : ℕ) : Type 0 where
  pub level : Level
  pub listed : Contains (levels_of s past places) level
  pub of_place : level.place ≡ p
  pub covers : Covers level at

abbrev pub PlacesHaveLevels : Type 0
PlacesHaveLevels = (s : Layout) (past : List Entry) (places : List Place) (p : Place) → Contains places p
    → (e : Entry) (before : List Entry) → StandsIn past e before → HasLevelAt s past places p (length before)

-- two levels of a place that cover the same entry are one
abbrev pub AreOne : Level → Level → Type 0
AreOne l m = (at : ℕ) → l.place ≡ m.place → Covers l at → Covers m at → l ≡ m

abbrev pub LevelsAreAlone : Type 0
LevelsAreAlone = (s : Layout) (past : List Entry) (places : List Place)
    → AllByRecursion (λ l. AllByRecursion (AreOne l) (levels_of s past places)) (levels_of s past places)

-- the places that are shown are those of all queueings
abbrev pub UsedPlacesAreShown : Type 0
UsedPlacesAreShown =
    OfLegal (λ s past. AllByRecursion (λ (x : Queueing). Contains (places_of s (queueings past)) x.place)
    (queueings past))
