-- At which places an entry may change the height.
use Rattle.std.specs.Prelude.{◌≡◌, ◌<◌, ◌≤◌, ℕ, Bool, true, false, ◌||◌, ◌&&◌, ◌==◌, not, List}
use Rattle.std.specs.List.Sorted.{IsNonDecreasingBy}
use Rattle.cmwq_model.specs.declared.entry.Entry.{Entry}
use Rattle.cmwq_model.specs.declared.record.Place.{Place}
use Rattle.cmwq_model.specs.declared.reply.Reply.{Reply}
use Rattle.cmwq_model.specs.declared.reply.Reply.TheVariants as reply
use Rattle.cmwq_model.specs.Prelude.{most_cpus, sets_max}
use Rattle.cmwq_model.specs.Widths.{keeps_widths}
use Rattle.cmwq_chart.specs.declared.levels.Level.{Level}
use Rattle.cmwq_chart.specs.Levels.{level_number}
use Rattle.cmwq_chart_levels.specs.declared.affected.AffectedPlaces.{AffectedPlaces}
use Rattle.cmwq_chart_levels.specs.declared.affected.AffectedPlaces.TheVariants.{Nowhere, Within, Everywhere}
use Rattle.cmwq_chart_levels.specs.declared.affected.PlaceRange.{PlaceRange}
use Rattle.cmwq_state.specs.declared.effect.Effect.{Effect}
use Rattle.cmwq_chart_levels.specs.Turns.{is_one_of_place}

-- ---- it gives the place's queue another width, or opens or ends something there
abbrev pub is_width : Reply → Bool
is_width (reply.Width n) = true
is_width r = false

abbrev pub keeps_width : Entry → ℕ → Bool
keeps_width e q = keeps_widths e.reply || (is_width e.reply && not (sets_max e.call q))

abbrev pub moves_at : Effect → Place → Bool
moves_at f p = is_one_of_place p f.opened || is_one_of_place p f.ended

abbrev pub affects : Effect → Place → Bool
affects f p = not (keeps_width f.entry p.queue.0) || moves_at f p

-- ---- as ranges of the places' numbers
abbrev pub has_level_number : ℕ → ℕ → Place → Bool
has_level_number n m p = (level_number p == n) || (level_number p == m)

-- no place outside two ranges is affected
pub record AreRanges (affected : Place → Bool) (first second : PlaceRange) : Type 0 where
  pub before : (p : Place) → p.cpu.0 < most_cpus → level_number p < first.from → affected p ≡ false
  pub between : (p : Place) → p.cpu.0 < most_cpus → first.end ≤ level_number p → level_number p < second.from
      → affected p ≡ false
  pub behind : (p : Place) → p.cpu.0 < most_cpus → second.end ≤ level_number p → affected p ≡ false

abbrev pub AreAffected : (Place → Bool) → AffectedPlaces → Type 0
AreAffected affected Nowhere = (p : Place) → p.cpu.0 < most_cpus → affected p ≡ false
AreAffected affected (Within first second) = AreRanges affected first second
AreAffected affected Everywhere = Unit {0}

-- ---- levels by the numbers of their places
abbrev pub AreLevelsInOrder : List Level → Type 0
AreLevelsInOrder = IsNonDecreasingBy (λ l. level_number l.place)

-- where its place is outside a range, an entry doesn't affect it
pub record IsOnlyWithin (affected : Place → Bool) (range : PlaceRange) (l : Level) : Type 0 where
  pub before : level_number l.place < range.from → affected l.place ≡ false
  pub behind : range.end ≤ level_number l.place → affected l.place ≡ false
