-- What is kept of a history while it is read.
use Rattle.std.specs.Prelude.{◌≡◌, Bool, false, List, slice_get}
use Rattle.std.specs.Option.{option_map_or}
use Rattle.cmwq_model.specs.declared.entry.Entry.{Entry}
use Rattle.cmwq_model.specs.declared.record.Place.{Place}
use Rattle.cmwq_model.specs.Prelude.{Layout, past_of, queueings}
use Rattle.cmwq_chart.specs.declared.levels.Level.{Level}
use Rattle.cmwq_chart.specs.Intervals.{AreIntervals}
use Rattle.cmwq_chart.specs.Levels.{all_places, level_number, level_number_of, levels_ended, levels_left, most_places}
use Rattle.cmwq_chart.specs.Marks.{AreMarks}
use Rattle.cmwq_chart_levels.specs.declared.seen.Seen.{Seen}

-- the levels of all places of a layout: those that an entry ended, and those that go on
pub record AreLevels (s : Layout) (past : List Entry) (ended running : List Level) : Type 0 where
  pub ended_are : ended ≡ levels_ended s past (all_places s)
  pub running_are : running ≡ levels_left s past (all_places s)

pub record IsSeen (s : Layout) (past : List Entry) (seen : Seen) : Type 0 where
  pub entries : past_of seen.entries.items ≡ past
  pub intervals : AreIntervals s past seen.intervals
  pub used : AreMarks level_number_of (queueings past) most_places seen.used.items
  pub levels : AreLevels s past seen.ended.items seen.running.items

-- the table marks a place
abbrev pub is_used : List Bool → Place → Bool
is_used used p = option_map_or (λ b. b) (slice_get used (level_number p)) false

abbrev pub place_in : Level → Place
place_in l = l.place

abbrev pub is_level_used : List Bool → Level → Bool
is_level_used used l = is_used used l.place
