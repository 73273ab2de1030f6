-- All that is shown of a history.
use Rattle.std.specs.Prelude.{◌≡◌, List}
use Rattle.cmwq_model.specs.declared.entry.Entry.{Entry}
use Rattle.cmwq_model.specs.declared.record.Place.{Place}
use Rattle.cmwq_model.specs.Prelude.{Layout, past_of, queueings}
use Rattle.cmwq_chart.specs.declared.shapes.Shapes.{Shapes}
use Rattle.cmwq_chart.specs.declared.waits.CallerLane.{CallerLane}
use Rattle.cmwq_chart.specs.Bars.{bars_of}
use Rattle.cmwq_chart.specs.CallerWaits.{callers_of, caller_lanes_of, caller_waits_of, wait_signs_of}
use Rattle.cmwq_chart.specs.Lanes.{lanes_of}
use Rattle.cmwq_chart.specs.Levels.{levels_of, places_of}
use Rattle.cmwq_chart.specs.Signs.{signs_of}
use Rattle.cmwq_chart.specs.Sleeps.{sleeps_of}

-- the lanes of its callers, and the places of its queueings
abbrev pub caller_lanes_in : Layout → List Entry → List CallerLane
caller_lanes_in s entries = caller_lanes_of (past_of entries) (callers_of s entries)

abbrev pub places_in : Layout → List Entry → List Place
places_in s entries = places_of s (queueings (past_of entries))

pub record AreShapes (s : Layout) (entries : List Entry) (shapes : Shapes) : Type 0 where
  pub callers : shapes.callers.lanes.items ≡ caller_lanes_in s entries
  pub waits : shapes.callers.waits.items ≡ caller_waits_of (past_of entries) (callers_of s entries)
  pub wait_signs : shapes.callers.signs.items ≡ wait_signs_of (past_of entries) (callers_of s entries)
  pub lanes : shapes.lanes.items ≡ lanes_of s entries
  pub bars : shapes.bars.items ≡ bars_of (past_of entries)
  pub sleeps : shapes.sleeps.items ≡ sleeps_of (past_of entries) (lanes_of s entries)
  pub signs : shapes.signs.items ≡ signs_of (past_of entries)
  pub places : shapes.places.items ≡ places_in s entries
  pub levels : shapes.levels.items ≡ levels_of s (past_of entries) (places_in s entries)
