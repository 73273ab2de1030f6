-- The text of a trace: those of its events, one after the other.
use Rattle.std.specs.Prelude.{ℕ, List, flat_map, length}
use Rattle.cmwq_model.specs.Prelude.{Layout}
use Rattle.cmwq_model.specs.declared.entry.Entry.{Entry}
use Rattle.cmwq_model.specs.declared.id.WorkerId.{WorkerId}
use Rattle.cmwq_chart.specs.declared.bars.Bar.{Bar}
use Rattle.cmwq_chart.specs.declared.signs.Sign.{Sign}
use Rattle.cmwq_chart.specs.declared.sleeps.Sleep.{Sleep}
use Rattle.cmwq_chart.specs.declared.levels.Level.{Level}
use Rattle.cmwq_chart.specs.declared.waits.CallerLane.{CallerLane}
use Rattle.cmwq_chart.specs.declared.waits.CallerWait.{CallerWait}
use Rattle.cmwq_trace.specs.declared.event.Event.{Event}
use Rattle.cmwq_trace.specs.Events.{event_text, events_of}

abbrev pub events_text : ℕ → List Event → List ℕ
events_text end events = flat_map (event_text end) events

-- of a history with these entries and shapes
abbrev pub trace_text : Layout → List Entry → List CallerLane → List Sign → List CallerWait → List WorkerId → List Bar
    → List Sleep → List Level → List ℕ
trace_text s entries callers signs waits lanes bars sleeps levels =
    events_text (length entries) (events_of s entries callers lanes signs waits bars sleeps levels)
