-- What a run of `trace` reads, writes and answers.
use Rattle.std.specs.Prelude.{ℕ, List, Result, Option}
use Rattle.cmwq_model.specs.declared.entry.Entry.{Entry}
use Rattle.cmwq_model.specs.declared.verdict.Illegal.{Illegal}
use Rattle.cmwq_model.specs.Prelude.{Layout, past_of}
use Rattle.cmwq_base.specs.declared.refusal.Refusal.{Refusal}
use Rattle.cmwq_base.specs.Files.{File}
use Rattle.cmwq_history.specs.Views.{ViewEnds}
use Rattle.cmwq_chart.specs.Bars.{bars_of}
use Rattle.cmwq_chart.specs.CallerWaits.{callers_of, caller_waits_of}
use Rattle.cmwq_chart.specs.Lanes.{lanes_of}
use Rattle.cmwq_chart.specs.Levels.{levels_of}
use Rattle.cmwq_chart.specs.Shapes.{caller_lanes_in, places_in}
use Rattle.cmwq_chart.specs.Signs.{signs_of}
use Rattle.cmwq_chart.specs.Sleeps.{sleeps_of}
use Rattle.cmwq_trace.specs.TraceText.{trace_text}

-- the trace of a history
unfoldable pub trace_bytes : Layout → List Entry → List ℕ
trace_bytes s entries =
    trace_text s entries (caller_lanes_in s entries) (signs_of (past_of entries))
    (caller_waits_of (past_of entries) (callers_of s entries)) (lanes_of s entries) (bars_of (past_of entries))
    (sleeps_of (past_of entries) (lanes_of s entries)) (levels_of s (past_of entries) (places_in s entries))

abbrev pub traced_text : File Entry → List ℕ
traced_text f = trace_bytes f.layout f.items

abbrev pub TraceEnds : List ℕ → Option (List ℕ) → Option (List ℕ) → Result (Option Illegal) Refusal → Type 0
TraceEnds text old new ended = ViewEnds traced_text text old new ended
