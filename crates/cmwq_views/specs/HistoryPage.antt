-- What a run of `page` reads, writes and answers.
use Rattle.std.specs.Prelude.{ℕ, List, Result, Option}
use Rattle.cmwq_model.specs.declared.entry.Entry.{Entry}
use Rattle.cmwq_model.specs.declared.verdict.Illegal.{Illegal}
use Rattle.cmwq_model.specs.Prelude.{Layout, past_of}
use Rattle.cmwq_base.specs.declared.refusal.Refusal.{Refusal}
use Rattle.cmwq_base.specs.Files.{File}
use Rattle.cmwq_history.specs.Views.{ViewEnds}
use Rattle.cmwq_chart.specs.Bars.{bars_of}
use Rattle.cmwq_chart.specs.CallerWaits.{callers_of, caller_waits_of}
use Rattle.cmwq_chart.specs.Lanes.{lanes_of}
use Rattle.cmwq_chart.specs.Levels.{levels_of}
use Rattle.cmwq_chart.specs.Shapes.{places_in}
use Rattle.cmwq_chart.specs.Sleeps.{sleeps_of}
use Rattle.cmwq_chart_text.specs.declared.page.Window.{Window}
use Rattle.cmwq_page.specs.PageText.{page_text}

-- the page of a history, which opens at a window
unfoldable pub history_page : Window → Layout → List Entry → List ℕ
history_page w s entries =
    page_text s entries (caller_waits_of (past_of entries) (callers_of s entries)) (bars_of (past_of entries))
    (sleeps_of (past_of entries) (lanes_of s entries)) (levels_of s (past_of entries) (places_in s entries)) w

abbrev pub history_page_of : Window → File Entry → List ℕ
history_page_of w f = history_page w f.layout f.items

abbrev pub HistoryPageEnds : Window → List ℕ → Option (List ℕ) → Option (List ℕ) → Result (Option Illegal) Refusal
    → Type 0
HistoryPageEnds w text old new ended = ViewEnds (history_page_of w) text old new ended
