-- What a run of `chart` reads, writes and answers.
use Rattle.std.specs.Prelude.{◌≡◌, ℕ, ◌-◌, ◌&&◌, Bool, true, false, min, nat_lt, not, List, [], length, Result, Ok, Err}
use Rattle.std.specs.Prelude.{Option, None, Some}
use Rattle.cmwq_model.specs.declared.entry.Entry.{Entry}
use Rattle.cmwq_model.specs.Prelude.{Layout, past_of}
use Rattle.cmwq_base.specs.declared.refusal.Refusal.{Refusal}
use Rattle.cmwq_base.specs.Files.{File}
use Rattle.cmwq_base.specs.Kinds.{history_file_of}
use Rattle.cmwq_history.specs.Ends.{Word, RunEnds, refusal_status}
use Rattle.cmwq_history.specs.Verdicts.{IsVerdict}
use Rattle.cmwq_chart.specs.Bars.{bars_of}
use Rattle.cmwq_chart.specs.CallerWaits.{callers_of, caller_waits_of, wait_signs_of}
use Rattle.cmwq_chart.specs.Lanes.{lanes_of}
use Rattle.cmwq_chart.specs.Levels.{levels_of}
use Rattle.cmwq_chart.specs.Shapes.{places_in}
use Rattle.cmwq_chart.specs.Signs.{signs_of}
use Rattle.cmwq_chart.specs.Sleeps.{sleeps_of}
use Rattle.cmwq_chart_text.specs.declared.page.Window.{Window}
use Rattle.cmwq_chart_text.specs.Figures.{figures_of}
use Rattle.cmwq_chart_text.specs.PictureText.{picture_of, picture_text}
use Rattle.cmwq_views.specs.declared.chart.Charted.{Charted}
use Rattle.cmwq_views.specs.declared.chart.Charted.TheVariants as charted

-- the picture of what a window shows of a history
unfoldable pub chart_text : Window → Layout → List Entry → List ℕ
chart_text w s entries =
    picture_text
    (picture_of w (length entries)
    (figures_of (caller_waits_of (past_of entries) (callers_of s entries))
    (wait_signs_of (past_of entries) (callers_of s entries)) (bars_of (past_of entries))
    (sleeps_of (past_of entries) (lanes_of s entries)) (signs_of (past_of entries))
    (levels_of s (past_of entries) (places_in s entries)))) entries

abbrev pub charted_text : Window → File Entry → List ℕ
charted_text w f = chart_text w f.layout f.items

-- ---- a history is not drawn where its window shows too many entries

-- how many a window shows of n entries
abbrev pub entries_in : Window → ℕ → ℕ
entries_in w n = min w.to n - min w.from n

-- more than 20,000 are drawn only if all are to be
abbrev pub has_too_many : Window → Bool → ℕ → Bool
has_too_many w all n = not all && nat_lt 20000 (entries_in w n)

-- A legal history is drawn, unless its window shows too many entries. An illegal one has its first wrong entry.
abbrev pub IsCharted : Window → Bool → File Entry → Charted → Type 0
IsCharted w all f charted.Drawn = IsVerdict f None × (has_too_many w all (length f.items) ≡ false)
IsCharted w all f (charted.TooMany n) =
    IsVerdict f None × (has_too_many w all (length f.items) ≡ true) × (n ≡ entries_in w (length f.items))
IsCharted w all f (charted.Illegal i) = IsVerdict f (Some i)

-- the picture, where there is one, and else nothing
abbrev pub text_if_drawn : Window → File Entry → Charted → List ℕ
text_if_drawn w f charted.Drawn = charted_text w f
text_if_drawn w f c = []

abbrev pub chart_word : Window → Bool → Word (File Entry) Charted
chart_word w all = record { Answers = IsCharted w all; text_of = text_if_drawn w }

abbrev pub ChartEnds : Window → Bool → List ℕ → Option (List ℕ) → Option (List ℕ) → Result Charted Refusal → Type 0
ChartEnds w all text old new ended = RunEnds (chart_word w all) (history_file_of text) old new ended

-- nothing of a picture that was written is held back
abbrev pub IsChartFlushed : Result Charted Refusal → ℕ → Type 0
IsChartFlushed ended held = ended ≡ Ok charted.Drawn → held ≡ 0

-- the exit status: 0 drawn, 1 too many entries, 3 illegal
abbrev pub chart_status : Result Charted Refusal → ℕ
chart_status (Ok charted.Drawn) = 0
chart_status (Ok (charted.TooMany n)) = 1
chart_status (Ok (charted.Illegal i)) = 3
chart_status (Err e) = refusal_status e
