-- Laws of charts: what `chart` draws of a legal history.
use Rattle.std.specs.Prelude.{◌≡◌, ℕ, ◌==◌, Bool, false, List, [], ◌∷◌, length, filter, Some, IsTrue}
use Rattle.cmwq_model.specs.declared.entry.Entry.{Entry}
use Rattle.cmwq_model.specs.declared.id.Who.TheVariants.{Worker}
use Rattle.cmwq_model.specs.Prelude.{IsLegal, Layout, is_layout, item_at, number_started, past_of}
use Rattle.cmwq_chart.specs.declared.bars.Bar.{Bar}
use Rattle.cmwq_chart.specs.declared.signs.SignKind.{SignKind}
use Rattle.cmwq_chart.specs.Bars.{bars_of}
use Rattle.cmwq_chart.specs.CallerWaits.{callers_of, caller_waits_of, wait_signs_of}
use Rattle.cmwq_chart.specs.Lanes.{lanes_of}
use Rattle.cmwq_chart.specs.Levels.{levels_of}
use Rattle.cmwq_chart.specs.Shapes.{places_in}
use Rattle.cmwq_chart.specs.Signs.{sign_at, sign_kind, signs_of}
use Rattle.cmwq_chart.specs.Sleeps.{sleeps_of}
use Rattle.cmwq_chart_text.specs.declared.figures.Figure.{Figure}
use Rattle.cmwq_chart_text.specs.declared.figures.Figure.TheVariants as figure
use Rattle.cmwq_chart_text.specs.declared.page.Page.{Page}
use Rattle.cmwq_chart_text.specs.declared.page.Window.{Window}
use Rattle.cmwq_chart_text.specs.declared.part.Part.{Part}
use Rattle.cmwq_chart_text.specs.Drawings.{page_drawn}
use Rattle.cmwq_chart_text.specs.Figures.{figure_row, figures_of}
use Rattle.cmwq_chart_text.specs.Pages.{page_of}
use Rattle.cmwq_chart_text.specs.PictureText.{Pictured, frame_of, picture_text, pictured}
use Rattle.cmwq_views.specs.Chart.{chart_text}
use Rattle.cmwq_output_laws.specs.BarLaws.{EndsWell, StandsIn}
use Rattle.cmwq_chart_laws.specs.Drawn.{AreOfRows, drawn_in, parts_of}
use Rattle.cmwq_chart_laws.specs.Standing.{HasEntryIn}

-- ---- the figures of a history, the page of a window, and the parts that are drawn of these
abbrev pub chart_figures : Layout → List Entry → List Figure
chart_figures s entries =
    figures_of (caller_waits_of (past_of entries) (callers_of s entries))
    (wait_signs_of (past_of entries) (callers_of s entries)) (bars_of (past_of entries))
    (sleeps_of (past_of entries) (lanes_of s entries)) (signs_of (past_of entries))
    (levels_of s (past_of entries) (places_in s entries))

abbrev pub chart_page : Window → List Entry → Page
chart_page w entries = page_of w (length entries)

abbrev pub chart_parts : Window → Layout → List Entry → List Part
chart_parts w s entries = parts_of (chart_page w entries) (chart_figures s entries)

-- the text of a chart is that of the picture with these parts
abbrev pub chart_picture : Window → Layout → List Entry → Pictured
chart_picture w s entries =
    pictured (frame_of (chart_page w entries) (chart_figures s entries)) (chart_parts w s entries)
    (page_drawn (chart_page w entries) (chart_figures s entries)).top

abbrev pub ChartsAreOfParts : Type 0
ChartsAreOfParts = (w : Window) (s : Layout) (entries : List Entry)
    → chart_text w s entries ≡ picture_text (chart_picture w s entries) entries

-- ---- laws of each legal history
abbrev pub OfCharts : (Window → Layout → List Entry → Type 0) → Type 0
OfCharts Law = (w : Window) (s : Layout) (entries : List Entry) → IsTrue (is_layout s) → IsLegal s (past_of entries)
    → Law w s entries

-- the laws of pictures hold of its charts
abbrev pub ChartsAreOfRows : Type 0
ChartsAreOfRows = OfCharts (λ w s entries. AreOfRows (chart_figures s entries))

-- in each band that shows one of its entries, a figure is the only one of its row that passes a test, and in each other
-- band none passes
pub record IsDrawnOnce (p : Page) (parts : List Part) (test : Figure → Bool) (f : Figure) : Type 0 where
  pub there : (band : ℕ) → HasEntryIn p f band → filter test (drawn_in band (figure_row f) parts) ≡ f ∷ []
  pub nowhere_else : (band : ℕ) → (HasEntryIn p f band → ⊥)
      → filter test (drawn_in band (figure_row f) parts) ≡ []

-- ---- each start has one bar, in its worker's row, from its entry to the one that finishes it
abbrev pub is_bar_from : ℕ → Figure → Bool
is_bar_from at (figure.Bar bar) = bar.from == at
is_bar_from at f = false

pub record HasOneBarDrawn (w : Window) (s : Layout) (entries : List Entry) (e : Entry) (before : List Entry) (n : ℕ)
    : Type 0 where
  pub bar : Bar
  pub from : bar.from ≡ length before
  pub by_worker : e.who ≡ Worker bar.worker
  pub number : bar.number ≡ n
  pub item : item_at before n ≡ Some bar.item.0
  pub ends : EndsWell (past_of entries) bar bar.to
  pub drawn : IsDrawnOnce (chart_page w entries) (chart_parts w s entries) (is_bar_from (length before))
      (figure.Bar bar)

abbrev pub StartsAreDrawn : Type 0
StartsAreDrawn = OfCharts (λ w s entries. (e : Entry) (before : List Entry) (n : ℕ)
    → StandsIn (past_of entries) e before
    → number_started e.reply ≡ Some n → HasOneBarDrawn w s entries e before n)

-- ---- each entry whose reply has a kind of sign has one, in the row of who made it
abbrev pub is_sign_at : ℕ → Figure → Bool
is_sign_at at (figure.Sign sign) = sign.at == at
is_sign_at at f = false

abbrev pub SignsAreDrawn : Type 0
SignsAreDrawn = OfCharts (λ w s entries. (e : Entry) (before : List Entry) (kind : SignKind)
    → StandsIn (past_of entries) e before → sign_kind e.reply ≡ Some kind
    → IsDrawnOnce (chart_page w entries) (chart_parts w s entries) (is_sign_at (length before))
    (figure.Sign (sign_at e (length before) kind)))
