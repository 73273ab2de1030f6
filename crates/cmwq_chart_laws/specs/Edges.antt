-- Laws of edges: a figure reaches from the column of its first entry to that of its last, as far as these are shown in
-- the band, so that two bars of a worker do not overlap in the picture.
use Rattle.std.specs.Prelude.{◌≡◌, ℕ, ◌+◌, ◌<◌, ◌≤◌, true, Option, Some, None}
use Rattle.std.specs.List.{AllByRecursion}
use Rattle.cmwq_theory_steps.specs.Histories.{OfLegal}
use Rattle.cmwq_chart.specs.declared.bars.Bar.{Bar}
use Rattle.cmwq_chart.specs.Bars.{bars_of}
use Rattle.cmwq_chart_text.specs.declared.figures.Figure.TheVariants as figure
use Rattle.cmwq_chart_text.specs.declared.page.Page.{Page}
use Rattle.cmwq_chart_text.specs.Bands.{stands_in}
use Rattle.cmwq_chart_text.specs.Pages.{band_start, column_at, column_width, end_in, middle_of}
use Rattle.cmwq_chart_text.specs.Spans.{span_left, span_width}
use Rattle.cmwq_chart_laws.specs.Drawn.{IsShownIn}

-- ---- columns: one after the other, each as wide as the others
abbrev pub ColumnsAreApart : Type 0
ColumnsAreApart = (p : Page) (band at : ℕ) → IsShownIn p band at
    → column_at p band (at + 1) ≡ column_at p band at + column_width p

-- where a mark of the entry stands: inside its column
pub record IsInside (p : Page) (band at : ℕ) : Type 0 where
  pub since : column_at p band at ≤ middle_of p at
  pub before : middle_of p at < column_at p band (at + 1)

abbrev pub MarksAreInside : Type 0
MarksAreInside = (p : Page) (band at : ℕ) → IsShownIn p band at → IsInside p band at

-- ---- the left edge of a rectangle in a band, and its right edge
abbrev pub span_right : Page → ℕ → Option ℕ → ℕ → ℕ
span_right p from to band = span_left p from band + span_width p from to band

-- the edges of the columns of a band that show entries
abbrev pub band_left : Page → ℕ → ℕ
band_left p band = column_at p band (band_start p band)

abbrev pub band_right : Page → ℕ → ℕ
band_right p band = column_at p band (end_in p band p.end)

-- it ends after this band, or goes on at the end
abbrev pub GoesOnBehind : Page → ℕ → Option ℕ → Type 0
GoesOnBehind p band None = Unit {0}
GoesOnBehind p band (Some last) = end_in p band p.end ≤ last

-- of what begins at an entry, and ends with another or goes on: it begins with its column and ends with that of the
-- other, where these are shown in the band, and else at the edges of the band
pub record HasEdges (p : Page) (from : ℕ) (to : Option ℕ) (band : ℕ) : Type 0 where
  pub begins : IsShownIn p band from → span_left p from band ≡ column_at p band from
  pub began : from ≤ band_start p band → span_left p from band ≡ band_left p band
  pub ends : (last : ℕ) → to ≡ Some last → from ≤ last → IsShownIn p band last
      → span_right p from to band ≡ column_at p band (last + 1)
  pub goes_on : (at : ℕ) → from ≤ at → IsShownIn p band at → GoesOnBehind p band to
      → span_right p from to band ≡ band_right p band

abbrev pub FiguresHaveEdges : Type 0
FiguresHaveEdges = (p : Page) (from : ℕ) (to : Option ℕ) (band : ℕ) → HasEdges p from to band

-- ---- two bars of a worker that stand in a band: the one that begins first ends before the other, in the picture too
abbrev pub AreBeside : Page → ℕ → Bar → Bar → Type 0
AreBeside p band b c = b.worker ≡ c.worker → b.from < c.from → stands_in p band (figure.Bar b) ≡ true
    → stands_in p band (figure.Bar c) ≡ true → span_right p b.from b.to band ≤ span_left p c.from band

abbrev pub BarsDoNotOverlap : Type 0
BarsDoNotOverlap = OfLegal (λ s past. (p : Page) (band : ℕ)
    → AllByRecursion (λ b. AllByRecursion (AreBeside p band b) (bars_of past)) (bars_of past))
