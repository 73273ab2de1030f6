-- Which shapes stand in which band, and the list of those of each.
use Rattle.std.specs.Prelude.{◌≡◌, ℕ, ◌+◌, ◌<◌, ◌==◌, Bool, ◌&&◌, ◌||◌, if◌then◌else◌, List, [], ◌∷◌, ◌++◌, filter}
use Rattle.std.specs.Prelude.{length, nat_le, nat_lt, slice_index_or}
use Rattle.std.specs.Global.{Vec}
use Rattle.cmwq_chart_text.specs.declared.figures.Figure.{Figure}
use Rattle.cmwq_chart_text.specs.declared.page.Page.{Page}
use Rattle.cmwq_chart_text.specs.Figures.{figure_from, figure_to, is_flat}
use Rattle.cmwq_chart_text.specs.Pages.{bands}
use Rattle.cmwq_chart_text.specs.Spans.{span_band, span_bands_end}

abbrev pub first_band : Page → Figure → ℕ
first_band p f = span_band p (figure_from f)

abbrev pub bands_behind : Page → Figure → ℕ
bands_behind p f = span_bands_end p (figure_from f) (figure_to f)

-- A level at which nothing is open stands in its first band and its last alone, since between them its row shows
-- nothing.
abbrev pub stands_in : Page → ℕ → Figure → Bool
stands_in p band f =
    nat_lt (first_band p f) (bands_behind p f)
    && (if is_flat f then (band == first_band p f) || (band + 1 == bands_behind p f)
    else nat_le (first_band p f) band && nat_lt band (bands_behind p f))

-- the list of each band, where no band has a shape, and where each has its own of these
abbrev pub AreEmpty : List (Vec Figure) → Type 0
AreEmpty lists = (band : ℕ) (d : Vec Figure) → band < length lists → (slice_index_or lists band d).items ≡ []

abbrev pub AreByBand : Page → List Figure → List (Vec Figure) → Type 0
AreByBand p figures lists = (length lists ≡ bands p)
    × ((band : ℕ) (d : Vec Figure) → band < length lists
    → (slice_index_or lists band d).items ≡ filter (stands_in p band) figures)

-- one more shape, in the lists of the bands that pass a test
abbrev pub IsAdded : (ℕ → Bool) → Figure → List (Vec Figure) → List (Vec Figure) → Type 0
IsAdded test f old new = (length new ≡ length old)
    × ((band : ℕ) (d : Vec Figure) → band < length old → (slice_index_or new band d).items
    ≡ (slice_index_or old band d).items ++ (if test band then f ∷ [] else []))
