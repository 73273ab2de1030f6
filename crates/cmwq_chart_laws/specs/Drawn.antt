-- Laws of pictures: what stands in each band of a page, in each of its rows.
use Rattle.std.specs.Prelude.{◌≡◌, ℕ, ◌+◌, ◌<◌, ◌≤◌, ◌==◌, Bool, true, false, ◌&&◌, if◌then◌else◌, List, [], ◌∷◌, ◌++◌}
use Rattle.std.specs.Prelude.{map, filter, filter_map, flat_map, count_by, Contains, nat_le, nat_lt, option_to_list}
use Rattle.std.specs.Prelude.{Option, Some, None, IfSome}
use Rattle.std.specs.Option.{option_map_or}
use Rattle.std.specs.List.{AllByRecursion}
use Rattle.cmwq_chart_text.specs.declared.figures.Figure.{Figure}
use Rattle.cmwq_chart_text.specs.declared.figures.Figure.TheVariants as figure
use Rattle.cmwq_chart_text.specs.declared.figures.Row.{Row}
use Rattle.cmwq_chart_text.specs.declared.figures.Row.TheVariants as row
use Rattle.cmwq_chart_text.specs.declared.page.Page.{Page}
use Rattle.cmwq_chart_text.specs.declared.part.Part.{Part}
use Rattle.cmwq_chart_text.specs.declared.part.What.{What}
use Rattle.cmwq_chart_text.specs.declared.part.What.TheVariants as what
use Rattle.cmwq_chart_text.specs.Bands.{stands_in}
use Rattle.cmwq_chart_text.specs.Drawings.{page_drawn, part_at, shows, waits_in}
use Rattle.cmwq_chart_text.specs.Figures.{figure_row, is_flat, row_height, row_number, who_row}
use Rattle.cmwq_chart_text.specs.Notes.{has_caption, has_label, has_number, note_of}
use Rattle.cmwq_chart_text.specs.Pages.{band_of}

-- ---- rows: the numbers of a row's caller, worker or place are in the ranges of their types
abbrev pub IsRow : Row → Type 0
IsRow (row.Caller c) = c.0 < 256
IsRow (row.Worker w) = (w.pool.cpu.0 < 256) × (w.index < 256)
IsRow (row.Place p) = (p.queue.0 < 256) × (p.cpu.0 < 256)

-- each figure has such a row
abbrev pub AreOfRows : List Figure → Type 0
AreOfRows figures = AllByRecursion (λ f. IsRow (figure_row f)) figures

abbrev pub is_row : Row → Row → Bool
is_row r q = row_number q == row_number r

-- no two rows have the same number
abbrev pub RowsAreToldApart : Type 0
RowsAreToldApart = (r q : Row) → IsRow r → IsRow q → row_number r ≡ row_number q → r ≡ q

-- ---- what stands in a band in a row

-- the row of what a part shows: a number of an entry has none
abbrev pub row_of : What → Option Row
row_of (what.Row r) = Some r
row_of (what.Number n height) = None
row_of (what.Figure f) = Some (figure_row f)
row_of (what.Caption bar) = Some (row.Worker bar.worker)
row_of (what.Label sign) = Some (who_row sign.who)

abbrev pub is_there : ℕ → Row → Part → Bool
is_there band r x = (x.band == band) && option_map_or (is_row r) (row_of x.what) false

abbrev pub shown : Part → What
shown x = x.what

-- what parts show in a band in a row, in their order, and which figures
abbrev pub shown_in : ℕ → Row → List Part → List What
shown_in band r parts = map shown (filter (is_there band r) parts)

abbrev pub figure_shown : What → Option Figure
figure_shown (what.Figure f) = Some f
figure_shown w = None

abbrev pub drawn_in : ℕ → Row → List Part → List Figure
drawn_in band r parts = filter_map figure_shown (shown_in band r parts)

-- the parts of a picture
abbrev pub parts_of : Page → List Figure → List Part
parts_of p figures = (page_drawn p figures).parts

-- the figures of a list that stand in a band, in a row
abbrev pub is_of_row : Row → Figure → Bool
is_of_row r f = is_row r (figure_row f)

abbrev pub standing_in : Page → List Figure → ℕ → Row → List Figure
standing_in p figures band r = filter (is_of_row r) (filter (stands_in p band) figures)

-- if one of them shows something, the row has its name, each of them, and the item of each that has room for it
abbrev pub item_of_figure : Page → ℕ → Figure → List What
item_of_figure p band f = option_to_list (note_of p band f)

abbrev pub row_shown_of : Page → ℕ → Row → List Figure → List What
row_shown_of p band r own =
    if shows own then what.Row r ∷ map what.Figure own ++ flat_map (item_of_figure p band) own else []

abbrev pub OfEachRow : (Page → List Figure → ℕ → Row → Type 0) → Type 0
OfEachRow Law = (p : Page) (figures : List Figure) (band : ℕ) (r : Row) → AreOfRows figures → IsRow r
    → Law p figures band r

abbrev pub RowsAreDrawn : Type 0
RowsAreDrawn = OfEachRow (λ p figures band r. shown_in band r (parts_of p figures)
    ≡ row_shown_of p band r (standing_in p figures band r))

-- so the figures that are drawn there are those that stand there: none is missing, none is twice
abbrev pub FiguresAreDrawn : Type 0
FiguresAreDrawn = OfEachRow (λ p figures band r. drawn_in band r (parts_of p figures)
    ≡ (if shows (standing_in p figures band r) then standing_in p figures band r else []))

-- ---- nothing else is drawn

-- an entry that the page shows, in this band
pub record IsShownIn (p : Page) (band at : ℕ) : Type 0 where
  pub begun : p.first ≤ at
  pub not_over : at < p.end
  pub in_band : band_of p at ≡ band

-- a figure of the list that stands in the band
pub record Stands (p : Page) (figures : List Figure) (band : ℕ) (f : Figure) : Type 0 where
  pub listed : Contains figures f
  pub in_band : stands_in p band f ≡ true

abbrev pub IsMeant : Page → List Figure → ℕ → What → Type 0
IsMeant p figures band (what.Row r) =
    (f : Figure) × Stands p figures band f × (is_flat f ≡ false) × (figure_row f ≡ r)
IsMeant p figures band (what.Number n height) = IsShownIn p band n × (has_number p n ≡ true)
IsMeant p figures band (what.Figure f) = Stands p figures band f
IsMeant p figures band (what.Caption bar) =
    Stands p figures band (figure.Bar bar) × (has_caption p band bar ≡ true)
IsMeant p figures band (what.Label sign) = Stands p figures band (figure.Sign sign) × (has_label p sign ≡ true)

abbrev pub NothingElseIsDrawn : Type 0
NothingElseIsDrawn = (p : Page) (figures : List Figure) → AreOfRows figures
    → AllByRecursion (λ x. IsMeant p figures x.band x.what) (parts_of p figures)

-- ---- read in their order, what belongs to a row stands below its name: the last name up to it is that of its row, in
-- the same band and at the same height
abbrev pub is_name : What → Bool
is_name (what.Row r) = true
is_name w = false

abbrev pub last_name : Option Part → Part → Option Part
last_name name x = if is_name x.what then Some x else name

abbrev pub IsBelow : Option Part → Part → Type 0
IsBelow name x = IfSome (row_of x.what) (λ r. name ≡ Some (part_at x.band x.top (what.Row r)))

unfoldable pub AreBelow : Option Part → List Part → Type 0
AreBelow name [] = Unit {0}
AreBelow name (x ∷ parts) = IsBelow (last_name name x) x × AreBelow (last_name name x) parts

abbrev pub FiguresAreBelowNames : Type 0
FiguresAreBelowNames = (p : Page) (figures : List Figure) → AreOfRows figures → AreBelow None (parts_of p figures)

-- ---- each entry that is shown and has a number has it once, in its band
abbrev pub is_number : ℕ → What → Bool
is_number at (what.Number n height) = n == at
is_number at w = false

abbrev pub is_number_in : ℕ → ℕ → Part → Bool
is_number_in band at x = (x.band == band) && is_number at x.what

abbrev pub is_shown_in : Page → ℕ → ℕ → Bool
is_shown_in p band at = nat_le p.first at && nat_lt at p.end && (band_of p at == band)

abbrev pub NumbersAreDrawn : Type 0
NumbersAreDrawn = (p : Page) (figures : List Figure) (band at : ℕ)
    → count_by (is_number_in band at) (parts_of p figures)
    ≡ (if is_shown_in p band at && has_number p at then 1 else 0)

-- ---- rows do not overlap: read in their order, each name stands below the rows before it. Where a row ends, up to a
-- part, if the rows before that end at an edge
abbrev pub edge_behind : Page → List Figure → ℕ → ℕ → ℕ → What → ℕ
edge_behind p figures edge band top (what.Row r) = top + row_height r (waits_in (standing_in p figures band r))
edge_behind p figures edge band top w = edge

abbrev pub edge_after : Page → List Figure → ℕ → Part → ℕ
edge_after p figures edge x = edge_behind p figures edge x.band x.top x.what

unfoldable pub AreStacked : Page → List Figure → ℕ → List Part → Type 0
AreStacked p figures edge [] = Unit {0}
AreStacked p figures edge (x ∷ parts) =
    (is_name x.what ≡ true → edge ≤ x.top) × AreStacked p figures (edge_after p figures edge x) parts

-- heights are kept below 2 ^ 32: this is of each picture that is not as high
abbrev pub RowsAreStacked : Type 0
RowsAreStacked = (p : Page) (figures : List Figure) → AreOfRows figures → (page_drawn p figures).top < 4294967295
    → AreStacked p figures 0 (parts_of p figures)
