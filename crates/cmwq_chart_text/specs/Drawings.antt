-- What is drawn of a page: its bands, one below the other, and in each the rows that show something there, each with
-- the shapes that stand in it.
use Rattle.std.specs.Prelude.{ℕ, ◌+◌, ◌-◌, ◌==◌, Bool, not, if◌then◌else◌, List, [], ◌∷◌, ◌++◌, filter, flat_map}
use Rattle.std.specs.Prelude.{map, max, min, Option, Some, None, option_map, option_to_list, slice_get}
use Rattle.std.specs.List.{fold, list_any, range_with_len}
use Rattle.cmwq_chart_text.specs.declared.figures.Figure.{Figure}
use Rattle.cmwq_chart_text.specs.declared.figures.Row.{Row}
use Rattle.cmwq_chart_text.specs.declared.page.Page.{Page}
use Rattle.cmwq_chart_text.specs.declared.part.Part.{Part}
use Rattle.cmwq_chart_text.specs.declared.part.What.{What}
use Rattle.cmwq_chart_text.specs.declared.part.What.TheVariants as what
use Rattle.cmwq_chart_text.specs.Bands.{stands_in}
use Rattle.cmwq_chart_text.specs.Figures.{figure_number, figure_row, is_flat, most_rows, row_height, wait_rows}
use Rattle.cmwq_chart_text.specs.Notes.{has_number, note_of}
use Rattle.cmwq_chart_text.specs.Pages.{band_start, bands, end_in}

-- what is drawn, and the upper edge of what will stand below it, which is at this height at most
pub record Drawing : Type 0 where
  pub parts : List Part
  pub top : ℕ

abbrev pub below : ℕ → ℕ → ℕ
below top n = min (top + n) 4294967295

abbrev pub part_at : ℕ → ℕ → What → Part
part_at band top w = record { what = w; band = band; top = top }

-- ---- which shapes stand in the row with a number
abbrev pub is_in_row : ℕ → Figure → Bool
is_in_row n f = figure_number f == n

-- ---- a row of its own shapes, if one of them shows something: its name, the shapes, and over these their items
abbrev pub shows : List Figure → Bool
shows own = list_any (λ f. not (is_flat f)) own

abbrev pub row_shown : List Figure → Option Row
row_shown own = if shows own then option_map figure_row (slice_get own 0) else None

abbrev pub waits_in : List Figure → ℕ
waits_in own = fold (λ most f. max most (wait_rows f)) 0 own

abbrev pub figure_part : ℕ → ℕ → Figure → Part
figure_part band top f = part_at band top (what.Figure f)

abbrev pub note_parts : Page → ℕ → ℕ → Figure → List Part
note_parts p band top f = option_to_list (option_map (part_at band top) (note_of p band f))

abbrev pub row_drawn : Page → ℕ → List Figure → Drawing → Option Row → Drawing
row_drawn p band own d None = d
row_drawn p band own d (Some r) = record {
  parts = d.parts ++ part_at band d.top (what.Row r) ∷ [] ++ map (figure_part band d.top) own
      ++ flat_map (note_parts p band d.top) own;
  top = below d.top (row_height r (waits_in own));
}

abbrev pub with_row : Page → ℕ → List Figure → Drawing → Drawing
with_row p band own d = row_drawn p band own d (row_shown own)

-- ---- all rows of shapes, below the others
abbrev pub with_row_of : Page → ℕ → List Figure → Drawing → ℕ → Drawing
with_row_of p band figures d n = with_row p band (filter (is_in_row n) figures) d

unfoldable pub with_rows : Page → ℕ → List Figure → Drawing → Drawing
with_rows p band figures d = fold (with_row_of p band figures) d (range_with_len 0 most_rows)

-- ---- a band of its own shapes, below the others: the numbers of its entries, and its rows
abbrev pub number_of : Page → ℕ → ℕ → Option What
number_of p height place = if has_number p place then Some (what.Number place height) else None

abbrev pub number_parts : Page → ℕ → ℕ → ℕ → ℕ → List Part
number_parts p band top height place = option_to_list (option_map (part_at band top) (number_of p height place))

abbrev pub numbers_of : Page → ℕ → ℕ → ℕ → List Part
numbers_of p band top height = flat_map (number_parts p band top height)
    (range_with_len (band_start p band) (end_in p band p.end - band_start p band))

abbrev pub band_drawn : Page → ℕ → Drawing → Drawing → Drawing
band_drawn p band d rows = record {
  parts = d.parts ++ numbers_of p band d.top (rows.top - below d.top 22) ++ rows.parts;
  top = below rows.top 18;
}

abbrev pub with_band : Page → List Figure → Drawing → ℕ → Drawing
with_band p own d band =
    band_drawn p band d (with_rows p band own (record { parts = []; top = below d.top 22 }))

-- ---- all bands of a page, below the head
abbrev pub with_band_of : Page → List Figure → Drawing → ℕ → Drawing
with_band_of p figures d band = with_band p (filter (stands_in p band) figures) d band

unfoldable pub page_drawn : Page → List Figure → Drawing
page_drawn p figures = fold (with_band_of p figures) (record { parts = []; top = 74 }) (range_with_len 0 (bands p))
