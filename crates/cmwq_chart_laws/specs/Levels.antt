-- Of each queue on a CPU one level covers each entry that a band shows, and says what is so after it.
use Rattle.std.specs.Prelude.{◌≡◌, ◌⊎◌, ℕ, ◌&&◌, Bool, true, false, List, [], ◌∷◌, length, filter, Contains, nat_le}
use Rattle.std.specs.Option.{option_map_or}
use Rattle.cmwq_model.specs.declared.entry.Entry.{Entry}
use Rattle.cmwq_model.specs.declared.record.Place.{Place}
use Rattle.cmwq_model.specs.Prelude.{Layout, past_of}
use Rattle.cmwq_chart.specs.declared.levels.Level.{Level}
use Rattle.cmwq_chart.specs.Levels.{open_at}
use Rattle.cmwq_chart.specs.Shapes.{places_in}
use Rattle.cmwq_chart_text.specs.declared.figures.Figure.{Figure}
use Rattle.cmwq_chart_text.specs.declared.figures.Figure.TheVariants as figure
use Rattle.cmwq_chart_text.specs.declared.figures.Row.TheVariants as row
use Rattle.cmwq_chart_text.specs.declared.page.Window.{Window}
use Rattle.cmwq_output_laws.specs.BarLaws.{StandsIn}
use Rattle.cmwq_output_laws.specs.LevelLaws.{Covers, IsTrueAfter}
use Rattle.cmwq_chart_laws.specs.Charts.{OfCharts, chart_page, chart_parts}
use Rattle.cmwq_chart_laws.specs.Drawn.{IsShownIn, drawn_in}

abbrev pub is_level_over : ℕ → Figure → Bool
is_level_over at (figure.Level l) = nat_le l.from at && option_map_or (λ last. nat_le at last) l.to true
is_level_over at f = false

-- it is the only one in the row of its place that covers the entry; or the row is left out of the band, and nothing of
-- the place is open after the entry
pub record HasOneLevelDrawn (w : Window) (s : Layout) (entries : List Entry) (p : Place) (band : ℕ) (e : Entry)
    (before : List Entry) : Type 0 where
  pub level : Level
  pub of_place : level.place ≡ p
  pub covers : Covers level (length before)
  pub is_true : IsTrueAfter s (e ∷ before) level
  pub drawn : (filter (is_level_over (length before)) (drawn_in band (row.Place p) (chart_parts w s entries))
      ≡ figure.Level level ∷ [])
      ⊎ ((drawn_in band (row.Place p) (chart_parts w s entries) ≡ []) × (open_at (e ∷ before) p ≡ 0))

abbrev pub LevelsAreDrawn : Type 0
LevelsAreDrawn = OfCharts (λ w s entries. (p : Place) (band : ℕ) (e : Entry) (before : List Entry)
    → Contains (places_in s entries) p → StandsIn (past_of entries) e before
    → IsShownIn (chart_page w entries) band (length before) → HasOneLevelDrawn w s entries p band e before)
