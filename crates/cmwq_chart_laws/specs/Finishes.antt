-- Each entry that finishes a queueing is where one bar ends.
use Rattle.std.specs.Prelude.{◌≡◌, ℕ, ◌==◌, Bool, false, List, length, Some}
use Rattle.std.specs.Option.{option_map_or}
use Rattle.cmwq_model.specs.declared.entry.Entry.{Entry}
use Rattle.cmwq_model.specs.declared.id.Who.TheVariants.{Worker}
use Rattle.cmwq_model.specs.Prelude.{Layout, number_finished, past_of}
use Rattle.cmwq_chart.specs.declared.bars.Bar.{Bar}
use Rattle.cmwq_chart_text.specs.declared.figures.Figure.{Figure}
use Rattle.cmwq_chart_text.specs.declared.figures.Figure.TheVariants as figure
use Rattle.cmwq_chart_text.specs.declared.page.Window.{Window}
use Rattle.cmwq_output_laws.specs.BarLaws.{StandsIn}
use Rattle.cmwq_chart_laws.specs.Charts.{IsDrawnOnce, OfCharts, chart_page, chart_parts}

abbrev pub is_bar_to : ℕ → Figure → Bool
is_bar_to at (figure.Bar bar) = option_map_or (λ last. last == at) bar.to false
is_bar_to at f = false

pub record HasOneBarTo (w : Window) (s : Layout) (entries : List Entry) (e : Entry) (before : List Entry) (n : ℕ)
    : Type 0 where
  pub bar : Bar
  pub to : bar.to ≡ Some (length before)
  pub by_worker : e.who ≡ Worker bar.worker
  pub number : bar.number ≡ n
  pub drawn : IsDrawnOnce (chart_page w entries) (chart_parts w s entries) (is_bar_to (length before)) (figure.Bar bar)

abbrev pub FinishesAreDrawn : Type 0
FinishesAreDrawn = OfCharts (λ w s entries. (e : Entry) (before : List Entry) (n : ℕ)
    → StandsIn (past_of entries) e before → number_finished e.reply ≡ Some n → HasOneBarTo w s entries e before n)
