-- Each entry by which a worker's run sleeps is where one sleep begins, and each by which it wakes is where one ends.
use Rattle.std.specs.Prelude.{◌≡◌, ℕ, ◌==◌, Bool, false, List, length, Some, IfSome}
use Rattle.std.specs.Option.{option_map_or}
use Rattle.cmwq_model.specs.declared.entry.Entry.{Entry}
use Rattle.cmwq_model.specs.declared.id.Who.TheVariants.{Worker}
use Rattle.cmwq_model.specs.declared.reply.Reply.TheVariants as reply
use Rattle.cmwq_model.specs.Prelude.{Layout, past_of}
use Rattle.cmwq_chart.specs.declared.sleeps.Sleep.{Sleep}
use Rattle.cmwq_chart_text.specs.declared.figures.Figure.{Figure}
use Rattle.cmwq_chart_text.specs.declared.figures.Figure.TheVariants as figure
use Rattle.cmwq_chart_text.specs.declared.page.Window.{Window}
use Rattle.cmwq_output_laws.specs.BarLaws.{StandsIn}
use Rattle.cmwq_chart_laws.specs.Causes.{HasEntryBy}
use Rattle.cmwq_chart_laws.specs.Charts.{IsDrawnOnce, OfCharts, chart_page, chart_parts}

abbrev pub is_sleep_from : ℕ → Figure → Bool
is_sleep_from at (figure.Sleep sleep) = sleep.from == at
is_sleep_from at f = false

abbrev pub is_sleep_to : ℕ → Figure → Bool
is_sleep_to at (figure.Sleep sleep) = option_map_or (λ last. last == at) sleep.to false
is_sleep_to at f = false

pub record HasOneSleepFrom (w : Window) (s : Layout) (entries : List Entry) (e : Entry) (before : List Entry)
    : Type 0 where
  pub sleep : Sleep
  pub from : sleep.from ≡ length before
  pub by_worker : e.who ≡ Worker sleep.worker
  pub ends : IfSome sleep.to
      (λ last. HasEntryBy (past_of entries) last (Worker sleep.worker) (λ a. a.reply ≡ reply.Woke))
  pub drawn : IsDrawnOnce (chart_page w entries) (chart_parts w s entries) (is_sleep_from (length before))
      (figure.Sleep sleep)

pub record HasOneSleepTo (w : Window) (s : Layout) (entries : List Entry) (e : Entry) (before : List Entry)
    : Type 0 where
  pub sleep : Sleep
  pub to : sleep.to ≡ Some (length before)
  pub by_worker : e.who ≡ Worker sleep.worker
  pub begins : HasEntryBy (past_of entries) sleep.from (Worker sleep.worker) (λ a. a.reply ≡ reply.Slept)
  pub drawn : IsDrawnOnce (chart_page w entries) (chart_parts w s entries) (is_sleep_to (length before))
      (figure.Sleep sleep)

abbrev pub SleepsAreDrawn : Type 0
SleepsAreDrawn = OfCharts (λ w s entries. (e : Entry) (before : List Entry) → StandsIn (past_of entries) e before
    → e.reply ≡ reply.Slept → HasOneSleepFrom w s entries e before)

abbrev pub WakesAreDrawn : Type 0
WakesAreDrawn = OfCharts (λ w s entries. (e : Entry) (before : List Entry) → StandsIn (past_of entries) e before
    → e.reply ≡ reply.Woke → HasOneSleepTo w s entries e before)
