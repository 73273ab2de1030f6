-- Each figure of a chart is of an entry of its history: nothing is invented.
use Rattle.std.specs.Prelude.{◌≡◌, ℕ, List, length, true, Some, IfSome}
use Rattle.std.specs.List.{AllByRecursion}
use Rattle.cmwq_model.specs.declared.call.Call.TheVariants as call
use Rattle.cmwq_model.specs.declared.entry.Entry.{Entry}
use Rattle.cmwq_model.specs.declared.id.Who.{Who}
use Rattle.cmwq_model.specs.declared.id.Who.TheVariants.{Caller, Worker}
use Rattle.cmwq_model.specs.declared.reply.Reply.TheVariants as reply
use Rattle.cmwq_model.specs.Prelude.{Layout, gives_ticket, is_done, item_of, number_finished, number_started, past_of}
use Rattle.cmwq_chart.specs.CallerWaits.{is_end_answer}
use Rattle.cmwq_chart.specs.Signs.{sign_kind}
use Rattle.cmwq_chart_text.specs.declared.figures.Figure.{Figure}
use Rattle.cmwq_chart_text.specs.declared.figures.Figure.TheVariants as figure
use Rattle.cmwq_chart_text.specs.declared.part.What.{What}
use Rattle.cmwq_chart_text.specs.declared.part.What.TheVariants as what
use Rattle.cmwq_output_laws.specs.BarLaws.{StandsIn}
use Rattle.cmwq_output_laws.specs.LevelLaws.{IsTrueWhereItIs}
use Rattle.cmwq_chart_laws.specs.Charts.{OfCharts, chart_parts}

-- the entry at this place was made by this who, and is so
pub record HasEntryBy (past : List Entry) (at : ℕ) (who : Who) (IsSo : Entry → Type 0) : Type 0 where
  pub entry : Entry
  pub before : List Entry
  pub stands : StandsIn past entry before
  pub place : length before ≡ at
  pub by_who : entry.who ≡ who
  pub is_so : IsSo entry

-- a bar reaches from a start to a finish of its queueing, by its worker
abbrev pub IsFigureOf : Layout → List Entry → Figure → Type 0
IsFigureOf s past (figure.Bar bar) =
    HasEntryBy past bar.from (Worker bar.worker) (λ e. number_started e.reply ≡ Some bar.number)
    × IfSome bar.to (λ last. HasEntryBy past last (Worker bar.worker) (λ e. number_finished e.reply ≡ Some bar.number))
-- a sleep from where its worker sleeps to where it wakes
IsFigureOf s past (figure.Sleep sleep) =
    HasEntryBy past sleep.from (Worker sleep.worker) (λ e. e.reply ≡ reply.Slept)
    × IfSome sleep.to (λ last. HasEntryBy past last (Worker sleep.worker) (λ e. e.reply ≡ reply.Woke))
-- a wait from where its caller got a ticket to where it was answered that the wait for this is done
IsFigureOf s past (figure.Wait wait) =
    HasEntryBy past wait.from (Caller wait.caller) (λ e. gives_ticket e.reply ≡ true)
    × IfSome wait.to (λ last. HasEntryBy past last (Caller wait.caller)
    (λ e. (e.call ≡ call.End wait.from) × (e.reply ≡ reply.Done)))
-- a mark in a wait is where its caller asked for the end, and says whether that was done
IsFigureOf s past (figure.WaitSign sign) =
    HasEntryBy past sign.at (Caller sign.caller) (λ e. (t : ℕ) × (e.call ≡ call.End t)
    × (is_end_answer e.reply ≡ true) × (sign.is_done ≡ is_done e.reply))
-- another mark is where its caller or worker did something of its kind, with its item
IsFigureOf s past (figure.Sign sign) =
    HasEntryBy past sign.at sign.who (λ e. (sign_kind e.reply ≡ Some sign.kind) × (sign.item ≡ item_of e))
-- a level says what is open and active, and how wide the queue is, after each entry that it covers
IsFigureOf s past (figure.Level level) = IsTrueWhereItIs s past level

abbrev pub IsCharted : Layout → List Entry → What → Type 0
IsCharted s past (what.Figure f) = IsFigureOf s past f
IsCharted s past w = Unit {0}

abbrev pub NothingElseIsCharted : Type 0
NothingElseIsCharted = OfCharts (λ w s entries. AllByRecursion (λ x. IsCharted s (past_of entries) x.what)
    (chart_parts w s entries))
