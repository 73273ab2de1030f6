-- Each ticket has one wait in the row of its caller, from the entry that gave it to the one that ended it.
use Rattle.std.specs.Prelude.{◌≡◌, ℕ, ◌==◌, Bool, false, ◌&&◌, List, length, true, None, IfSome}
use Rattle.std.specs.List.{list_any}
use Rattle.cmwq_model.specs.declared.call.Call.TheVariants as call
use Rattle.cmwq_model.specs.declared.entry.Entry.{Entry}
use Rattle.cmwq_model.specs.declared.id.CallerId.{CallerId}
use Rattle.cmwq_model.specs.declared.id.Who.TheVariants.{Caller}
use Rattle.cmwq_model.specs.declared.reply.Reply.TheVariants as reply
use Rattle.cmwq_model.specs.Prelude.{Layout, gives_ticket, is_by, is_done, is_end_of, past_of}
use Rattle.cmwq_chart.specs.declared.waits.CallerWait.{CallerWait}
use Rattle.cmwq_chart.specs.declared.waits.WaitSign.{WaitSign}
use Rattle.cmwq_chart.specs.CallerWaits.{is_end_answer}
use Rattle.cmwq_chart_text.specs.declared.figures.Figure.{Figure}
use Rattle.cmwq_chart_text.specs.declared.figures.Figure.TheVariants as figure
use Rattle.cmwq_chart_text.specs.declared.page.Window.{Window}
use Rattle.cmwq_output_laws.specs.BarLaws.{StandsIn}
use Rattle.cmwq_chart_laws.specs.Causes.{HasEntryBy}
use Rattle.cmwq_chart_laws.specs.Charts.{IsDrawnOnce, OfCharts, chart_page, chart_parts}

abbrev pub is_wait_from : ℕ → Figure → Bool
is_wait_from at (figure.Wait wait) = wait.from == at
is_wait_from at f = false

-- an entry by which the caller is answered that the wait for this ticket is done
abbrev pub ends_wait_of : CallerId → ℕ → Entry → Bool
ends_wait_of c n e = is_by (Caller c) e && is_end_of n e.call && is_done e.reply

-- a wait without an end goes on: none of the entries after its first ends it
pub record HasOneWaitDrawn (w : Window) (s : Layout) (entries : List Entry) (e : Entry) (before : List Entry)
    (after : List Entry) : Type 0 where
  pub wait : CallerWait
  pub from : wait.from ≡ length before
  pub by_caller : e.who ≡ Caller wait.caller
  pub ends : IfSome wait.to (λ last. HasEntryBy (past_of entries) last (Caller wait.caller)
      (λ a. (a.call ≡ call.End wait.from) × (a.reply ≡ reply.Done)))
  pub goes_on : wait.to ≡ None → list_any (ends_wait_of wait.caller wait.from) after ≡ false
  pub drawn : IsDrawnOnce (chart_page w entries) (chart_parts w s entries) (is_wait_from (length before))
      (figure.Wait wait)

abbrev pub TicketsAreDrawn : Type 0
TicketsAreDrawn = OfCharts (λ w s entries. (e : Entry) (before : List Entry)
    (stands : StandsIn (past_of entries) e before)
    → gives_ticket e.reply ≡ true → HasOneWaitDrawn w s entries e before stands.after)

-- ---- an entry that asks for the end of a wait has a mark in its caller's row, which says whether it was done
abbrev pub is_wait_sign_at : ℕ → Figure → Bool
is_wait_sign_at at (figure.WaitSign sign) = sign.at == at
is_wait_sign_at at f = false

pub record HasOneEndDrawn (w : Window) (s : Layout) (entries : List Entry) (e : Entry) (before : List Entry)
    : Type 0 where
  pub sign : WaitSign
  pub at : sign.at ≡ length before
  pub by_caller : e.who ≡ Caller sign.caller
  pub is_done : sign.is_done ≡ is_done e.reply
  pub drawn : IsDrawnOnce (chart_page w entries) (chart_parts w s entries) (is_wait_sign_at (length before))
      (figure.WaitSign sign)

abbrev pub EndsAreDrawn : Type 0
EndsAreDrawn = OfCharts (λ w s entries. (e : Entry) (before : List Entry) → StandsIn (past_of entries) e before
    → is_end_answer e.reply ≡ true → HasOneEndDrawn w s entries e before)
