-- What is made by steps that say who sleeps, is made of the core.
use Rattle.std.specs.Prelude.{◌≡◌, ℕ, Bool, true, false, Option, Some, None, List, if◌then◌else◌}
use Rattle.std.proofs.Common.{ap, ◌∙◌, subst, sym}
use Rattle.std.specs.Option.{unwrap_or}
use Rattle.cmwq_core.specs.History.{History, next_entry, past_in}
use Rattle.cmwq_dispatch.specs.Dispatched.{Dispatched, past_now}
use Rattle.cmwq_dispatch.specs.declared.wakes.Wakes.{Wakes}
use Rattle.cmwq_model.specs.Prelude.{is_drain, number_finished, runs_asleep}
use Rattle.cmwq_model.specs.declared.call.Call.{Call}
use Rattle.cmwq_model.specs.declared.call.Call.TheVariants as call
use Rattle.cmwq_model.specs.declared.id.CallerId.{CallerId}
use Rattle.cmwq_model.specs.declared.id.Who.{Who}
use Rattle.cmwq_model.specs.declared.id.Who.TheVariants.{Caller, Worker}
use Rattle.cmwq_model.specs.declared.id.WorkerId.{WorkerId}
use Rattle.cmwq_model.specs.declared.record.Ticket.{Ticket}
use Rattle.cmwq_board.specs.Boarded.{Boarded, board_of, firing_for}
use Rattle.cmwq_board.specs.Fires.{fired, with_call}
use Rattle.cmwq_board.specs.Lent.{unended_drains}
use Rattle.cmwq_board.specs.Machine.{bare, ended, finish_of, no_sleepers, then_due, then_fired, then_retired, then_woken}
use Rattle.cmwq_board.specs.Machine.{ticket_ended}
use Rattle.cmwq_board.specs.Steps.{Enters, FinishesRun, MayRetire, Ticks, retires_now}
use Rattle.cmwq_board.specs.Waits.{EndsBy, EndsTicket, IsWoken, MayEnterOf, MayFire}
use Rattle.cmwq_board.specs.declared.board.Finish.{Finish}
use Rattle.cmwq_board.specs.declared.lending.Lending.{Lending}
use Rattle.cmwq_board.specs.declared.news.News.{News}
use Rattle.cmwq_board.proofs.Ends.{Keeps, keeps_ended}

-- a dispatch without who sleeps, and one that differs in its history alone
abbrev pub bare_of : Dispatched → Dispatched
bare_of d = record d { asleep = no_sleepers }

abbrev pub IsOn : Dispatched → Dispatched → History → Type 0
IsOn d n h = bare_of n ≡ record (bare_of d) { history = h }

pub then_on : (d m n : Dispatched) (h : History) (F : History → History) → IsOn d m h → IsOn m n (F m.history)
    → IsOn d n (F h)
then_on d m n h F one next = next ∙ ap (λ (x : Dispatched). record x { history = F x.history }) one

pub on_call : (who : Who) (c : Call) (d n : Dispatched) (v u : Wakes) → Enters who c d n v u
    → IsOn d n (with_call d.history who c)
on_call who c d n v u is = ap bare_of is.made

pub on_fires : (b : Bool) (c : CallerId) (d n : Dispatched) (v u : Wakes) → MayFire b c d n v u
    → IsOn d n (if b then fired d.history.layout.items d.history c else d.history)
on_fires true c d n v u is = ap bare_of is.fires
on_fires false c d n v u is = ap bare_of is.0

pub on_wake : (run : Option WorkerId) (d n : Dispatched) (v u : Wakes) → IsWoken run d n v u
    → IsOn d n (then_woken run d.history)
on_wake None d n v u is = ap bare_of is.0
on_wake (Some w) d n v u is = by (runs_asleep (past_now d) w) is
  where
    by : (b : Bool) → MayEnterOf (Some w) call.Wake b d n v u
        → IsOn d n (if b then with_call d.history (Worker w) call.Wake else d.history)
    by true enters = on_call (Worker w) call.Wake d n v u enters
    by false same = ap bare_of same.0

on_retire : (w : WorkerId) (r : Bool) (d n : Dispatched) (v u : Wakes) → MayRetire d w r n v u
    → IsOn d n (then_retired w d.history)
on_retire w true d n v u is =
    on_call (Worker w) call.Retire d n v u is.1
    ∙ ap (λ b. record (bare_of d) { history = if b then with_call d.history (Worker w) call.Retire else d.history })
    (sym is.0)
on_retire w false d n v u is =
    ap bare_of is.1
    ∙ ap (λ b. record (bare_of d) { history = if b then with_call d.history (Worker w) call.Retire else d.history })
    (sym is.0)

pub on_finish : (w : WorkerId) (f : Finish) (d n : Dispatched) (v u : Wakes) → FinishesRun w f d n v u
    → IsOn d n (then_retired w (with_call d.history (Worker w) call.Finish))
on_finish w f d n v u is =
    then_on d is.mid n (with_call d.history (Worker w) call.Finish) (then_retired w)
    (on_call (Worker w) call.Finish d is.mid v is.meanwhile is.finish)
    (on_retire w f.retired is.mid n is.meanwhile u is.retire)

retired_is : (w : WorkerId) (r : Bool) (d n : Dispatched) (v u : Wakes) → MayRetire d w r n v u
    → r ≡ retires_now d.history w
retired_is w true d n v u is = sym is.0
retired_is w false d n v u is = sym is.0

-- what it finished
pub finish_is : (w : WorkerId) (f : Finish) (d n : Dispatched) (v u : Wakes) → FinishesRun w f d n v u
    → f ≡ finish_of d.history w
finish_is w f d n v u is =
    let number : f.number ≡ unwrap_or (number_finished (next_entry d.history (Worker w) call.Finish).reply) 0 =
    ap (λ o. unwrap_or o 0) (sym is.number) in
    let retired : f.retired ≡ retires_now (with_call d.history (Worker w) call.Finish) w =
    retired_is w f.retired is.mid n is.meanwhile u is.retire
    ∙ ap (λ (x : Dispatched). retires_now x.history w) is.finish.made in
    λ i. record { number = number i; retired = retired i }

pub on_ticks : (c : CallerId) (ticks : ℕ) (d n : Dispatched) (v u : Wakes) → Ticks c ticks d n v u
    → IsOn d n (then_due c (with_call d.history (Caller c) (call.Tick ticks)))
on_ticks c ticks d n v u is =
    then_on d is.mid n (with_call d.history (Caller c) (call.Tick ticks)) (then_due c)
    (on_call (Caller c) (call.Tick ticks) d is.mid v is.meanwhile is.tick)
    (ap bare_of is.fires.fires)

pub on_end : (t : Ticket) (run : Option WorkerId) (d n : Dispatched) (v u : Wakes) → EndsTicket t run d n v u
    → IsOn d n (ticket_ended t run d.history)
on_end t run d n v u is =
    then_on d is.fired n (then_fired t (with_call d.history (Caller t.caller) (call.End t.number))) (then_woken run)
    (then_on d is.ended is.fired (with_call d.history (Caller t.caller) (call.End t.number)) (then_fired t)
    (on_call (Caller t.caller) (call.End t.number) d is.ended v is.then_ended is.ends)
    (on_fires (is_drain t.call) t.caller is.ended is.fired is.then_ended is.then_fired is.fires))
    (on_wake run is.fired n is.then_fired u is.wakes)

pub on_board : (t : Ticket) (run : Option WorkerId) (lent : List Lending) (news : News) (a b : Boarded) (v u : Wakes)
    → EndsBy t run lent news a b v u → bare b ≡ ended t run lent news (bare a)
on_board t run lent news a b v u is =
    let h = ticket_ended t run a.dispatch.history in
    let made : bare_of b.dispatch
    ≡ record (bare_of a.dispatch) { history = h; firing = firing_for (unended_drains (past_in h)) } =
    ap bare_of is.settles.settled
    ∙ ap (λ (x : Dispatched). record x { firing = firing_for (unended_drains (past_now x)) })
    (on_end t run a.dispatch is.ended v is.then_ended is.ends) in
    λ i. board_of (made i) (is.kept.0 i) (is.kept.1 i) (is.lent i) (is.told i)

-- so the runs sleep as before, where none waited by the ticket
pub keeps_by_end : (t : Ticket) (lent : List Lending) (news : News) (a b : Boarded) (v u : Wakes)
    → EndsBy t None lent news a b v u → Keeps a.dispatch.history b.dispatch.history
keeps_by_end t lent news a b v u is =
    subst (Keeps a.dispatch.history)
    (sym (ap (λ (x : Boarded). x.dispatch.history) (on_board t None lent news a b v u is)))
    (keeps_ended t a.dispatch.history)
