-- What the calls of a board make of it, and why they make nothing.
use Rattle.std.specs.Prelude.{◌≡◌, ◌&&◌, ◌||◌, ℕ, Bool, true, false, not}
use Rattle.std.specs.Prelude.{Option, Some, None, if◌then◌else◌, nat_lt}
use Rattle.cmwq_core.specs.History.{History, next_entry, takes, with_entry}
use Rattle.cmwq_dispatch.specs.Asleep.{SleepOn}
use Rattle.cmwq_dispatch.specs.Dispatched.{Dispatched}
use Rattle.cmwq_dispatch.specs.declared.wakes.Wakes.{Wakes}
use Rattle.cmwq_model.specs.Prelude.{Layout, fits, has_run, is_retired, number_finished, runs_awake}
use Rattle.cmwq_model.specs.declared.call.Call.{Call}
use Rattle.cmwq_model.specs.declared.call.Call.TheVariants as call
use Rattle.cmwq_model.specs.declared.reply.Reply.{Reply}
use Rattle.cmwq_model.specs.declared.entry.Entry.{Entry}
use Rattle.cmwq_model.specs.declared.id.CallerId.{CallerId}
use Rattle.cmwq_model.specs.declared.id.Who.{Who}
use Rattle.cmwq_model.specs.declared.id.Who.TheVariants.{Caller, Worker}
use Rattle.cmwq_model.specs.declared.id.WorkerId.{WorkerId}
use Rattle.cmwq_theory_wakes.specs.Starting.{would_start}
use Rattle.cmwq_board.specs.Asked.{is_single}
use Rattle.cmwq_board.specs.Boarded.{Boarded, has_space, is_own, layout_of, past_of_board}
use Rattle.cmwq_board.specs.Boarded.{most_made}
use Rattle.cmwq_board.specs.Fires.{fired}
use Rattle.cmwq_board.specs.declared.board.Finish.{Finish}
use Rattle.cmwq_board.specs.declared.fault.BoardFault.{BoardFault}
use Rattle.cmwq_board.specs.declared.fault.BoardFault.TheVariants as fault

-- ---- entries

-- an entry is made
abbrev pub after_entry : Dispatched → Entry → Dispatched
after_entry d e = record d { history = with_entry d.history e }

-- a call is made, with the one reply that it gets
abbrev pub after_call : Dispatched → Who → Call → Dispatched
after_call d who c = after_entry d (next_entry d.history who c)

abbrev pub reply_now : Boarded → Who → Call → Reply
reply_now b who c = (next_entry b.dispatch.history who c).reply

abbrev pub with_dispatch : Boarded → Dispatched → Boarded
with_dispatch b d = record b { dispatch = d }

-- One call is made, and those who can go on after it are named. Nothing else changes.
pub record Enters (who : Who) (c : Call) (old new : Dispatched) (before after : Wakes) : Type 0 where
  pub made : new ≡ record (after_call old who c) { asleep = new.asleep }
  pub named : SleepOn who old.asleep new.asleep before after

abbrev pub Makes : Who → Call → Boarded → Boarded → Wakes → Wakes → Type 0
Makes who c old new before after =
    Enters who c old.dispatch new.dispatch before after × (new ≡ with_dispatch old new.dispatch)

-- ---- a call of one entry

abbrev pub is_caller : Who → Bool
is_caller (Caller c) = true
is_caller (Worker w) = false

-- why it makes none
abbrev pub call_fault : Boarded → Who → Call → Option BoardFault
call_fault b who c = if not (is_single c && is_own b who && fits (layout_of b) who c) then Some fault.Refused
    else if b.dispatch.failed then Some fault.Failed
    else if b.dispatch.closed && is_caller who then Some fault.Closed
    else if not (has_space b 1) then Some fault.Crowded
    else if not (takes b.dispatch.history who c) then Some fault.Full
    else None

-- ---- a worker starts something

abbrev pub has_worker : Layout → WorkerId → Bool
has_worker s w = nat_lt w.pool.cpu.0 s.cpus && nat_lt w.index s.workers

-- whether it would start something now
abbrev pub starts_now : Boarded → WorkerId → Bool
starts_now b w = would_start (layout_of b) (past_of_board b) w

abbrev pub start_fault : Boarded → WorkerId → Option BoardFault
start_fault b w = if not (has_worker (layout_of b) w) then Some fault.Refused
    else if b.dispatch.failed then None
    else if has_run (past_of_board b) w then Some fault.Misuse
    else if starts_now b w && not (has_space b 1) then Some fault.Crowded
    else None

-- ---- a worker finishes

abbrev pub finish_fault : Boarded → WorkerId → Option BoardFault
finish_fault b w = if not (has_worker (layout_of b) w) then Some fault.Refused
    else if b.dispatch.failed then Some fault.Failed
    else if not (runs_awake (past_of_board b) w) then Some fault.Misuse
    else if not (has_space b 2) then Some fault.Crowded
    else if not (takes b.dispatch.history (Worker w) call.Finish) then Some fault.Full
    else None

-- it would be sent to the reserve now, and there is room for that
abbrev pub retires_now : History → WorkerId → Bool
retires_now h w = is_retired (next_entry h (Worker w) call.Retire).reply && takes h (Worker w) call.Retire

-- it is sent to the reserve if it would be
abbrev pub MayRetire : Dispatched → WorkerId → Bool → Dispatched → Wakes → Wakes → Type 0
MayRetire old w true new before after =
    (retires_now old.history w ≡ true) × Enters (Worker w) call.Retire old new before after
MayRetire old w false new before after = (retires_now old.history w ≡ false) × (new ≡ old) × (after ≡ before)

-- the run ends, and then the worker may be sent to the reserve
pub record FinishesRun (w : WorkerId) (f : Finish) (old new : Dispatched) (before after : Wakes) : Type 0 where
  pub mid : Dispatched
  pub meanwhile : Wakes
  pub number : number_finished (next_entry old.history (Worker w) call.Finish).reply ≡ Some f.number
  pub finish : Enters (Worker w) call.Finish old mid before meanwhile
  pub retire : MayRetire mid w f.retired new meanwhile after

-- ---- timers fire

-- a caller fires what is due, as often as there are items at most
pub record FiresDue (c : CallerId) (old new : Dispatched) (before after : Wakes) : Type 0 where
  pub fires : new
      ≡ record old { history = fired old.history.layout.items old.history c; asleep = new.asleep }
  pub named : SleepOn (Caller c) old.asleep new.asleep before after

-- what no entry changes
pub record Stays (old new : Dispatched) : Type 0 where
  pub layout : new.history.layout ≡ old.history.layout
  pub room : new.history.room ≡ old.history.room
  pub closed : new.closed ≡ old.closed
  pub failed : new.failed ≡ old.failed
  pub firing : new.firing ≡ old.firing

-- whoever fires keeps it from being over
abbrev pub may_fire : Dispatched → Bool
may_fire d = not d.failed && (not d.closed || nat_lt 0 d.firing)

-- ---- time

abbrev pub advance_fault : Boarded → CallerId → ℕ → Option BoardFault
advance_fault b c ticks = if not (is_own b (Caller c)) then Some fault.Refused
    else if b.dispatch.failed then Some fault.Failed
    else if b.dispatch.closed then Some fault.Closed
    else if not (has_space b (most_made (layout_of b))) then Some fault.Crowded
    else if not (takes b.dispatch.history (Caller c) (call.Tick ticks)) then Some fault.Full
    else None

-- so many ticks go by, and then what is due is fired
pub record Ticks (c : CallerId) (ticks : ℕ) (old new : Dispatched) (before after : Wakes) : Type 0 where
  pub mid : Dispatched
  pub meanwhile : Wakes
  pub tick : Enters (Caller c) (call.Tick ticks) old mid before meanwhile
  pub fires : FiresDue c mid new meanwhile after
