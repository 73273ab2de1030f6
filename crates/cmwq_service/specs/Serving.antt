-- What the run of a service leaves.
use Rattle.std.specs.Prelude.{◌≡◌, ◌⊎◌, ◌+◌, ◌-◌, ◌<◌, ℕ, List, drop}
use Rattle.std.proofs.Common.{zero, suc}
use mathlib.Core.List.{IsPrefix}
use Rattle.cmwq_model.specs.Prelude.{Layout, past_of, serial_of}
use Rattle.cmwq_model.specs.declared.call.Call.TheVariants as call
use Rattle.cmwq_model.specs.declared.reply.Reply.{Reply}
use Rattle.cmwq_monitor.specs.Whole.{Completes}
use Rattle.cmwq_model.specs.declared.entry.Entry.{Entry}
use Rattle.cmwq_model.specs.declared.id.ItemId.{ItemId}
use Rattle.cmwq_rt.specs.Running.{Behavior}
use Rattle.cmwq_rt.specs.declared.left_out.LeftOut.{LeftOut}
use Rattle.cmwq_engine.specs.Conduct.{caller_numbered}
use Rattle.cmwq_engine.specs.Ended.{AllWaited, AllWorked}
use Rattle.cmwq_core.specs.Relied.{IsReliable}
use Rattle.cmwq_monitor.specs.Held.{active_in}
use Rattle.cmwq_monitor.specs.Participants.{View, Gains, newcomer, made_by}
use Rattle.cmwq_service.specs.Calls.{Continues}

-- what a caller of this place does in a hub of this shape, as a relation of what it saw at first and at last
abbrev pub Conduct : Type 1
Conduct = ℕ → Layout → View → View → Type 0

-- what the caller does that comes at the end
abbrev pub Ending : Type 1
Ending = Layout → View → View → Type 0

-- what one run of an item does in a hub of this shape, as a relation of what its worker saw when it began and when it
-- had ended
abbrev pub ItemConduct : Type 1
ItemConduct = Layout → ItemId → View → View → Type 0

-- so it does, however many waits it left out
abbrev pub behaves : ItemConduct → Layout → Behavior
behaves does s item l v w = does s item v w

-- it made nothing, or it did so
abbrev pub may_end : Ending → Conduct
may_end ends k s v w = (w ≡ v) ⊎ ends s v w

-- how many callers of a shape are the library's own: the one that comes at the end, and that of the clock
abbrev pub own_callers : ℕ
own_callers = 2

-- what a caller of this place has done
pub record HasCalled (s : Layout) (calls : Conduct) (k : ℕ) (v : View) : Type 0 where
  pub continues : Continues (newcomer (caller_numbered k)) v
  pub did : calls k s (newcomer (caller_numbered k)) v

-- The caller's entries in a history are those that its client has made, and it did what the service says.
pub record CalledIn (s : Layout) (calls : Conduct) (k : ℕ) (history : List Entry) : Type 0 where
  pub last : View
  pub did : calls k s (newcomer (caller_numbered k)) last
  pub entries : List Entry
  pub gains : Gains (newcomer (caller_numbered k)) entries last
  pub older : IsPrefix last.seen history
  pub own : made_by (caller_numbered k) history ≡ entries

-- so many ticks, one after another, each with the fires that it made
abbrev pub TicksInTurn : Layout → ℕ → View → View → Type 0
TicksInTurn s zero v w = w ≡ v
TicksInTurn s (suc n) v w = (before : View) × (r : Reply) × TicksInTurn s n v before
    × Completes s before (call.Tick 1) r w

-- a caller has made the entries of ticks, and no others
pub record HasOnlyTicked (s : Layout) (v w : View) : Type 0 where
  pub ticks : ℕ
  pub in_turn : TicksInTurn s ticks v w

-- This caller's entries in a history are those of ticks, and it has no others there.
pub record TickedIn (s : Layout) (k : ℕ) (history : List Entry) : Type 0 where
  pub last : View
  pub ticked : HasOnlyTicked s (newcomer (caller_numbered k)) last
  pub older : IsPrefix last.seen history
  pub own : serial_of (past_of history) (caller_numbered k) ≡ last.serial

-- A history that a service leaves, whose shape's last callers, so many, are lent to runs that wait: all that a user
-- relies on holds of it, no active queueing is open at its end, each of its callers did what the service says and made
-- no other entries, the clock made ticks alone, the last caller made nothing or did what the service says of its end,
-- the entries of each caller that is lent are those of whole waits of runs, and each worker's entries are runs, in each
-- of which its item did what the service says.
pub record IsServed (s : Layout) (waits : ℕ) (calls : Conduct) (ends : Ending) (does : ItemConduct)
    (history : List Entry) : Type 0 where
  pub reliable : IsReliable s (past_of history)
  pub finished : active_in s history ≡ 0
  pub called : (k : ℕ) → k + own_callers + waits < s.callers → ∥ CalledIn s calls k history ∥₁
  pub ticked : (k : ℕ) → k + own_callers + waits ≡ s.callers → TickedIn s k history
  pub ended : (k : ℕ) → k + 1 + waits ≡ s.callers → ∥ CalledIn s (may_end ends) k history ∥₁
  pub waited : AllWaited s (s.callers - waits) waits history
  pub worked : (l : LeftOut) × AllWorked s (behaves does s) l history

-- what a hub kept of a history that a service leaves, after its first so many entries
pub record IsRestOfServed (s : Layout) (waits : ℕ) (calls : Conduct) (ends : Ending) (does : ItemConduct)
    (first : ℕ) (rest : List Entry) : Type 0 where
  pub history : List Entry
  pub served : IsServed s waits calls ends does history
  pub rest_is : rest ≡ drop first history
