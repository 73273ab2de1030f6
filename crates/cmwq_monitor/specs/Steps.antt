-- What one step under the lock leaves.
use Rattle.std.specs.Prelude.{◌≡◌, ◌⊎◌, ◌≤◌, ◌∷◌, ◌++◌}
use Rattle.cmwq_model.specs.Prelude.{is_drain, is_retired}
use Rattle.cmwq_monitor.specs.Common.{ℕ, Bool, true, false, List, [], length, All, Option, Some, None, MatchBool, Call}
use Rattle.cmwq_monitor.specs.Common.{Reply, Entry, Layout, serial_of, IsLegal, past_of, has_room}
use Rattle.cmwq_model.specs.declared.call.Call.TheVariants as call
use Rattle.cmwq_model.specs.declared.reply.Reply.TheVariants as reply
use Rattle.cmwq_waits.specs.Allowed.{BeginsAllowed}
use Rattle.cmwq_monitor.specs.Participants.{View, Gains, made_by}
use Rattle.cmwq_monitor.specs.Held.{Held, IsOpenTo, failed_from, is_shut_to}
use Rattle.cmwq_monitor.specs.Calls.{own_entry}
use Rattle.cmwq_monitor.specs.Whole.{Fires, EndsOwn, EndsFiring, IsFire, EndsTicket, PartEnd, Stops}
use Rattle.cmwq_monitor.specs.declared.fault.RunFault.{RunFault}
use Rattle.cmwq_monitor.specs.declared.fault.RunFault.TheVariants.{Closed, NoMemory, Stranger, Full}
use Rattle.cmwq_monitor.specs.declared.fault.Shortage.{Shortage}
use Rattle.cmwq_monitor.specs.declared.fault.Shortage.TheVariants.{Room, Memory}

-- a participant counts the entries that the history has of it, and has seen no more than there is
abbrev pub InStep : List Entry → View → Type 0
InStep history v = (serial_of (past_of history) v.who ≡ v.serial) × (length v.seen ≤ length history)

-- Which fault a call answers where there are several: that the hub takes none of this one, then that it has failed, then
-- that it isn't the participant's own, then that there is no room for the call. Memory may run out once the call is let
-- in.
abbrev pub TellsFirst : Held → View → RunFault → Type 0
TellsFirst h v Closed = is_shut_to h v.who ≡ true
TellsFirst h v (NoMemory ticket) = (is_shut_to h v.who ≡ false) × ((h.failed ≡ true) ⊎ InStep h.history v)
TellsFirst h v (Stranger own book) = IsOpenTo h v.who
TellsFirst h v Full = IsOpenTo h v.who × InStep h.history v
TellsFirst h v f = ⊥

-- A wait that the call begins, if it begins one, was not refused just before its run fell asleep.
abbrev pub MayBegin : Layout → Held → View → Call → Type 0
MayBegin s h v call = BeginsAllowed h.first_lent s (past_of h.history) (own_entry s h.history v call)

-- what was short, and what that leaves
abbrev pub Lacks : Layout → Held → View → Call → Shortage → Held → Type 0
Lacks s old w call Room new = (has_room s s.room (past_of w.seen) w.who call ≡ false) × (new ≡ old)
Lacks s old w call Memory new = new ≡ failed_from old new.asleep

-- all that was due was fired, as far as there was room
pub record HasFired (s : Layout) (v w : View) : Type 0 where
  pub entries : List Entry
  pub gains : Gains v entries w
  pub fires : Fires s v.who w.seen s.items (made_by v.who v.seen) entries
  pub counts : serial_of (past_of w.seen) w.who ≡ w.serial
  pub ends : EndsFiring s v.who w.seen
  pub legal : IsLegal s (past_of w.seen)

-- some fires were made
abbrev pub HasFiredSome : View → View → Type 0
HasFiredSome v w = (es : List Entry) × Gains v es w × All IsFire es

-- What is due is being fired: whatever fires are made next, so many at most, those that were made are all that was due
-- together with them.
pub record IsFiring (s : Layout) (left : ℕ) (v w : View) : Type 0 where
  pub entries : List Entry
  pub gains : Gains v entries w
  pub fires : All IsFire entries
  pub goes_on : (history more : List Entry) → Fires s v.who history left (made_by v.who v.seen ++ entries) more
      → Fires s v.who history s.items (made_by v.who v.seen) (entries ++ more)
  pub counts : serial_of (past_of w.seen) w.who ≡ w.serial
  pub ends : EndsFiring s v.who w.seen
  pub legal : IsLegal s (past_of w.seen)

-- a worker starts a queueing of its pool
abbrev pub is_start : Reply → Bool
is_start (reply.Started n) = true
is_start (reply.StartedEnlist n x) = true
is_start r = false

-- the call would get no such reply now
abbrev pub WouldNot : (Reply → Bool) → Layout → List Entry → View → Call → Type 0
WouldNot is s history v call = is (own_entry s history v call).reply ≡ false

-- a worker that is sent to the reserve
-- it isn't, or there is no room for that
abbrev pub IsViewKept : Layout → List Entry → View → Type 0
IsViewKept s history v = WouldNot is_retired s history v call.Retire
    ⊎ (has_room s s.room (past_of history) v.who call.Retire ≡ false)

-- A wait ended: its ticket's end was done, and what a drain fires was fired.
pub record HasEnded (s : Layout) (v : View) (c : Call) (k : ℕ) (w : View) : Type 0 where
  pub entries : List Entry
  pub gains : Gains v entries w
  pub is : EndsTicket s v.who w.seen (made_by v.who v.seen) c k entries
  pub counts : serial_of (past_of w.seen) w.who ≡ w.serial
  pub ends : MatchBool (is_drain c) (EndsFiring s v.who w.seen) (EndsOwn v.who w.seen)
  pub legal : IsLegal s (past_of w.seen)

-- or it stopped after some of that
abbrev pub still_unended : ℕ → List Entry → Option ℕ
still_unended k [] = Some k
still_unended k (e ∷ es) = None

abbrev pub HasEndedSome : Layout → View → Call → ℕ → RunFault → View → Type 0
HasEndedSome s v c k f w = (es : List Entry) × Gains v es w × PartEnd c k es × Stops w (still_unended k es) f
