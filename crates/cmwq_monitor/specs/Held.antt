-- What contracts see of what a hub keeps under its lock.
use Rattle.std.specs.Prelude.{◌≡◌, ◌⊎◌, ◌+◌, ◌-◌, ◌*◌, ◌<◌, ◌≤◌, ◌&&◌, ◌||◌, nat_lt, nat_le, not}
use Rattle.std.specs.List.{list_any}
use Rattle.cmwq_model.specs.Tickets.{is_held_by, unended_tickets}
use Rattle.cmwq_monitor.specs.Common.{ℕ, Bool, true, false, List, [], length, Who, Entry, Layout, past_of}
use Rattle.cmwq_monitor.specs.Common.{Call, Caller, None, Option, Worker, History}
use Rattle.cmwq_model.specs.declared.call.Call.TheVariants as call
use Rattle.cmwq_core.specs.History.{takes, takes_with}
use Rattle.cmwq_dispatch.specs.Asleep.{Asleep, SleepOn}
use Rattle.cmwq_dispatch.specs.Dispatched as Dispatch
use Rattle.cmwq_dispatch.specs.Dispatched.{Dispatched, dispatched_of}
use Rattle.cmwq_dispatch.specs.Naming.{NamesAll, names_journal}
use Rattle.cmwq_dispatch.specs.declared.wakes.Wakes.{Wakes}
use Rattle.cmwq_waits.specs.Begun.{is_lent, waits_of}
use Rattle.cmwq_waits.specs.Registered.{refusal_of}
use Rattle.cmwq_waits.specs.declared.waits.Stuck.{Stuck}
use Rattle.cmwq_monitor.specs.Participants.{is_caller}
use Rattle.cmwq_monitor.specs.declared.fault.RunFault.{RunFault}
use Rattle.cmwq_monitor.specs.declared.fault.RunFault.TheVariants.{NoMemory}

-- The history, with the oldest entry first. A closed hub takes no calls of callers, a failed one none at all. How many
-- callers may still fire, whether somebody sleeps until there is space, from which number on callers are lent to runs,
-- and who sleeps. How many entries were handed over or dropped, how many of the others are kept at most, and whether
-- the one who writes the history down sleeps.
pub record Held : Type 0 where
  pub history : List Entry
  pub closed : Bool
  pub failed : Bool
  pub firing : ℕ
  pub crowded : Bool
  pub first_lent : ℕ
  pub asleep : Asleep
  pub given : ℕ
  pub keeps : ℕ
  pub writer_sleeps : Bool

abbrev pub held_of : Dispatched → ℕ → ℕ → Bool → Held
held_of d given keeps writer_sleeps = record {
  history = d.history.entries;
  closed = d.closed;
  failed = d.failed;
  firing = d.firing;
  crowded = d.crowded;
  first_lent = d.first_lent;
  asleep = d.asleep;
  given = given;
  keeps = keeps;
  writer_sleeps = writer_sleeps;
}

abbrev pub held_at_first : ℕ → ℕ → Asleep → Held
held_at_first keeps first asleep = record {
  history = [];
  closed = false;
  failed = false;
  firing = 0;
  crowded = false;
  first_lent = first;
  asleep = asleep;
  given = 0;
  keeps = keeps;
  writer_sleeps = false;
}

-- the execution that has this history
abbrev pub history_of : Layout → List Entry → History
history_of s entries = record { layout = s; room = s.room; entries = entries }

-- the same as contracts see a dispatch
abbrev pub dispatched : Layout → Held → Dispatched
dispatched s h = dispatched_of (history_of s h.history) h.closed h.failed h.crowded h.firing h.first_lent h.asleep

-- It takes no call of this one: once it is closed, of no caller, and never of one that is lent to runs, which makes
-- only the calls by which they wait.
abbrev pub is_shut_to : Held → Who → Bool
is_shut_to h who = is_caller who && (h.closed || is_lent h.first_lent who)

-- it takes the calls of this one
abbrev pub IsOpenTo : Held → Who → Type 0
IsOpenTo h who = (h.failed ≡ false) × (is_shut_to h who ≡ false)

-- how many active queueings are open
abbrev pub active_in : Layout → List Entry → ℕ
active_in s history = Dispatch.active_in s (past_of history)

-- Workers may go: the dispatch is over.
abbrev pub is_over : Layout → Held → Bool
is_over s h = Dispatch.is_over (dispatched s h)

-- ---- what is kept for the one who writes the history down

abbrev pub kept_in : Held → ℕ
kept_in h = length h.history - h.given

-- There is enough to hand over: half of what may be kept, or anything once it is over, or somebody sleeps until there
-- is space. Or nothing more may come.
abbrev pub is_writer_wanted : Layout → Held → Bool
is_writer_wanted s h =
    h.failed || h.crowded || ((nat_le h.keeps (2 * kept_in h) || is_over s h) && nat_lt 0 (kept_in h))

-- how many more entries can be kept
abbrev pub space_in : Held → ℕ
space_in h = h.keeps + h.given - length h.history

-- So many entries can be kept, or all that the room still allows, or nothing is made any more.
abbrev pub has_space : Layout → Held → ℕ → Bool
has_space s h n = h.failed || (nat_le n (space_in h) || nat_le s.room (space_in h + length h.history))

-- ---- runs that wait

-- Why a wait of what this worker runs is refused after these entries, if callers from a number on are lent to runs. No
-- wait of a caller is.
abbrev pub refusal_after : Layout → ℕ → List Entry → Who → Call → Option Stuck
refusal_after s first history (Worker w) c =
    refusal_of s (past_of history) (waits_of first (past_of history)) w c
refusal_after s first history (Caller k) c = None

abbrev pub refusal_at : Layout → Held → Who → Call → Option Stuck
refusal_at s h who c = refusal_after s h.first_lent h.history who c

-- After these entries there is room for the worker's sleep, and for the call of this caller, for what is owed then, and
-- for the sleep and the wake.
abbrev pub has_room_after : Layout → List Entry → Who → Who → Call → Bool
has_room_after s history worker caller c =
    takes (history_of s history) worker call.Sleep && takes_with (history_of s history) caller c 2

abbrev pub has_room_at : Layout → Held → Who → Who → Call → Bool
has_room_at s h worker caller c = has_room_after s h.history worker caller c

-- this one waits: it has an unended ticket
abbrev pub has_ticket : List Entry → Who → Bool
has_ticket past who = list_any (is_held_by who) (unended_tickets past)

abbrev pub caller_waits : List Entry → ℕ → Bool
caller_waits past c = has_ticket past (Caller (record { 0 = c }))

-- each caller that is lent to runs waits, where those from a number on are
abbrev pub AllLentWait : Layout → ℕ → List Entry → Type 0
AllLentWait s first past = (c : ℕ) → first ≤ c → c < s.callers → caller_waits past c ≡ true

-- one of them does not
abbrev pub SomeLentIsFree : Layout → ℕ → List Entry → Type 0
SomeLentIsFree s first past = (c : ℕ) × (first ≤ c) × (c < s.callers) × (caller_waits past c ≡ false)

-- whether this is one of them that does not
abbrev pub is_free : ℕ → List Entry → Who → Bool
is_free first past who = is_lent first who && not (has_ticket past who)

-- A wait of this worker's run by this caller may begin: it is not refused, the caller is lent to runs and does not wait,
-- and there is room.
pub record MayWaitBy (s : Layout) (h : Held) (worker : Who) (c : Call) (caller : Who) : Type 0 where
  pub free : is_free h.first_lent (past_of h.history) caller ≡ true
  pub allowed : refusal_at s h worker c ≡ None
  pub room : has_room_at s h worker caller c ≡ true

-- ---- steps

-- A step that is answered neither opens nor closes it, and doesn't fail it. Nobody begins or ends to fire, or to sleep
-- until there is space, the same callers are lent, and nothing is handed over.
pub record GoesOn (old new : Held) : Type 0 where
  pub closed : new.closed ≡ old.closed
  pub failed : new.failed ≡ old.failed
  pub firing : new.firing ≡ old.firing
  pub crowded : new.crowded ≡ old.crowded
  pub first_lent : new.first_lent ≡ old.first_lent
  pub given : new.given ≡ old.given
  pub keeps : new.keeps ≡ old.keeps

-- What a fault leaves: want of memory a hub that has failed, any other one as it was.
abbrev pub LeavesHeld : Held → RunFault → Held → Type 0
LeavesHeld old (NoMemory ticket) new =
    (new.closed ≡ old.closed) × (new.failed ≡ true) × (new.first_lent ≡ old.first_lent)
LeavesHeld old f new = new ≡ old

-- It has failed, and nobody sleeps.
abbrev pub failed_from : Held → Asleep → Held
failed_from h asleep = record h { failed = true; asleep = asleep; writer_sleeps = false }

-- ---- who sleeps, and who is named to be woken

-- Whoever slept sleeps on, or is named, or made the step.
pub record SleepersGoOn (who : Who) (old new : Held) (before after : Wakes) : Type 0 where
  pub waiting : SleepOn who old.asleep new.asleep before after
  pub for_space : old.crowded ≡ true → (new.crowded ≡ true) ⊎ NamesAll after
  pub writer : old.writer_sleeps ≡ true → (new.writer_sleeps ≡ true) ⊎ (names_journal after ≡ true)
