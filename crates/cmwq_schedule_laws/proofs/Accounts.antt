-- What each party of a script has done when a play stands somewhere: its entries, as it sees them.
use Rattle.std.specs.Option.{option_map_or}
use Rattle.std.specs.Prelude.{◌^◌, option_and_then}
use Rattle.std.proofs.Common.{◌≡◌, ◌⊎◌, ◌+◌, ◌-◌, ◌<◌, ◌≤◌, ◌++◌, ◌∷◌, ℕ, Bool, true, false, List, [], Option, Some}
use Rattle.std.proofs.Common.{None}
use Rattle.std.proofs.Common.{length, take, slice_get, nat_lt, inl, inr}
use mathlib.Core.List.{IsPrefix}
use Rattle.cmwq_model.specs.Prelude.{IsScripted, Layout, has_numbers, past_of, runs_asleep, runs_awake}
use Rattle.cmwq_model.specs.declared.call.Call.{Call}
use Rattle.cmwq_model.specs.declared.call.Call.TheVariants as call
use Rattle.cmwq_model.specs.declared.entry.Entry.{Entry}
use Rattle.cmwq_model.specs.declared.id.Who.TheVariants.{Caller, Worker}
use Rattle.cmwq_model.specs.declared.id.WorkerId.{WorkerId}
use Rattle.cmwq_model.specs.declared.reply.Reply.{Reply}
use Rattle.cmwq_core.specs.History.{past_in}
use Rattle.cmwq_json_script.specs.Runs.{Run}
use Rattle.cmwq_json_script.specs.Scripts.{is_own}
use Rattle.cmwq_json_script.specs.Views.{calls_in}
use Rattle.cmwq_json_script.specs.declared.action.Action.{Action}
use Rattle.cmwq_json_script.specs.declared.action.Action.TheVariants as action
use Rattle.cmwq_monitor.specs.Calls.{own_entry}
use Rattle.cmwq_monitor.specs.Faults.{Refused}
use Rattle.cmwq_monitor.specs.Participants.{View, made_by, newcomer}
use Rattle.cmwq_monitor.specs.declared.fault.RunFault.TheVariants.{Full}
use Rattle.cmwq_rt.specs.Lent.{HasOnlyWaited}
use Rattle.cmwq_rt.specs.Places.{worker_by_number}
use Rattle.cmwq_rt.specs.Running.{MakesOne, RunsInTurn}
use Rattle.cmwq_rt.specs.Scripts.{HasFollowed}
use Rattle.cmwq_monitor.specs.Starts.{StartsOne}
use Rattle.cmwq_rt.specs.Sums.{no_waits}
use Rattle.cmwq_rt.specs.Waiting.{WasAllowed, is_wait}
use Rattle.cmwq_rt.specs.declared.left_out.LeftOut.{LeftOut}
use Rattle.cmwq_engine.specs.Conduct.{caller_numbered}
use Rattle.cmwq_cmd_run.specs.Interpreted.{ActInTurn, plays}
use Rattle.cmwq_play.specs.Stands.{Stand}
use Rattle.cmwq_play.specs.declared.place.CallerAt.{CallerAt}
use Rattle.cmwq_play.specs.declared.place.Doing.{Doing}
use Rattle.cmwq_play.specs.declared.place.Doing.TheVariants.{Acts, AtGate, AtLock, Waits}
use Rattle.cmwq_play.specs.declared.place.RunAt.{RunAt}
use Rattle.cmwq_play.specs.declared.place.Ticketed.{Ticketed}
use Rattle.cmwq_play.specs.declared.place.WorkerAt.{WorkerAt}
use Rattle.cmwq_schedule_laws.proofs.Calling.{IsBegun}
use Rattle.cmwq_schedule_laws.proofs.Keeping.{IsKept, IsUpToDate}
use Rattle.cmwq_schedule_laws.proofs.TheirWaits.{AreTheirs}

-- the list at this place, which is empty past the last
abbrev pub actions_at : List (List Action) → ℕ → List Action
actions_at lists k = option_map_or (λ actions. actions) (slice_get lists k) []

-- ---- callers of the script

-- It has followed these calls; or, in a wait, all but the last, which it has begun.
abbrev pub IsInWait : Layout → List Call → ℕ → View → Option Ticketed → View → Type 0
IsInWait s calls full first None v = HasFollowed s calls full first v
IsInWait s calls full first (Some t) v = (front : List Call) × (before : View) × (r : Reply)
    × HasFollowed s front full first before × (calls ≡ front ++ t.call ∷ []) × IsBegun s before t r v

-- the caller of this place has followed the calls of its actions so far
pub record CallerStands (s : Layout) (k : ℕ) (script : List Action) (at : CallerAt) (log : List Entry) : Type 0 where
  pub id : Caller at.id ≡ caller_numbered k
  pub full : ℕ
  pub view : View
  pub who : view.who ≡ caller_numbered k
  pub follows : IsInWait s (calls_in (take at.next script)) full (newcomer (caller_numbered k)) at.wait view
  pub up : IsUpToDate log view

-- ---- callers that may be lent

-- it has made whole waits, and nothing else
pub record HasRested (s : Layout) (c : ℕ) (log : List Entry) : Type 0 where
  pub view : View
  pub who : view.who ≡ caller_numbered c
  pub waited : HasOnlyWaited s view
  pub up : IsUpToDate log view

-- since a worker fell asleep, it has begun one more wait
pub record HasBegun (s : Layout) (c : ℕ) (t : Ticketed) (asleep : View) (log : List Entry) : Type 0 where
  pub before : View
  pub who : before.who ≡ caller_numbered c
  pub waited : HasOnlyWaited s before
  pub nothing_yet : made_by before.who asleep.seen ≡ made_by before.who before.seen
  pub reply : Reply
  pub view : View
  pub begun : IsBegun s before t reply view
  pub at_once : IsPrefix (asleep.seen ++ own_entry s asleep.seen before t.call ∷ []) view.seen
  pub up : IsUpToDate log view

-- ---- workers

-- A run sleeps at a gate or a lock, or is awake, since it had no room for that.
abbrev pub SleepsOrNot : Layout → Bool → View → View → List Entry → WorkerId → Type 0
SleepsOrNot s true v u log w = MakesOne s v call.Sleep u × (runs_asleep (past_of log) w ≡ true)
SleepsOrNot s false v u log w = Refused s v call.Sleep Full u × (runs_awake (past_of log) w ≡ true)

-- A run waits by a caller.
pub record IsWaitingBy (s : Layout) (w : WorkerId) (c : ℕ) (t : Ticketed) (v u : View) (log : List Entry) : Type 0 where
  pub wait : is_wait t.call ≡ true
  pub sleeps : MakesOne s v call.Sleep u
  pub first : ℕ
  pub allowed : WasAllowed s first v t.call (caller_numbered c) u
  pub asleep : runs_asleep (past_of log) w ≡ true
  pub begun : HasBegun s c t u log

-- The next action of a run is under way, or is not yet: what its worker had seen before it, and what it has seen now.
abbrev pub DoesNext : Layout → WorkerId → Option Action → Doing → View → View → List Entry → Type 0
DoesNext s w next Acts v u log = (u ≡ v) × (runs_awake (past_of log) w ≡ true)
DoesNext s w next (AtGate gate slept) v u log = (next ≡ Some (action.SleepAt gate)) × SleepsOrNot s slept v u log w
DoesNext s w next (AtLock lock slept) v u log = (next ≡ Some (action.Lock lock)) × SleepsOrNot s slept v u log w
DoesNext s w next (Waits c t) v u log = (next ≡ Some (action.Call t.call)) × IsWaitingBy s w c t v u log

-- An idle worker has run what it started, and nothing else.
pub record IsIdle (s : Layout) (does : List (List Action)) (w : WorkerId) (log : List Entry) : Type 0 where
  pub runs : ℕ
  pub left_out : LeftOut
  pub view : View
  pub who : view.who ≡ Worker w
  pub in_turn : RunsInTurn s (plays does s) runs left_out (newcomer (Worker w)) view
  pub up : IsUpToDate log view

-- So had a worker that runs an item. Since it started this run, it has done the actions before the next. Nothing is
-- said of a run with more actions than can be counted: it never ends.
pub record IsRunning (s : Layout) (does : List (List Action)) (w : WorkerId) (run : RunAt) (log : List Entry) : Type 0
  where
    pub runs : ℕ
    pub others : LeftOut
    pub before : View
    pub in_turn : RunsInTurn s (plays does s) runs others (newcomer (Worker w)) before
    pub started : View
    pub starts : StartsOne s before run.item started
    pub small : run.next ≤ 2 ^ 64 - 1
    pub left_out : LeftOut
    pub acted : View
    pub acts : length (actions_at does run.item.0) < 2 ^ 64
        → ActInTurn s run.item (take run.next (actions_at does run.item.0)) no_waits left_out started acted
    pub view : View
    pub who : view.who ≡ Worker w
    pub acted_who : acted.who ≡ Worker w
    pub doing : DoesNext s w (slice_get (actions_at does run.item.0) run.next) run.doing acted view log
    pub up : IsUpToDate log view

-- the same run, which is doing this now
pub runs_on : (s : Layout) (does : List (List Action)) (w : WorkerId) (run : RunAt) (old log : List Entry)
    (acc : IsRunning s does w run old) (d : Doing) (v : View) → v.who ≡ Worker w
    → DoesNext s w (slice_get (actions_at does run.item.0) run.next) d acc.acted v log → IsUpToDate log v
    → IsRunning s does w (record run { doing = d }) log
runs_on s does w run old log acc d v who doing up = record {
  runs = acc.runs;
  others = acc.others;
  before = acc.before;
  in_turn = acc.in_turn;
  started = acc.started;
  starts = acc.starts;
  small = acc.small;
  left_out = acc.left_out;
  acted = acc.acted;
  acts = acc.acts;
  view = v;
  who = who;
  acted_who = acc.acted_who;
  doing = doing;
  up = up;
}

abbrev pub Works : Layout → List (List Action) → WorkerId → Option RunAt → List Entry → Type 0
Works s does w None log = IsIdle s does w log
Works s does w (Some run) log = IsRunning s does w run log

-- the worker of this place, which is there
pub record WorkerStands (s : Layout) (does : List (List Action)) (k : ℕ) (at : WorkerAt) (log : List Entry) : Type 0
  where
    pub id : worker_by_number s k ≡ Some at.id
    pub cpu : nat_lt at.id.pool.cpu.0 s.cpus ≡ true
    pub index : nat_lt at.id.index s.workers ≡ true
    pub works : Works s does at.id at.run log

-- ---- who has which caller

-- the caller by which a run waits
abbrev pub caller_of : Doing → Option ℕ
caller_of (Waits c t) = Some c
caller_of Acts = None
caller_of (AtGate gate slept) = None
caller_of (AtLock lock slept) = None

abbrev pub lent_to : WorkerAt → Option ℕ
lent_to at = option_and_then (λ (run : RunAt). caller_of run.doing) at.run

-- a caller that may be lent is free, at a place among those, or it is lent to the worker of a place
abbrev pub Holding : Type 0
Holding = ℕ ⊎ ℕ

-- ---- the stand

abbrev pub IsLendable : Run → ℕ → Type 0
IsLendable r c = (length r.callers ≤ c) × (c < length r.callers + r.waits)

abbrev pub LentStands : Run → Stand → ℕ → Holding → Type 0
LentStands r p c (inl place) = HasRested r.layout c p.history.entries
LentStands r p c (inr k) = (at : WorkerAt) × (slice_get p.workers k ≡ Some at) × (lent_to at ≡ Some c)

-- which callers are free, and which are lent to whom
pub record AreLent (r : Run) (p : Stand) : Type 0 where
  pub holder : ℕ → Holding
  pub free : (i c : ℕ) → slice_get p.free i ≡ Some c → (holder c ≡ inl i) × IsLendable r c
  pub waiting : (k : ℕ) (at : WorkerAt) (c : ℕ) → slice_get p.workers k ≡ Some at → lent_to at ≡ Some c
      → (holder c ≡ inr k) × IsLendable r c
  pub each : (c : ℕ) → IsLendable r c → LentStands r p c (holder c)

-- A play of the script stands here. The runs that wait by its history, if callers of the script are not lent, are those
-- of its workers.
pub record Stands (r : Run) (p : Stand) : Type 0 where
  pub scripts : p.scripts ≡ r.callers
  pub does : p.does ≡ r.does
  pub kept : IsKept r.layout p.history
  pub all_callers : length p.callers ≡ length r.callers
  pub all_workers : worker_by_number r.layout (length p.workers) ≡ None
  pub callers : (k : ℕ) (at : CallerAt) → slice_get p.callers k ≡ Some at
      → CallerStands r.layout k (actions_at r.callers k) at p.history.entries
  pub workers : (k : ℕ) (at : WorkerAt) → slice_get p.workers k ≡ Some at
      → WorkerStands r.layout r.does k at p.history.entries
  pub lent : AreLent r p
  pub waits : AreTheirs (length r.callers) (past_in p.history) p.workers

-- ---- what a script keeps to

-- a call of an item, inside the layout
abbrev pub IsItems : Layout → Call → Type 0
IsItems s c = (is_own c ≡ true) × (has_numbers s c ≡ true)

pub record IsPlayable (r : Run) : Type 0 where
  pub cpus : 0 < r.layout.cpus
  pub workers : 0 < r.layout.workers
  pub few_callers : r.layout.callers ≤ 255
  pub all_callers : length r.callers + r.waits ≡ r.layout.callers
  pub scripts_short : (k : ℕ) → length (actions_at r.callers k) < 2 ^ 64
  pub scripts : (k n : ℕ) (c : Call) → slice_get (actions_at r.callers k) n ≡ Some (action.Call c)
      → IsScripted r.layout c
  pub does : (i n : ℕ) (c : Call) → slice_get (actions_at r.does i) n ≡ Some (action.Call c) → IsItems r.layout c
