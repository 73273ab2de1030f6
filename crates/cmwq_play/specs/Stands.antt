-- Where a script stands while it is played, who may move, and what a move makes of it.
use Rattle.std.specs.Prelude.{◌≡◌, ◌+◌, ◌-◌, ◌^◌, ◌||◌, ℕ, Bool, true, false, if◌then◌else◌, List, [], ◌∷◌, ◌++◌, ◌==◌}
use Rattle.std.specs.Prelude.{length, take, count_by, Option, Some, None, is_some, not, nat_lt, slice_get, slice_set}
use Rattle.std.specs.Prelude.{option_and_then}
use Rattle.std.specs.List.{filter, list_any, range_with_len}
use Rattle.std.specs.Option.{option_map_or}
use Rattle.cmwq_model.specs.Prelude.{is_active, is_workers, still_open}
use Rattle.cmwq_model.specs.declared.call.Call.{Call}
use Rattle.cmwq_model.specs.declared.call.Call.TheVariants as call
use Rattle.cmwq_model.specs.declared.id.ItemId.{ItemId}
use Rattle.cmwq_model.specs.declared.id.WorkerId.{WorkerId}
use Rattle.cmwq_model.specs.declared.id.Who.TheVariants.{Caller, Worker}
use Rattle.cmwq_json_script.specs.declared.action.Action.{Action}
use Rattle.cmwq_json_script.specs.declared.action.Action.TheVariants as action
use Rattle.cmwq_json_script.specs.declared.action.Holder.{Holder}
use Rattle.cmwq_json_script.specs.declared.action.Holder.TheVariants as holders
use Rattle.cmwq_core.specs.History.{History, past_in}
use Rattle.cmwq_play.specs.declared.machine.Called.{Called}
use Rattle.cmwq_play.specs.declared.machine.Called.TheVariants.{Waits as Began}
use Rattle.cmwq_play.specs.declared.place.Ticketed.{Ticketed}
use Rattle.cmwq_play.specs.declared.place.CallerAt.{CallerAt}
use Rattle.cmwq_play.specs.declared.place.Doing.{Doing}
use Rattle.cmwq_play.specs.declared.place.Doing.TheVariants.{Acts, AtGate, AtLock, Waits}
use Rattle.cmwq_play.specs.declared.place.RunAt.{RunAt}
use Rattle.cmwq_play.specs.declared.place.WorkerAt.{WorkerAt}
use Rattle.cmwq_play.specs.Machines.{AfterCall, stepped, replied, starts, ends, retires, ended, called}
use Rattle.cmwq_play.specs.Machines.{has_wait_room}
use Rattle.cmwq_play.specs.Waiting.{may_wait}

-- the actions of each caller and of each item, which stay; the history; where callers and workers stand; which gates
-- are open; who holds each lock; and the callers that may be lent, of which the last is lent next
pub record Stand : Type 0 where
  pub scripts : List (List Action)
  pub does : List (List Action)
  pub history : History
  pub callers : List CallerAt
  pub workers : List WorkerAt
  pub gates : List Bool
  pub locks : List (Option Holder)
  pub free : List ℕ

abbrev pub script_at : Stand → ℕ → List Action
script_at p k = option_map_or (λ actions. actions) (slice_get p.scripts k) []

-- ---- gates and locks

abbrev pub is_open : Stand → ℕ → Bool
is_open p gate = option_map_or (λ is. is) (slice_get p.gates gate) false

abbrev pub is_free : Stand → ℕ → Bool
is_free p lock = option_map_or (λ (holder : Option Holder). not (is_some holder)) (slice_get p.locks lock) false

abbrev pub is_same : Holder → Holder → Bool
is_same (holders.Caller c) (holders.Caller d) = c.0 == d.0
is_same (holders.Run i) (holders.Run j) = i.0 == j.0
is_same a b = false

abbrev pub is_held_by : Holder → Option Holder → Bool
is_held_by holder held = option_map_or (is_same holder) held false

abbrev pub holds : Stand → Holder → ℕ → Bool
holds p holder lock = option_map_or (is_held_by holder) (slice_get p.locks lock) false

abbrev pub opened : Stand → ℕ → Stand
opened p gate = record p { gates = slice_set p.gates gate true }

abbrev pub locked : Stand → Holder → ℕ → Stand
locked p holder lock = record p { locks = slice_set p.locks lock (Some holder) }

-- a lock that is held by another, or by nobody, stays as it is
abbrev pub unlocked : Stand → Holder → ℕ → Stand
unlocked p holder lock = if holds p holder lock then record p { locks = slice_set p.locks lock None } else p

abbrev pub action_of : Stand → RunAt → Option Action
action_of p run = option_map_or (λ actions. slice_get actions run.next) (slice_get p.does run.item.0) None

-- ---- who may move

-- a caller's next action: at a gate that is open, and by a lock that is free
abbrev pub may_act : Stand → Action → Bool
may_act p (action.SleepAt gate) = is_open p gate
may_act p (action.Lock lock) = is_free p lock
may_act p a = true

-- a caller: by its next action, or by the end of its wait
abbrev pub may_call : Stand → ℕ → CallerAt → Bool
may_call p k at =
    option_map_or (λ w. ends p.history (Caller at.id) w.ticket) at.wait
    (option_map_or (may_act p) (slice_get (script_at p k) at.next) false)

-- what a run is doing may go on: at a gate that is open, at a lock that is free, and in a wait that would end
abbrev pub may_do : Stand → Doing → Bool
may_do p (AtGate gate slept) = is_open p gate
may_do p (AtLock lock slept) = is_free p lock
may_do p (Waits caller wait) = ends p.history (Caller (record { 0 = caller })) wait.ticket
may_do p Acts = true

abbrev pub may_work : Stand → WorkerAt → Bool
may_work p at = option_map_or (λ (run : RunAt). may_do p run.doing) at.run (is_some (starts p.history at.id))

unfoldable pub may : Stand → ℕ → Bool
may p k =
    if nat_lt k (length p.callers) then option_map_or (may_call p k) (slice_get p.callers k) false
    else option_map_or (may_work p) (slice_get p.workers (k - length p.callers)) false

-- those who may move, in order
abbrev pub movers_of : Stand → List ℕ
movers_of p = filter (may p) (range_with_len 0 (length p.callers + length p.workers))

-- ---- what is left to do

abbrev pub calls_left : Stand → ℕ → CallerAt → Bool
calls_left p k at = is_some at.wait || nat_lt at.next (length (script_at p k))

-- how many queueings are active
abbrev pub active_in : History → ℕ
active_in h = count_by (is_active h.layout (past_in h)) (still_open (past_in h))

-- no caller waits, or has actions left to do
abbrev pub NoneLeft : Stand → Type 0
NoneLeft p = (k : ℕ) (at : CallerAt) → slice_get p.callers k ≡ Some at → calls_left p k at ≡ false

abbrev pub has_run : WorkerAt → Bool
has_run at = is_some at.run

-- all callers have done their actions, no run is under way, and nothing active is open
pub record IsDone (p : Stand) : Type 0 where
  pub callers : NoneLeft p
  pub workers : list_any has_run p.workers ≡ false
  pub active : active_in p.history ≡ 0

-- ---- moves

abbrev pub with_caller : Stand → ℕ → CallerAt → Stand
with_caller p k at = record p { callers = slice_set p.callers k at }

abbrev pub with_run : Stand → ℕ → WorkerId → Option RunAt → Stand
with_run p k id run = record p { workers = slice_set p.workers k (record { id = id; run = run }) }

abbrev pub with_history : Stand → History → Stand
with_history p h = record p { history = h }

-- the place after this one, which stays at the greatest
abbrev pub next_place : ℕ → ℕ
next_place n = if nat_lt n (2 ^ 64 - 1) then n + 1 else n

abbrev pub wait_of : Called → Option Ticketed
wait_of (Began w) = Some w
wait_of c = None

abbrev pub after_call : Stand → ℕ → CallerAt → AfterCall → Stand
after_call p k at r =
    with_caller (with_history p r.history) k (record at { next = next_place at.next; wait = wait_of r.outcome })

-- a caller goes on to its next action
abbrev pub passed : Stand → ℕ → CallerAt → Stand
passed p k at = with_caller p k (record at { next = next_place at.next })

-- a caller's next action
unfoldable pub caller_acted : Stand → ℕ → CallerAt → Action → Stand
caller_acted p k at (action.Call c) = after_call p k at (called p.history (Caller at.id) c)
caller_acted p k at (action.Open gate) = passed (opened p gate) k at
caller_acted p k at (action.SleepAt gate) = passed p k at
caller_acted p k at (action.Lock lock) = passed (locked p (holders.Caller at.id) lock) k at
caller_acted p k at (action.Unlock lock) = passed (unlocked p (holders.Caller at.id) lock) k at

-- a caller ends its wait, or does its next action
unfoldable pub caller_moved : Stand → ℕ → CallerAt → Stand
caller_moved p k at =
    option_map_or (λ w. with_caller (with_history p (ended p.history (Caller at.id) w)) k (record at { wait = None }))
    at.wait (option_map_or (caller_acted p k at) (slice_get (script_at p k) at.next) p)

abbrev pub first_of : ItemId → RunAt
first_of item = record { item = item; next = 0; doing = Acts }

-- the run after its action
abbrev pub after_action : RunAt → RunAt
after_action run = record run { next = next_place run.next; doing = Acts }

abbrev pub went_on : Stand → ℕ → WorkerId → RunAt → Stand
went_on p k id run = with_run p k id (Some (after_action run))

-- a worker starts a run, if it would start one, and has none if not
unfoldable pub started : Stand → ℕ → WorkerId → Stand
started p k id =
    option_map_or
    (λ item. with_run (with_history p (stepped p.history (Worker id) call.Take)) k id (Some (first_of item)))
    (starts p.history id) (with_run p k id None)

-- a run ends: its worker is sent to the reserve, if it would be
abbrev pub rested : History → WorkerId → History
rested h id = if retires h id then stepped h (Worker id) call.Retire else h

unfoldable pub finished : Stand → ℕ → WorkerId → Stand
finished p k id = started (with_history p (rested (stepped p.history (Worker id) call.Finish) id)) k id

-- the last of those that may be lent
abbrev pub last_free : List ℕ → Option ℕ
last_free free = slice_get free (length free - 1)

abbrev pub with_room : Stand → WorkerId → Call → ℕ → Option ℕ
with_room p id c caller = if has_wait_room p.history id (record { 0 = caller }) c then Some caller else None

-- the caller by which a run waits, if its wait is not refused, one is left, and there is room for the wait
unfoldable pub lent_for : Stand → WorkerId → Call → Option ℕ
lent_for p id c =
    if may_wait p.history p.workers id c then option_and_then (with_room p id c) (last_free p.free) else None

-- After the call of its caller a run waits, and the caller is lent; or the run wakes.
abbrev pub after_begin : Stand → ℕ → WorkerId → RunAt → ℕ → History → Called → Stand
after_begin p k id run caller h (Began w) =
    with_run (record p { history = h; free = take (length p.free - 1) p.free }) k id
    (Some (record run { doing = Waits caller w }))
after_begin p k id run caller h c = went_on (with_history p (stepped h (Worker id) call.Wake)) k id run

abbrev pub after_sleep : Stand → ℕ → WorkerId → RunAt → ℕ → AfterCall → Stand
after_sleep p k id run caller r = after_begin p k id run caller r.history r.outcome

-- a run sleeps, and this caller makes the call
unfoldable pub begun_by : Stand → ℕ → WorkerId → RunAt → Call → ℕ → Stand
begun_by p k id run c caller =
    after_sleep p k id run caller
    (called (stepped p.history (Worker id) call.Sleep) (Caller (record { 0 = caller })) c)

-- a run waits, or goes on
unfoldable pub waited : Stand → ℕ → WorkerId → RunAt → Call → Stand
waited p k id run c = option_map_or (begun_by p k id run c) (lent_for p id c) (went_on p k id run)

-- the wait of a run ends: it wakes, and gives its caller back
unfoldable pub wait_ended : Stand → ℕ → WorkerId → RunAt → ℕ → Ticketed → Stand
wait_ended p k id run caller w =
    went_on (record p {
      history = stepped (ended p.history (Caller (record { 0 = caller })) w) (Worker id) call.Wake;
      free = p.free ++ caller ∷ [];
    }) k id run

-- a run sleeps, if there is room for it, and waits at a gate or a lock
abbrev pub slept_at : (Bool → Doing) → Stand → ℕ → WorkerId → RunAt → Stand
slept_at at p k id run =
    with_run (with_history p (stepped p.history (Worker id) call.Sleep)) k id
    (Some (record run { doing = at (is_some (replied p.history (Worker id) call.Sleep)) }))

-- it wakes, if it slept
abbrev pub woken : Stand → WorkerId → Bool → Stand
woken p id slept = if slept then with_history p (stepped p.history (Worker id) call.Wake) else p

-- a run takes a lock, or sleeps until it is free
abbrev pub lock_wanted : Stand → ℕ → WorkerId → RunAt → ℕ → Stand
lock_wanted p k id run lock =
    if is_free p lock then went_on (locked p (holders.Run run.item) lock) k id run else slept_at (AtLock lock) p k id
    run

unfoldable pub acted : Stand → ℕ → WorkerId → RunAt → Action → Stand
acted p k id run (action.Call c) =
    if is_workers c then went_on (with_history p (stepped p.history (Worker id) c)) k id run
    else waited p k id run c
acted p k id run (action.Open gate) = went_on (opened p gate) k id run
acted p k id run (action.SleepAt gate) = slept_at (AtGate gate) p k id run
acted p k id run (action.Lock lock) = lock_wanted p k id run lock
acted p k id run (action.Unlock lock) = went_on (unlocked p (holders.Run run.item) lock) k id run

-- what a run does next
abbrev pub did : Stand → ℕ → WorkerId → RunAt → Doing → Stand
did p k id run Acts = option_map_or (acted p k id run) (action_of p run) (finished p k id)
did p k id run (AtGate gate slept) = went_on (woken p id slept) k id run
did p k id run (AtLock lock slept) = went_on (woken (locked p (holders.Run run.item) lock) id slept) k id run
did p k id run (Waits caller w) = wait_ended p k id run caller w

unfoldable pub run_moved : Stand → ℕ → WorkerId → RunAt → Stand
run_moved p k id run = did p k id run run.doing

unfoldable pub worker_moved : Stand → ℕ → WorkerAt → Stand
worker_moved p k at = option_map_or (run_moved p k at.id) at.run (started p k at.id)

-- the stand after the move of one who may move
unfoldable pub moved : Stand → ℕ → Stand
moved p party =
    if nat_lt party (length p.callers) then option_map_or (caller_moved p party) (slice_get p.callers party) p
    else option_map_or (worker_moved p (party - length p.callers)) (slice_get p.workers (party - length p.callers)) p
