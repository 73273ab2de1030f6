-- What a history shows of a moment: the same items wait, are on the CPU's list and sleep, each of those in a worker of
-- its own.
use Rattle.std.specs.Prelude.{◌≡◌, ◌+◌, ◌≤◌, ◌||◌, ◌==◌, if◌then◌else◌, ◌∷◌}
use Rattle.cmwq_sim.specs.Common.{ℕ, Bool, true, false, List, [], length, map, filter, count_by, Option, Some, None}
use Rattle.cmwq_sim.specs.Common.{AllByRecursion, list_any, PoolId, WorkerId, Entry, Queueing, QueueShape, Layout}
use Rattle.cmwq_sim.specs.Common.{first_width, run, is_asleep, queueings, still_open, worklist, width, worker_at}
use Rattle.cmwq_sim.specs.Common.{is_retired, IsLegal, waits, HasFirstWidths}
use Rattle.cmwq_sim.specs.declared.scenario.SimQueue.{SimQueue}
use Rattle.cmwq_sim.specs.Plan.{Plan, Event, plan_queue}
use Rattle.cmwq_sim.specs.Lines.{Moment, Job, Sleeper, plan_items, is_job_held}

-- one CPU, a pool of eight workers, room for 1,000 entries
abbrev pub queue_shape : SimQueue → QueueShape
queue_shape q = record { max_active = q.max_active; high = false; intensive = q.intensive; freezable = false }

abbrev pub layout_for : Plan → Layout
layout_for s = record { cpus = 1; workers = 8; callers = 1; items = 8; room = 1000; queues = map queue_shape s.queues }

abbrev pub pool : PoolId
pool = record { cpu = record { 0 = 0 }; high = false }

abbrev pub plan_worker : ℕ → WorkerId
plan_worker x = worker_at pool x

-- items are queued one after the other at first, so the number of each is its own
abbrev pub queueing_for : Plan → ℕ → Queueing
queueing_for s i =
    record {
      item = record { 0 = i };
      place = record { queue = record { 0 = plan_queue s i }; cpu = record { 0 = 0 } };
      number = i;
    }

-- the worker with this index runs the item, and that sleeps or not
pub record IsRunAt (past : List Entry) (x i : ℕ) (asleep : Bool) : Type 0 where
  pub runs : run past (plan_worker x) ≡ Some i
  pub sleeps : is_asleep past (plan_worker x) ≡ asleep

abbrev pub is_job : ℕ → Job → Bool
is_job i j = j.item == i

abbrev pub is_sleeper : ℕ → Sleeper → Bool
is_sleeper i x = x.item == i

abbrev pub runs_in : Moment → ℕ → Bool
runs_in m i = list_any (is_job i) m.cpu || list_any (is_sleeper i) m.sleeping

abbrev pub times : Moment → ℕ → ℕ
times m i =
    count_by (λ j. j == i) m.ready + count_by (λ j. j == i) m.behind + count_by (is_job i) m.cpu + count_by
    (is_sleeper i) m.sleeping

-- slot gives the worker of each item
pub record Shows (s : Plan) (past : List Entry) (m : Moment) (slot : ℕ → ℕ) : Type 0 where
  pub legal : IsLegal (layout_for s) past
  pub kept : AllByRecursion (λ e. is_retired e.reply ≡ false) past
  pub queued : queueings past ≡ map (queueing_for s) (plan_items s)
  pub ready : worklist (layout_for s) past pool ≡ map (queueing_for s) m.ready
  pub behind : filter (waits (layout_for s) past) (still_open past) ≡ map (queueing_for s) m.behind
  pub cpu : AllByRecursion (λ j. IsRunAt past (slot j.item) j.item false) m.cpu
  pub sleeping : AllByRecursion (λ x. IsRunAt past (slot x.item) x.item true) m.sleeping
  pub no_others : (w : WorkerId) (n : ℕ) → run past w ≡ Some n → (w ≡ plan_worker (slot n)) × (runs_in m n ≡ true)
  pub once : (i : ℕ) → times m i ≤ 1
  pub widths : HasFirstWidths (layout_for s) past
  pub wide : (q : ℕ) → width (layout_for s) past q ≡ first_width (layout_for s) q
  pub few : length m.ready + length m.behind + length m.cpu + length m.sleeping ≤ 8

-- what may start next
abbrev pub next_of : List ℕ → Option ℕ
next_of [] = None
next_of (i ∷ ready) = Some i

abbrev pub to_start : Plan → Moment → Option ℕ
to_start s m = if list_any (is_job_held s) m.cpu then None else next_of m.ready

-- What waits is determined by the history: the moment at which these are on the CPU's list and asleep, and these lines
-- have been told.
abbrev pub queueing_number : Queueing → ℕ
queueing_number x = x.number

abbrev pub moment_of : Plan → List Entry → List Job → List Sleeper → List Event → Moment
moment_of s past cpu sleeping lines = record {
  ready = map queueing_number (worklist (layout_for s) past pool);
  behind = map queueing_number (filter (waits (layout_for s) past) (still_open past));
  cpu = cpu;
  sleeping = sleeping;
  lines = lines;
}
