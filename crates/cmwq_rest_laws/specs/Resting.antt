-- What follows where all threads of a script sleep.
use Rattle.std.specs.Prelude.{◌≡◌, ◌⊎◌, ℕ, List, [], Some, Contains, slice_get}
use Rattle.cmwq_model.specs.declared.record.Ticket.{Ticket}
use Rattle.cmwq_dispatch.specs.Dispatched.{Dispatched}
use Rattle.cmwq_play.specs.Searches.{AllEnd, GetsStuck, IsSchedule, Rests, after}
use Rattle.cmwq_play.specs.Stands.{Stand, IsDone}
use Rattle.cmwq_play.specs.declared.place.CallerAt.{CallerAt}
use Rattle.cmwq_play.specs.declared.place.Doing.TheVariants.{Waits}
use Rattle.cmwq_play.specs.declared.place.RunAt.{RunAt}
use Rattle.cmwq_play.specs.declared.place.Ticketed.{Ticketed}
use Rattle.cmwq_play.specs.declared.place.WorkerAt.{WorkerAt}
use Rattle.cmwq_rest_laws.specs.Asleep.{AllSleep}

-- Where all sleep, nobody may move.
abbrev pub SleepersMayNotMove : Type 0
SleepersMayNotMove = (d : Dispatched) (p : Stand) → AllSleep d p → Rests p

-- If moves of a script lead to where all sleep, and something is left to do there, these moves get stuck.
abbrev pub SleepersAreStuck : Type 0
SleepersAreStuck = (start : Stand) (schedule : List ℕ) (d : Dispatched) → IsSchedule start schedule
    → AllSleep d (after start schedule) → (IsDone (after start schedule) → ⊥) → GetsStuck start schedule

-- If every schedule of a script ends, and moves of it lead to where all sleep, nothing is left to do there: all callers
-- have done their actions, no run is under way, and no active queueing is open.
abbrev pub SleepersAreDone : Type 0
SleepersAreDone = (n : ℕ) (start : Stand) (schedule : List ℕ) (d : Dispatched) → AllEnd n start
    → IsSchedule start schedule → AllSleep d (after start schedule) → IsDone (after start schedule)

-- ---- nobody is left asleep

-- A caller of the script waits for this ticket.
pub record CallerWaits (p : Stand) (t : Ticket) : Type 0 where
  pub place : ℕ
  pub caller : CallerAt
  pub wait : Ticketed
  pub stands : slice_get p.callers place ≡ Some caller
  pub waits : caller.wait ≡ Some wait
  pub is_own : caller.id ≡ t.caller
  pub is_it : wait.ticket ≡ t.number

-- A run waits for this ticket, by a caller that is lent to it.
pub record RunWaits (p : Stand) (t : Ticket) : Type 0 where
  pub place : ℕ
  pub worker : WorkerAt
  pub run : RunAt
  pub wait : Ticketed
  pub stands : slice_get p.workers place ≡ Some worker
  pub runs : worker.run ≡ Some run
  pub waits : run.doing ≡ Waits t.caller.0 wait
  pub is_it : wait.ticket ≡ t.number

-- Whoever sleeps in the hub is of the script: a caller of it, or one that is lent to a run.
abbrev pub SleepersAreOfScript : Dispatched → Stand → Type 0
SleepersAreOfScript d p = (t : Ticket) → Contains d.asleep.tickets t → CallerWaits p t ⊎ RunWaits p t

-- If every schedule of a script ends, and moves of it lead to where all sleep, no caller sleeps there at all.
abbrev pub NoCallerIsLeftAsleep : Type 0
NoCallerIsLeftAsleep = (n : ℕ) (start : Stand) (schedule : List ℕ) (d : Dispatched) → AllEnd n start
    → IsSchedule start schedule → AllSleep d (after start schedule)
    → SleepersAreOfScript d (after start schedule) → d.asleep.tickets ≡ []
