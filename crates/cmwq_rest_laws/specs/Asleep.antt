-- Where all threads of a script sleep, as a hub knows it and as the script sees it.
use Rattle.std.specs.Prelude.{◌≡◌, ℕ, true, false, Some, None, Contains, IfSome, MatchOption, slice_get}
use Rattle.cmwq_model.specs.Prelude.{IsLegal}
use Rattle.cmwq_model.specs.declared.record.Ticket.{Ticket}
use Rattle.cmwq_json_script.specs.declared.action.Action.{Action}
use Rattle.cmwq_json_script.specs.declared.action.Action.TheVariants as action
use Rattle.cmwq_core.specs.History.{past_in}
use Rattle.cmwq_dispatch.specs.Dispatched.{Dispatched, IdleWorkersRest, Stands, past_now}
use Rattle.cmwq_play.specs.Stands.{Stand, script_at}
use Rattle.cmwq_play.specs.declared.place.CallerAt.{CallerAt}
use Rattle.cmwq_play.specs.declared.place.Doing.{Doing}
use Rattle.cmwq_play.specs.declared.place.Doing.TheVariants.{Acts, AtGate, AtLock, Waits}
use Rattle.cmwq_play.specs.declared.place.WorkerAt.{WorkerAt}

-- ---- what the hub knows

-- The caller sleeps for its ticket with this number. The dispatch has it registered, and has not named it since.
pub record SleepsFor (d : Dispatched) (caller number : ℕ) : Type 0 where
  pub ticket : Ticket
  pub registered : Contains d.asleep.tickets ticket
  pub of_caller : ticket.caller.0 ≡ caller
  pub of_number : ticket.number ≡ number

-- ---- where the script stands

abbrev pub IsShut : Stand → ℕ → Type 0
IsShut p gate = slice_get p.gates gate ≡ Some true → ⊥

abbrev pub IsHeld : Stand → ℕ → Type 0
IsHeld p lock = slice_get p.locks lock ≡ Some None → ⊥

-- An action blocks its caller if it is to pass a gate that is shut, or to take a lock that is held.
abbrev pub Blocks : Stand → Action → Type 0
Blocks p (action.SleepAt gate) = IsShut p gate
Blocks p (action.Lock lock) = IsHeld p lock
Blocks p a = ⊥

-- A caller sleeps for the ticket for which it waits. One that waits for no ticket has ended, with all its actions done,
-- or its next action blocks it: then it waits in the program, and not in the hub.
abbrev pub CallerSleeps : Dispatched → Stand → ℕ → CallerAt → Type 0
CallerSleeps d p k at =
    MatchOption at.wait (IfSome (slice_get (script_at p k) at.next) (Blocks p))
    (λ wait. SleepsFor d at.id.0 wait.ticket)

-- A run sleeps at a gate that is shut or at a lock that is held, or the caller that is lent to it sleeps for the ticket
-- for which the run waits. One that is about to act does not sleep.
abbrev pub RunSleeps : Dispatched → Stand → Doing → Type 0
RunSleeps d p Acts = ⊥
RunSleeps d p (AtGate gate slept) = IsShut p gate
RunSleeps d p (AtLock lock slept) = IsHeld p lock
RunSleeps d p (Waits caller wait) = SleepsFor d caller wait.ticket

-- Of a worker without a run nothing is asked here: that it rests if it is idle is what the hub knows.
abbrev pub WorkerSleeps : Dispatched → Stand → WorkerAt → Type 0
WorkerSleeps d p at = IfSome at.run (λ run. RunSleeps d p run.doing)

-- ---- all sleep

-- What every dispatch has: a legal history, and that it stands. It has not failed, its idle workers rest, and its
-- history is that of the stand. All callers of the script sleep or have ended, and all runs sleep.
pub record AllSleep (d : Dispatched) (p : Stand) : Type 0 where
  pub legal : IsLegal d.history.layout (past_now d)
  pub stands : Stands d
  pub lives : d.failed ≡ false
  pub idle : IdleWorkersRest d
  pub layout : p.history.layout ≡ d.history.layout
  pub past : past_in p.history ≡ past_now d
  pub callers : (k : ℕ) (at : CallerAt) → slice_get p.callers k ≡ Some at → CallerSleeps d p k at
  pub workers : (k : ℕ) (at : WorkerAt) → slice_get p.workers k ≡ Some at → WorkerSleeps d p at
