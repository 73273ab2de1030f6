-- What the calls of a board make of it and of the numbers that C reads.
use Rattle.cmwq_c.specs.Common.{Who, Caller, Worker, Call, Reply, Entry, Layout}
use Rattle.std.specs.Prelude.{◌≡◌, ℕ, Option, None, Some, IfSome, List, Ok}
use Rattle.cmwq_model.specs.declared.id.WorkerId.{WorkerId}
use Rattle.cmwq_dispatch.specs.Asleep.{NobodySleeps}
use Rattle.cmwq_dispatch.specs.Naming.{NamesAll, NamesNobody}
use Rattle.cmwq_dispatch.specs.declared.wakes.Wakes.{Wakes}
use Rattle.cmwq_board.specs.Boarded.{Boarded, failed, is_new_board, stopped, with_asleep}
use Rattle.cmwq_board.specs.Items.{IsDue}
use Rattle.cmwq_board.specs.Machine.{GoesOn, Moves, RisesFirst, StartNamed}
use Rattle.cmwq_board.specs.Machine.Move.{Calls as CallMove, Finishes as FinishMove, Leaves as LeaveMove}
use Rattle.cmwq_board.specs.Machine.Move.{Advances as AdvanceMove, Starts as StartMove}
use Rattle.cmwq_board.specs.Waits.{Begins, EndsOrWaits, WaitsNoMore}
use Rattle.cmwq_board.specs.declared.board.Begun.{Begun}
use Rattle.cmwq_board.specs.declared.board.Ended.{Ended}
use Rattle.cmwq_board.specs.declared.board.Finish.{Finish}
use Rattle.cmwq_board.specs.declared.board.Start.{Start}
use Rattle.cmwq_c.specs.BoardStatuses.{caller_of, run_of}
use Rattle.cmwq_c.specs.Numbers.{reply_numbers}
use Rattle.cmwq_c.specs.Wakes.{wakes_numbers}
use Rattle.cmwq_c.specs.declared.numbers.ReplyNumbers.{ReplyNumbers}
use Rattle.cmwq_c.specs.declared.numbers.WakesNumbers.{WakesNumbers}

-- Nobody is named at first, and whoever is named after the step is told.
pub record Tells (Step : Wakes → Wakes → Type 0) (told : WakesNumbers) : Type 0 where
  pub before : Wakes
  pub after : Wakes
  pub nobody : NamesNobody before
  pub step : Step before after
  pub numbers : told ≡ wakes_numbers after.named

-- a new board, in which nobody sleeps
abbrev pub IsNewBoard : Layout → ℕ → ℕ → Boarded → Type 0
IsNewBoard s kept lent b = (b ≡ is_new_board s kept lent b.dispatch.asleep) × NobodySleeps b.dispatch.asleep

-- one call is made, with this reply
abbrev pub Calls : Option (Who × Call) → Boarded → Boarded → ReplyNumbers → WakesNumbers → Type 0
Calls asked old new reply told =
    IfSome asked
    (λ a. (r : Reply) × Moves (CallMove a.0 a.1) (Ok r) old new × Tells (GoesOn a.0 old new) told
    × (reply ≡ reply_numbers r))

-- the worker starts something, rests or is over
abbrev pub StartsAs : Option WorkerId → Start → Boarded → Boarded → WakesNumbers → Type 0
StartsAs worker start old new told =
    IfSome worker
    (λ w. Moves (StartMove w) (Ok start) old new × Tells (StartNamed (Ok start) w old new) told)

-- the worker's run ends
abbrev pub Ends : Option WorkerId → Boarded → Boarded → WakesNumbers → Type 0
Ends worker old new told =
    IfSome worker
    (λ w. (f : Finish) × Moves (FinishMove w) (Ok f) old new × Tells (GoesOn (Worker w) old new) told)

-- a wait begins: it has ended with this reply, or goes on by this lent caller
abbrev pub BeginsAs : Option (Who × Call) → Begun → Boarded → Boarded → WakesNumbers → Type 0
BeginsAs asked answer old new told = IfSome asked (λ a. Tells (Begins (run_of a.0) a.1 answer old new) told)

-- the wait by this party has ended, or not
abbrev pub EndsAs : ℕ → Ended → Boarded → Boarded → WakesNumbers → Type 0
EndsAs party answer old new told = Tells (EndsOrWaits (caller_of party) answer old new) told

-- nobody waits by this party any more, and a run that did may begin another wait
abbrev pub LeavesBy : ℕ → Boarded → Boarded → WakesNumbers → Type 0
LeavesBy party old new told =
    Moves (LeaveMove (caller_of party)) (Ok tt) old new × WaitsNoMore (caller_of party) old new
    × Tells (RisesFirst (caller_of party) old new) told

-- so many ticks go by, and then it is this tick
abbrev pub AdvancesTo : ℕ → ℕ → Boarded → Boarded → ℕ → WakesNumbers → Type 0
AdvancesTo caller ticks old new now told =
    Moves (AdvanceMove (caller_of caller) ticks) (Ok now) old new
    × Tells (GoesOn (Caller (caller_of caller)) old new) told

-- nobody sleeps any more, and everybody is named
abbrev pub Rouses : Boarded → Boarded → Wakes → Wakes → Type 0
Rouses awake new before after =
    (new ≡ with_asleep awake new.dispatch.asleep) × NobodySleeps new.dispatch.asleep × NamesAll after

abbrev pub Stops : Boarded → Boarded → WakesNumbers → Type 0
Stops old new told = Tells (Rouses (stopped old) new) told

abbrev pub Fails : Boarded → Boarded → WakesNumbers → Type 0
Fails old new told = Tells (Rouses (failed old) new) told

-- the number of the least tick at which a timer may fire, and the greatest number where there is none
abbrev pub due_number : Option ℕ → ℕ
due_number None = 18446744073709551615
due_number (Some due) = due

abbrev pub IsDueNumber : List Entry → ℕ → ℕ → Type 0
IsDueNumber past items number = (due : Option ℕ) × IsDue past items due × (number ≡ due_number due)
