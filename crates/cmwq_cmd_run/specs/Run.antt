-- What `run` reads, writes and answers.
use Rattle.std.specs.Prelude.{◌≡◌, ◌⊎◌, ◌+◌, ◌<◌, ◌==◌, if◌then◌else◌}
use Rattle.cmwq_cmd_run.specs.Common.{ℕ, zero, suc, IfSome, List, length, map, Result, Ok, Err}
use Rattle.cmwq_cmd_run.specs.Common.{Option, Some, slice_get, MatchOption, Keeps, Appends, IsLegal, past_of, Says}
use Rattle.cmwq_cmd_run.specs.Common.{IsNoJson, IsLong, LeftOut, RunFault, Run, run_said, Call, calls_in}
use Rattle.cmwq_io.specs.Moves.{AppendsFront}
use Rattle.cmwq_model.specs.declared.entry.Entry.{Entry}
use Rattle.cmwq_text.specs.HistoryText.{text_of_format}
use Rattle.cmwq_json.specs.declared.fault.Fault.TheVariants as fault
use Rattle.cmwq_json.specs.Statuses.{fault_status}
use Rattle.cmwq_monitor.specs.declared.fault.RunFault.TheVariants as run_fault
use Rattle.cmwq_rt_scripts.specs.Ended.{FailsAs, IsLeft}
use Rattle.cmwq_cmd_run.specs.Interpreted.{plays}
use Rattle.cmwq_cmd_run.specs.declared.failure.Failure.{Failure}
use Rattle.cmwq_cmd_run.specs.declared.refusals.RefusedWaits.{RefusedWaits}
use Rattle.cmwq_cmd_run.specs.declared.run.Done.{Done}
use Rattle.cmwq_cmd_run.specs.declared.failure.Failure.TheVariants as failure
use Rattle.cmwq_cmd_run.specs.declared.lock_fault.HolderName.{HolderName}
use Rattle.cmwq_cmd_run.specs.declared.lock_fault.HolderName.TheVariants as holder
use Rattle.cmwq_cmd_run.specs.declared.lock_fault.LockFault.{LockFault}
use Rattle.cmwq_cmd_run.specs.declared.lock_fault.LockFault.TheVariants as lock_fault

-- the calls of each caller
abbrev pub calls_of : Run → List (List Call)
calls_of r = map calls_in r.callers

-- A history that the run may leave: it is legal, each caller's entries follow its calls but for so many in all that had
-- no room, those of each caller that is lent are of whole waits of runs, each worker's are runs in which items
-- did their actions but for so many waits in all, nobody else has any, and nothing active is left behind.
abbrev pub RunLeaves : Run → ℕ → LeftOut → List Entry → Type 0
RunLeaves r full l history = IsLeft r.layout (plays r.does r.layout) (calls_of r) r.waits full l history

-- its text, in the format of the run
abbrev pub text_of : Run → List Entry → List ℕ
text_of r history = text_of_format r.version r.layout history

-- ---- what a run writes

-- such a history, whole
abbrev pub Writes : Run → ℕ → LeftOut → Option (List ℕ) → Option (List ℕ) → Type 0
Writes r full l old new = (history : List Entry) × RunLeaves r full l history × Appends old new (text_of r history)

-- a front of it
abbrev pub RunWritesFront : Run → Option (List ℕ) → Option (List ℕ) → Type 0
RunWritesFront r old new = (full : ℕ) × (l : LeftOut) × (history : List Entry) × RunLeaves r full l history
    × AppendsFront old new (text_of r history)

-- Where it breaks off: nothing; but with a journal, which writes as it goes, a front of a legal history, which it need
-- not leave.
abbrev pub RunBreaksOff : Run → Option (List ℕ) → Option (List ℕ) → Type 0
RunBreaksOff r old new =
    MatchOption r.journal (Keeps old new) (λ kept. (history : List Entry) × IsLegal r.layout (past_of history)
    × AppendsFront old new (text_of r history))

-- ---- what is told of a run

-- what a fault of the hub is told as
abbrev pub failed_run : RunFault → Failure
failed_run (run_fault.NoMemory t) = failure.Input fault.NoMemory
failed_run run_fault.Full = failure.Run 2
failed_run run_fault.Unfinished = failure.Run 3
failed_run run_fault.NoPlace = failure.Run 4
failed_run run_fault.Closed = failure.Run 5
failed_run (run_fault.Stranger own book) = failure.Run 6
failed_run run_fault.NoThread = failure.Run 7

-- it is what a fault is told as by which the run's scripts failed
abbrev pub FailsOf : Run → Failure → Type 0
FailsOf r told = (f : RunFault) × (failed_run f ≡ told) × FailsAs r.layout (calls_of r) r.waits f

-- one of these is the name
abbrev pub IsNamed : List (List ℕ) → List ℕ → Type 0
IsNamed gates name = (k : ℕ) × (slice_get gates k ≡ Some name)

-- a caller of the run, or the name of one of its items
abbrev pub IsHolder : Run → HolderName → Type 0
IsHolder r (holder.Caller c) = c.0 < length r.callers
IsHolder r (holder.Item name) = IsNamed r.names name.bytes

-- what is told of one of the run's locks, and of who did it
abbrev pub IsLockFault : Run → LockFault → Type 0
IsLockFault r (lock_fault.Missed lock) = IsNamed r.locks lock.bytes
IsLockFault r (lock_fault.Misused lock by) = IsNamed r.locks lock.bytes × IsHolder r by
IsLockFault r (lock_fault.Held lock by) = IsNamed r.locks lock.bytes × IsHolder r by

-- a failure between the callers and the items of a run in which so many calls were left out
abbrev pub IsBetween : Run → ℕ → Failure → Type 0
IsBetween r full (failure.Gate name n) = IsNamed r.gates name.bytes × (n ≡ full)
IsBetween r full (failure.Lock f) = IsLockFault r f
IsBetween r full f = ⊥

-- The run came to its end, and left a history.
abbrev pub HasLeft : Run → ℕ → Type 0
HasLeft r full = (l : LeftOut) × (history : List Entry) × RunLeaves r full l history

-- a failure but of writing; of a gate with how many calls were left out
abbrev pub FailsOn : Run → Failure → Type 0
FailsOn r (failure.Input fault.NoMemory) = Unit {0}
FailsOn r (failure.Input f) = ⊥
FailsOn r (failure.Run n) = FailsOf r (failure.Run n)
FailsOn r (failure.Gate name full) = IsNamed r.gates name.bytes × HasLeft r full
FailsOn r (failure.Lock f) = IsLockFault r f × ((full : ℕ) × HasLeft r full)

-- how many waits are told of: those that had no room if there are any, and else those that were refused
abbrev pub told_count : LeftOut → ℕ
told_count l = if l.without_room == 0 then l.refused else l.without_room

-- the item whose wait is told is one of the run's, and so many more were left out for such a reason
abbrev pub IsOf : Run → LeftOut → RefusedWaits → Type 0
IsOf r l waits = IsNamed r.names waits.item.bytes × (waits.more + 1 ≡ told_count l)

-- What is written of a run that came to its end and is told to have failed: nothing, but what a journal has written,
-- which is the whole history.
abbrev pub WritesIfJournaled : Run → ℕ → Option (List ℕ) → Option (List ℕ) → Type 0
WritesIfJournaled r full old new =
    MatchOption r.journal (Keeps old new) (λ kept. (l : LeftOut) × Writes r full l old new)

-- How the run of a script ends: it writes a history, or a failure stopped it. A gate or a lock is told of a run that
-- came to its end.
abbrev pub ScriptEnds : Run → Option (List ℕ) → Option (List ℕ) → Result Done Failure → Type 0
ScriptEnds r old new (Ok done) = Writes r done.full done.left_out old new × IfSome done.told (IsOf r done.left_out)
ScriptEnds r old new (Err (failure.Input fault.WriteFault)) =
    MatchOption r.journal (RunWritesFront r old new) (λ kept. RunBreaksOff r old new)
ScriptEnds r old new (Err (failure.Gate name full)) =
    FailsOn r (failure.Gate name full) × WritesIfJournaled r full old new
ScriptEnds r old new (Err (failure.Lock f)) =
    FailsOn r (failure.Lock f) × ((full : ℕ) × WritesIfJournaled r full old new)
ScriptEnds r old new (Err f) = FailsOn r f × RunBreaksOff r old new

-- the text says a script, whose run ends so
abbrev pub Runs : List ℕ → Option (List ℕ) → Option (List ℕ) → Result Done Failure → Type 0
Runs text old new ended = (r : Run) × Says run_said text (Ok r) × ScriptEnds r old new ended

-- Nothing is written but by the run of a script.
abbrev pub InputEnds : List ℕ → Option (List ℕ) → Option (List ℕ) → Result Done Failure → Type 0
InputEnds text old new (Err (failure.Input (fault.Member r))) = Says run_said text (Err r) × Keeps old new
InputEnds text old new (Err (failure.Input fault.NotJson)) = IsNoJson text × Keeps old new
InputEnds text old new (Err (failure.Input fault.TooLong)) = IsLong text × Keeps old new
InputEnds text old new (Err (failure.Input fault.ReadFault)) = Keeps old new
InputEnds text old new (Err (failure.Input fault.NoMemory)) =
    Keeps old new ⊎ Runs text old new (Err (failure.Input fault.NoMemory))
InputEnds text old new ended = Runs text old new ended

-- the exit status: 0 done, 1 refused input, a gate that was not opened or a fault of a lock, 4 no memory, or calls or
-- waits that had no room, 5 a fault of reading, writing or running, 6 waits that were refused
abbrev pub failure_status : Failure → ℕ
failure_status (failure.Input f) = fault_status f
failure_status (failure.Run n) = 5
failure_status (failure.Gate name full) = 1
failure_status (failure.Lock f) = 1

-- of so many calls and waits that had no room, and so many waits that were refused
abbrev pub left_out_status : ℕ → ℕ → ℕ
left_out_status zero zero = 0
left_out_status zero (suc refused) = 6
left_out_status (suc without_room) refused = 4

abbrev pub done_status : Done → ℕ
done_status done = left_out_status (done.full + done.left_out.without_room) done.left_out.refused

abbrev pub run_status : Result Done Failure → ℕ
run_status (Ok done) = done_status done
run_status (Err f) = failure_status f
