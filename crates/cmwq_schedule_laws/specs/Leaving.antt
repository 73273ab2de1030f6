-- What a schedule of a script leaves is what threads that run the script may leave.
use Rattle.std.specs.Prelude.{◌≡◌, ℕ, List}
use Rattle.cmwq_model.specs.declared.entry.Entry.{Entry}
use Rattle.cmwq_json_script.specs.Runs.{Run}
use Rattle.cmwq_json_script.specs.Scripts.{IsRunWithin}
use Rattle.cmwq_play.specs.Searches.{IsSchedule, after}
use Rattle.cmwq_play.specs.Stands.{IsDone}
use Rattle.cmwq_play.specs.Starts.{first_stand}
use Rattle.cmwq_rt.specs.declared.left_out.LeftOut.{LeftOut}
use Rattle.cmwq_cmd_run.specs.Run.{RunLeaves}

-- A run of the script may leave this history, with so many calls and waits left out.
abbrev pub MayLeave : Run → List Entry → Type 0
MayLeave r history = (full : ℕ) × (l : LeftOut) × RunLeaves r full l history

-- If all parties may make their moves, each in its turn, and nothing is left to do then, the history is such a one.
abbrev pub SchedulesLeave : Run → Type 0
SchedulesLeave r = (schedule : List ℕ) → IsSchedule (first_stand r) schedule
    → IsDone (after (first_stand r) schedule) → MayLeave r (after (first_stand r) schedule).history.entries

-- That holds for each script inside the limits of the reader.
abbrev pub SchedulesLeaveHistories : Type 0
SchedulesLeaveHistories = (r : Run) → IsRunWithin r → SchedulesLeave r

-- A history tells how many calls of callers were left out: of two such numbers both are the same.
abbrev pub CallsLeftOutAreTold : Type 0
CallsLeftOutAreTold = (r : Run) → IsRunWithin r → (n m : ℕ) (l k : LeftOut) (history : List Entry)
    → RunLeaves r n l history → RunLeaves r m k history → n ≡ m
