-- What is said of the script that was read, and what verdicts say.
use Rattle.std.proofs.Common.{ℕ, ◌≡◌, List, Option, Some, None, Result, Ok, Err, refl, subst, sym}
use Rattle.std.specs.Prelude.{IfSome, IfOk}
use Rattle.serde_json.specs.Data.{Data}
use Rattle.cmwq_json.specs.Inputs.{IsJson}
use Rattle.cmwq_json.specs.declared.fault.Fault.{Fault}
use Rattle.cmwq_json_script.specs.Runs.{Run, run_said}
use Rattle.cmwq_json_script.specs.Scripts.{run_of}
use Rattle.cmwq_json_script.specs.declared.script.Script.{Script}
use Rattle.cmwq_cmd_explore.specs.declared.verdict.Verdict.{Verdict}
use Rattle.cmwq_base.specs.Kinds.{history_file_of}
use Rattle.cmwq_base.specs.Views.{file_of_history}
use Rattle.cmwq_base.specs.declared.files.HistoryFile.{HistoryFile}
use Rattle.cmwq_play.specs.Starts.{first_stand}
use Rattle.cmwq_cmd_explore.specs.Verdicts.{OfRun, SaysHistory, SaysOfHistory, status_of}

-- what holds of the run of the script that was read
of_run : (d : Data) (r : Run) (left : Option (List ℕ)) (P : Run → Type 0) → run_said d ≡ Ok r
    → IfSome left (λ text. IsJson text d) → P r → IfSome left (OfRun P)
of_run d r None P said read holds = tt
of_run d r (Some text) P said read holds = (r, (d, read, said), holds)

-- so of the script that was read
pub read_run : (d : Data) (left : Option (List ℕ)) (read : Result Script Fault) → IfSome left (λ text. IsJson text d)
    → IfOk read (λ s. run_said d ≡ Ok (run_of s)) → IfOk read (λ s. IfSome left (OfRun (λ r. r ≡ run_of s)))
read_run d left (Ok s) json said = of_run d (run_of s) left (λ r. r ≡ run_of s) said json refl
read_run d left (Err f) json said = tt

-- and so of the verdict on it
pub explored : (r : Run) (left : Option (List ℕ)) (told : Result Verdict Fault) (P : Verdict → Run → Type 0)
    → IfSome left (OfRun (λ s. s ≡ r)) → IfOk told (λ v. P v r) → IfOk told (λ v. IfSome left (OfRun (P v)))
explored r left (Err f) P read holds = tt
explored r None (Ok v) P read holds = tt
explored r (Some text) (Ok v) P read holds = (read.0, read.1, subst (P v) (sym read.2) holds)

-- and what its exit status says
pub told_of : (left : Option (List ℕ)) (P : Verdict → Run → Type 0) (v : Verdict) (status : ℕ) → status ≡ status_of v
    → IfSome left (OfRun (P v))
    → IfSome left (OfRun (λ r. (verdict : Verdict) × (status_of verdict ≡ status) × P verdict r))
told_of None P v status is told = tt
told_of (Some text) P v status is told = (told.0, told.1, (v, sym is, told.2))

-- of a history too
pub told_of_history : (input left : Option (List ℕ)) (file : HistoryFile) (v : Verdict) (status : ℕ)
    → status ≡ status_of v → IfSome left (λ text. history_file_of text ≡ Ok (file_of_history file))
    → IfSome input (OfRun (λ r. SaysHistory (first_stand r) file.entries.items v))
    → IfSome input (λ script. IfSome left (λ text. OfRun (SaysOfHistory status text) script))
told_of_history None left file v status is read told = tt
told_of_history (Some script) None file v status is read told = tt
told_of_history (Some script) (Some text) file v status is read told =
    (told.0, told.1, (v, sym is, file_of_history file, read, told.2))
