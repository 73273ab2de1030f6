-- A schedule that ends leaves a history that a run may leave.
use Rattle.std.proofs.Common.{◌≡◌, ◌∷◌, ℕ, true, List, []}
use Rattle.cmwq_model.specs.Prelude.{is_layout}
use Rattle.cmwq_json_script.specs.Runs.{Run}
use Rattle.cmwq_json_script.specs.Scripts.{MayRun, run_of}
use Rattle.cmwq_json_script.specs.declared.script.Script.{Script}
use Rattle.cmwq_play.specs.Searches.{IsSchedule, after}
use Rattle.cmwq_play.specs.Stands.{Stand, moved}
use Rattle.cmwq_play.specs.Starts.{first_stand}
use Rattle.cmwq_schedule_laws.specs.Leaving.{SchedulesLeave, SchedulesLeaveHistories}
use Rattle.cmwq_schedule_laws.proofs.Accounts.{IsPlayable, Stands}
use Rattle.cmwq_schedule_laws.proofs.Beginning.{first_stands}
use Rattle.cmwq_schedule_laws.proofs.Ending.{may_leave}
use Rattle.cmwq_schedule_laws.proofs.Limits.{playable, script_playable}
use Rattle.cmwq_schedule_laws.proofs.Playing.{move_stands}

-- each move leads to where the play stands
schedule_stands : (r : Run) (p : Stand) (schedule : List ℕ) → IsPlayable r → Stands r p → IsSchedule p schedule
    → Stands r (after p schedule)
schedule_stands r p [] ok st goes = st
schedule_stands r p (party ∷ more) ok st (may, goes) =
    schedule_stands r (moved p party) more ok (move_stands r p party ok st may) goes

leave_if_playable : (r : Run) → IsPlayable r → SchedulesLeave r
leave_if_playable r ok schedule goes done =
    may_leave r ok (after (first_stand r) schedule)
    (schedule_stands r (first_stand r) schedule ok (first_stands r ok) goes) done

pub schedules_leave : SchedulesLeaveHistories
schedules_leave r within = leave_if_playable r (playable r within)

pub scripts_leave : (s : Script) → is_layout s.shape ≡ true → MayRun s → SchedulesLeave (run_of s)
scripts_leave s allowed may = leave_if_playable (run_of s) (script_playable s allowed may)
