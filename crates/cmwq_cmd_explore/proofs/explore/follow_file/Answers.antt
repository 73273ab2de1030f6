use Rattle.cmwq_json_script.specs.Scripts.{run_of}
use Rattle.cmwq_play.specs.Starts.{first_stand}
use Rattle.cmwq_cmd_explore.specs.Verdicts.{SaysHistory}
use Rattle.cmwq_cmd_explore.proofs.Explored.{explored}
use Rattle.cmwq_cmd_explore.proofs.explore.follow_file.Goals as goal

pub returns : goal.returns
returns g c =
    explored (run_of c.in_ok-script.script) _ _
    (λ v r. SaysHistory (first_stand r) c.args.file.now.entries.items v) c.in_ok-script.ensures
    c.explore_history-verdict.ensures
