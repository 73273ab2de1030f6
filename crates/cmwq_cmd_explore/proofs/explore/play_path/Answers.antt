use Rattle.cmwq_json_script.specs.Scripts.{run_of}
use Rattle.cmwq_play.specs.Starts.{first_stand}
use Rattle.cmwq_cmd_explore.specs.Verdicts.{SaysPath}
use Rattle.cmwq_cmd_explore.proofs.Explored.{explored}
use Rattle.cmwq_cmd_explore.proofs.explore.play_path.Goals as goal

pub returns : goal.returns
returns g c =
    let old = g.O.Sink.written c.args.output.now in
    let new = g.O.Sink.written c.explore_path-verdict.new.output in
    explored (run_of c.in_ok-script.script) _ _ (λ v r. SaysPath (first_stand r) r.version old new v)
    c.in_ok-script.ensures c.explore_path-verdict.ensures
