use Rattle.cmwq_json_script.specs.Scripts.{run_of}
use Rattle.cmwq_cmd_explore.specs.Verdicts.{Tells}
use Rattle.cmwq_cmd_explore.proofs.Explored.{explored}
use Rattle.cmwq_cmd_explore.proofs.explore.explore.Goals as goal

pub returns : goal.returns
returns g c =
    let old = g.O.Sink.written c.args.output.now in
    let new = g.O.Sink.written c.explore_script-verdict.new.output in
    explored (run_of c.in_ok-script.script) _ _ (λ v r. Tells c.args.task r old new v) c.in_ok-script.ensures
    c.explore_script-verdict.ensures
