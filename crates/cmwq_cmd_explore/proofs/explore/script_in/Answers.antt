use Rattle.cmwq_cmd_explore.proofs.Explored.{read_run}
use Rattle.cmwq_cmd_explore.proofs.explore.script_in.Goals as goal

pub returns : goal.returns
returns g c =
    read_run _ _ c.script_of-script.result c.in_ok-value.ensures.value c.script_of-script.ensures
