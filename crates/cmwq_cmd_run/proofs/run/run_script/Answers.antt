use Rattle.cmwq_cmd_run.specs.Common.{subst, sym}
use Rattle.cmwq_rt_scripts.specs.Followed.{AreFit}
use Rattle.cmwq_cmd_run.proofs.Following.{scripts_fit, scripts_of}
use Rattle.cmwq_cmd_run.proofs.run.run_script.Goals as goal

pub run_scripts_lending-requires-clause-fit : goal.run_scripts_lending-requires-clause-fit
run_scripts_lending-requires-clause-fit g c κs within =
    subst (λ callers. AreFit c.args.script.now.shape (scripts_of callers)) (sym c.requires.calls)
    (scripts_fit c.args.script.now c.requires.may)
