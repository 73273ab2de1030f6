use Rattle.cmwq_rt_scripts.proofs.Leaving.{if_ok, lists_fit, silent_of}
use Rattle.cmwq_rt_scripts.proofs.run.run_scripts.Goals as goal

pub returns-clause-legal : goal.returns-clause-legal
returns-clause-legal g c = if_ok _ _ c.run_scripts_lending.result (λ r x. x.legal) c.run_scripts_lending.ensures.left

pub returns-clause-follow : goal.returns-clause-follow
returns-clause-follow g c = if_ok _ _ c.run_scripts_lending.result (λ r x. x.follow) c.run_scripts_lending.ensures.left

pub returns-clause-worked : goal.returns-clause-worked
returns-clause-worked g c = if_ok _ _ c.run_scripts_lending.result (λ r x. x.worked) c.run_scripts_lending.ensures.left

pub returns-clause-silent : goal.returns-clause-silent
returns-clause-silent g c =
    if_ok _ _ c.run_scripts_lending.result
    (λ r x. silent_of c.args.shape.now c.args.scripts.now r.history.items x.silent) c.run_scripts_lending.ensures.left

pub returns-clause-finished : goal.returns-clause-finished
returns-clause-finished g c =
    if_ok _ _ c.run_scripts_lending.result (λ r x. x.finished) c.run_scripts_lending.ensures.left

pub run_scripts_lending-requires-clause-fit : goal.run_scripts_lending-requires-clause-fit
run_scripts_lending-requires-clause-fit g c κs within = lists_fit c.args.shape.now c.args.scripts.now c.requires.few c.requires.calls
