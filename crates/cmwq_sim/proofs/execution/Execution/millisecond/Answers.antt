use Rattle.cmwq_sim.specs.Plan.{plan_of}
use Rattle.cmwq_sim.proofs.Executions.{still_burning, all_phases}
use Rattle.cmwq_sim.proofs.execution.Execution.millisecond.Goals as goal

pub burn-requires-clause-burns : goal.burn-requires-clause-burns
burn-requires-clause-burns c =
    still_burning (plan_of c.args.scenario.now) c.args.at c.args.self.now c.serve.new.self c.wake.new.self
    c.start.new.self c.requires.stands.limits c.requires.after c.in_ok-serve.ensures c.in_ok-wake.ensures
    c.in_ok-start.ensures

pub returns : goal.returns
returns c =
    all_phases (plan_of c.args.scenario.now) c.args.at c.args.self.now c.serve.new.self c.wake.new.self c.start.new.self
    c.burn.new.self c.requires.after c.in_ok-serve.ensures c.in_ok-wake.ensures c.in_ok-start.ensures c.burn.ensures
