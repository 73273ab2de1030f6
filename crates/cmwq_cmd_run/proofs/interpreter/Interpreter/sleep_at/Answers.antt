use Rattle.cmwq_cmd_run.proofs.Interpreting.{slept_if}
use Rattle.cmwq_cmd_run.proofs.interpreter.Interpreter.sleep_at.Goals as goal

pub returns-in-Ok-clause-done : goal.returns-in-Ok-clause-done
returns-in-Ok-clause-done g c =
    slept_if g.N.HubName.layout c.args.context.now.participant c.sleep-asleep.new.self.participant
    c.wake.new.self.participant c.in-Ok.field-0 c.wake.result c.unless_full.result
    c.args.context.now.fault c.sleep-asleep.new.self.fault c.wake.new.self.fault
    c.in-Ok.ensures.made c.wake.ensures.made c.wake.ensures.refused c.unless_full.ensures.passes c.requires
    c.in-Ok.ensures.fault c.wake.ensures.fault
