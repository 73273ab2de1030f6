use Rattle.std.proofs.Common.{rules}
use Rattle.cmwq_cmd_run.specs.Common.{◌≡◌, true, false, has_numbers, is_own, is_workers}
use Rattle.cmwq_cmd_run.proofs.Interpreting.{waits_if_may}
use Rattle.cmwq_cmd_run.proofs.interpreter.Interpreter.call.Goals as goal

pub returns-clause-done : goal.returns-clause-done
returns-clause-done g c =
    let own : is_own c.args.call ≡ true = search rules in
    let numbers : has_numbers g.N.HubName.layout c.args.call ≡ true = search rules in
    let other : is_workers c.args.call ≡ false = search rules in
    let wait = c.wait-answer.ensures in
    waits_if_may g.N.HubName.layout g.N.HubName.first_lent c.args.context.now.item c.args.call
    c.args.context.now.participant c.wait-answer.new.self.participant c.wait-answer.result c.unless_refused.result
    c.args.context.now.fault c.wait-answer.new.self.fault c.args.context.now.left_out
    c.wait-answer.new.self.left_out own numbers other wait.waited wait.why
    c.unless_refused.ensures.passes c.requires wait.fault wait.left_out
