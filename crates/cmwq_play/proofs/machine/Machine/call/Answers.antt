use Rattle.std.proofs.Common.{◌∙◌, sym}
use Rattle.cmwq_play.proofs.Calling.{called_none}
use Rattle.cmwq_play.proofs.machine.Machine.call.Goals as goal

pub returns-in_default : goal.returns-in_default
returns-in_default c =
    let none = sym c.in_ok-reply.ensures.reply ∙ c.in_default.is in
    called_none c.args.self.now c.step.new.self c.args.who c.args.call none c.in_ok-reply.ensures.history
