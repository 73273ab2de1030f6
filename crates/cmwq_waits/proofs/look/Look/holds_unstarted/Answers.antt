use Rattle.std.proofs.Common.{◌∙◌, sym}
use Rattle.cmwq_waits.proofs.Awaiting.{waits_for_none}
use Rattle.cmwq_waits.proofs.Filling.{held_of_none}
use Rattle.cmwq_waits.proofs.look.Look.holds_unstarted.Goals as goal

pub returns-in-None : goal.returns-in-None
returns-in-None c =
    sym
    (held_of_none c.args.self.now c.scene.ensures c.args.set.now c.args.ticket
    (waits_for_none c.args.self.now.past c.args.ticket (sym c.awaited_by.ensures ∙ c.in-None.is)))
