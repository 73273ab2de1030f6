use Rattle.cmwq_plain.proofs.Parts.{upto-then-step, upto-then-last, within, within_none}
use Rattle.cmwq_plain.proofs.past.Past.at.Goals as goal

pub returns-then-number-self-clause-step : goal.returns-then-number-self-clause-step
returns-then-number-self-clause-step c =
    rw (← c.self.view_is, c.in-Some.is)
    (upto-then-last c.in-Some.entry c.self.inside.entries.now c.args.number c.if-number-self.true)

pub returns-else-number-self-clause-step : goal.returns-else-number-self-clause-step
returns-else-number-self-clause-step c =
    rw (← c.self.view_is)
    (upto-then-step c.self.inside.latest c.self.inside.entries.now c.args.number _
    (within c.self.inside.latest _ _ (rw (← c.self.view_is) at c.requires) c.if-number-self.false))

pub returns-in-None-clause-step : goal.returns-in-None-clause-step
returns-in-None-clause-step c =
    rw (← c.self.view_is)
    (upto-then-step c.self.inside.latest c.self.inside.entries.now c.args.number _
    (within_none _ _ _ c.in-None.is (rw (← c.self.view_is) at c.requires)))
