use Rattle.std.proofs.Common.{sym, ◌∙◌}
use Rattle.cmwq_plain.proofs.Parts.{upto-then, upto-then-all}
use Rattle.cmwq_plain.proofs.past.Past.before.Goals as goal

pub returns-then-number-self : goal.returns-then-number-self
returns-then-number-self c =
    rw (← c.self.view_is)
    (c.new.ensures
    ∙ sym (upto-then c.self.inside.latest c.self.inside.entries.now c.args.number c.if-number-self.true))

pub returns : goal.returns
returns c =
    rw (← c.self.view_is)
    (sym (upto-then-all c.self.inside.latest c.self.inside.entries.now c.args.number c.if-number-self.false))
