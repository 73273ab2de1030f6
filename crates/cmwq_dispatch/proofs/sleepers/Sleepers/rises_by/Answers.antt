use Rattle.std.proofs.Common.{◌∙◌, subst, sym}
use Rattle.cmwq_theory_steps.specs.Common.{Who}
use Rattle.cmwq_dispatch.specs.Asleep.{SleepOn}
use Rattle.cmwq_dispatch.proofs.Cared.{risen_sleep_on}
use Rattle.cmwq_dispatch.proofs.sleepers.Sleepers.rises_by.Goals as goal

pub returns-in-Worker-clause-up : goal.returns-in-Worker-clause-up
returns-in-Worker-clause-up c e is = c.rises.ensures.up e (is ∙ c.in-Worker.is)

pub returns-in-Worker-clause-on : goal.returns-in-Worker-clause-on
returns-in-Worker-clause-on c now before after h =
    subst (λ (w : Who). SleepOn w c.args.self.now now before after) (sym c.in-Worker.is)
    (risen_sleep_on c.in-Worker.worker c.args.self.now c.rises.new.self now before after c.rises.ensures.rises
    (subst (λ (w : Who). SleepOn w c.rises.new.self now before after) c.in-Worker.is h))

pub returns-in-Caller-clause-up : goal.returns-in-Caller-clause-up
returns-in-Caller-clause-up c e is w z who at = let other = sym who ∙ (is ∙ c.in-Caller.is) in cc
