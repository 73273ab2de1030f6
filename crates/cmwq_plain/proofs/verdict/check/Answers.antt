use Rattle.std.proofs.Common.{refl}
use Rattle.cmwq_model.proofs.Growing.{first_wrong, legal_more, nothing_is_legal}
use Rattle.cmwq_plain.proofs.verdict.check.Goals as goal

pub loop-at-init : goal.loop-at-init
loop-at-init c = nothing_is_legal c.args.shape.now

pub returns-in-Some-clause-illegal : goal.returns-in-Some-clause-illegal
returns-in-Some-clause-illegal c =
    first_wrong c.args.shape.now c.args.entries.now c.loop-at.at _ c.in-Some.wanted c.loop-at-test.true
    c.loop-at.invariant c.in-Some.ensures.wrong

pub loop-at-preserved : goal.loop-at-preserved
loop-at-preserved c =
    legal_more c.args.shape.now c.args.entries.now c.loop-at.at _ c.loop-at-test.true c.requires.fitting
    c.loop-at.invariant (c.in_default.ensures.right refl)
