use Rattle.cmwq_key.proofs.Coding.{none_more, numbers_go_on}
use Rattle.cmwq_key.proofs.key.codes.push_all.Goals as goal

pub loop-number-init : goal.loop-number-init
loop-number-init c = none_more c.args.key.now.items

pub loop-number-preserved : goal.loop-number-preserved
loop-number-preserved c =
    numbers_go_on c.args.numbers.now _ c.args.key.now.items _ _ c.loop-number.number-index c.loop-number-test.true
    c.loop-number.invariant c.in_ok-push_code.ensures
