use Rattle.cmwq_names.specs.Named.{value_from}
use Rattle.cmwq_names.proofs.Naming.{value_ends, value_goes_on}
use Rattle.cmwq_names.proofs.texts.value_of.Goals as goal

pub loop-digit-preserved : goal.loop-digit-preserved
loop-digit-preserved c =
    let l = c.loop-digit in (
      c.with_digit-number.ensures.few,
      rw c.with_digit-number.ensures.is
          (value_goes_on l.number l.digit-index (value_from 0 c.args.digits.now) c.args.digits.now c.loop-digit-test.true
          l.invariant.1),
    )

pub returns : goal.returns
returns c =
    let l = c.loop-digit in
    value_ends l.number l.digit-index (value_from 0 c.args.digits.now) c.args.digits.now c.loop-digit-test.false
    l.invariant.1
