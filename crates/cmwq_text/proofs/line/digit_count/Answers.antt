use Rattle.cmwq_text.specs.Common.{arith, length-decimal-le}
use Rattle.itoa.proofs.Decimal.{length_four}
use Rattle.cmwq_text.proofs.line.digit_count.Goals as goal

pub overflow_add-count : goal.overflow_add-count
overflow_add-count c =
    omega (
      arith,
      c.loop-left.invariant.count,
      length-decimal-le 20 c.args.number (omega arith) (omega arith) (omega arith),
      length_four c.loop-left.left (omega arith) (omega arith),
    )

pub loop-left-preserved : goal.loop-left-preserved
loop-left-preserved c =
    record {
      count = omega (arith, c.loop-left.invariant.count, length_four c.loop-left.left (omega arith) (omega arith));
      fits = omega arith;
    }

pub overflow_add-result : goal.overflow_add-result
overflow_add-result c =
    omega (
      arith,
      c.loop-left.invariant.count,
      c.short_digit_count.ensures,
      length-decimal-le 20 c.args.number (omega arith) (omega arith) (omega arith),
    )

pub returns-clause-short : goal.returns-clause-short
returns-clause-short c =
    omega (
      arith,
      c.loop-left.invariant.count,
      c.short_digit_count.ensures,
      length-decimal-le 20 c.args.number (omega arith) (omega arith) (omega arith),
    )
