use Rattle.std.proofs.Common.{arith, sym, ◌∙◌}
use Rattle.cmwq_base.proofs.UsualLines.{digit_read, few_more, in_eight, in_nine}
use Rattle.cmwq_base.proofs.usual.more_digits.Goals as goal

pub loop-at-preserved : goal.loop-at-preserved
loop-at-preserved c =
    let l = c.loop-at in
    let digit = sym c.is_ascii_digit.ensures.value ∙ c.if-not-is_ascii_digit.false in
    rw c.from.ensures (record {
      text = digit_read _ c.args.bytes.now l.value l.at l.invariant.text l.invariant.some l.invariant.few (omega arith)
          (omega arith) digit;
      some = omega (arith, l.invariant.some);
      few = few_more l.value _ l.at l.invariant.few digit;
    })

pub overflow_mul-value : goal.overflow_mul-value
overflow_mul-value c =
    let small = in_eight c.loop-at.value c.loop-at.at c.loop-at.invariant.few (omega arith) in omega (arith, small)

pub overflow_add-value : goal.overflow_add-value
overflow_add-value c =
    let small = in_eight c.loop-at.value c.loop-at.at c.loop-at.invariant.few (omega arith) in
    omega (arith, small, c.from.ensures)

pub returns-then-not-is_ascii_digit-clause-few : goal.returns-then-not-is_ascii_digit-clause-few
returns-then-not-is_ascii_digit-clause-few c =
    in_nine c.loop-at.value c.loop-at.at c.loop-at.invariant.few (omega arith)

pub returns-clause-few : goal.returns-clause-few
returns-clause-few c = in_nine c.loop-at.value c.loop-at.at c.loop-at.invariant.few (omega arith)
