use Rattle.std.proofs.Common.{arith}
use Rattle.cmwq_text.proofs.Spacing.{nothing_yet, one_more}
use Rattle.cmwq_text.proofs.line.LineText.push_numbers.Goals as goal

pub loop-number-init : goal.loop-number-init
loop-number-init c = record { exact = nothing_yet c.args.self.now; short = omega arith }

pub loop-number-preserved : goal.loop-number-preserved
loop-number-preserved c = record {
  exact = rw (c.push_number.ensures.exact, c.push.ensures.exact)
      (one_more c.args.self.now c.loop-number.self c.args.numbers.now c.loop-number.number-index c.loop-number-test.true
      c.loop-number.invariant.exact);
  short = omega arith;
}
