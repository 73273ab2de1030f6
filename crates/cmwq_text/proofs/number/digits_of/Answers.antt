use Rattle.std.proofs.Common.{get_or, sym, ◌∙◌}
use Rattle.cmwq_text.proofs.Digits.{within, goes_on, stops, ends}
use Rattle.cmwq_text.proofs.number.digits_of.Goals as goal

pub returns-in_err-value-clause-exact : goal.returns-in_err-value-clause-exact
returns-in_err-value-clause-exact c =
    let l = c.loop-digit in
    c.from_residual.ensures
    ∙ sym (stops c.args.limit l.value l.digit-index c.args.digits.now _ c.loop-digit-test.true
    (sym c.with_digit.ensures ∙ c.in_err-value.was) l.invariant.1)

pub loop-digit-preserved : goal.loop-digit-preserved
loop-digit-preserved c =
    let l = c.loop-digit in
    let read = sym c.with_digit.ensures ∙ c.in_ok-value.was in (
      within c.args.limit l.value (get_or c.args.digits.now l.digit-index 0) c.in_ok-value.value read,
      goes_on c.args.limit l.value c.in_ok-value.value l.digit-index c.args.digits.now _ c.loop-digit-test.true read
          l.invariant.1,
    )

pub returns-clause-exact : goal.returns-clause-exact
returns-clause-exact c =
    let l = c.loop-digit in
    sym (ends c.args.limit l.value l.digit-index c.args.digits.now _ c.loop-digit-test.false l.invariant.0
    l.invariant.1)
