use Rattle.std.proofs.Common.{◌≡◌, ◌∙◌, ◌-◌, ◌≤◌, ap, arith, sym}
use Rattle.cmwq_names.specs.Labels.{whole_front}
use Rattle.cmwq_names.proofs.Cutting.{ends_at_first, ends_there, one_before}
use Rattle.cmwq_names.proofs.label.whole_front.Goals as goal

pub loop-end-preserved : goal.loop-end-preserved
loop-end-preserved c =
    let less = c.loop-end.invariant.1 in
    let fewer : c.loop-end.end - 1 ≤ c.args.most = omega arith in (
      one_before c.args.name.now c.loop-end.end c.loop-end-test.true (sym c.is_inner.ensures ∙ c.if-is_inner.true)
          ∙ c.loop-end.invariant.0,
      fewer,
    )

pub returns-else-is_inner-clause-is : goal.returns-else-is_inner-clause-is
returns-else-is_inner-clause-is c =
    ends_there c.args.name.now c.loop-end.end (sym c.is_inner.ensures ∙ c.if-is_inner.false) ∙ c.loop-end.invariant.0

pub returns-after-loop-end-clause-is : goal.returns-after-loop-end-clause-is
returns-after-loop-end-clause-is c =
    let over = c.loop-end-test.false in let none : c.loop-end.end ≡ 0 = omega arith in
    none ∙ ends_at_first c.args.name.now ∙ ap (whole_front c.args.name.now) (sym none) ∙ c.loop-end.invariant.0
