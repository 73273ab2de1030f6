use Rattle.cmwq_cmd_history.specs.Common.{◌∙◌, ap, arith, Steps}
use Rattle.cmwq_cmd_history.proofs.Lived.{lived_steps}
use Rattle.cmwq_cmd_history.proofs.live.answer.Goals as goal

pub returns-then-left_out-gt0-clause-answered : goal.returns-then-left_out-gt0-clause-answered
returns-then-left_out-gt0-clause-answered g c =
    let left =
    c.left_out.ensures ∙ ap (λ (t : Steps). t.left_out) (lived_steps c.in-Body.all.layout c.in-Body.all.calls) in
    rw c.in-Body.is (omega (arith, left, c.if-left_out-gt0.true))

pub returns-in_ok-write_new-in-Body-clause-answered : goal.returns-in_ok-write_new-in-Body-clause-answered
returns-in_ok-write_new-in-Body-clause-answered g c =
    let left =
    c.left_out.ensures ∙ ap (λ (t : Steps). t.left_out) (lived_steps c.in-Body.all.layout c.in-Body.all.calls) in
    rw c.in-Body.is (omega (arith, left, c.if-left_out-gt0.false))
