use Rattle.cmwq_rt_scripts.specs.Common.{ap, length, subst, sym, IfErr, IfOk, Layout, ◌∙◌}
use Rattle.cmwq_engine.specs.Ended.{IsRestOfLeft}
use Rattle.cmwq_engine.specs.Ended.{FailsAs as CrewFails, IsLeft as CrewLeaves}
use Rattle.cmwq_rt_scripts.specs.Ended.{FailsAs, IsLeft}
use Rattle.cmwq_rt_scripts.specs.Followed.{AreFit, follows}
use Rattle.cmwq_rt_scripts.proofs.Leaving.{all_is_rest, fails, leaves, roles}
use Rattle.cmwq_rt_scripts.proofs.run.run_scripts_lending.Goals as goal

pub run-rest-requires-after_bounds : goal.run-rest-requires-after_bounds
run-rest-requires-after_bounds g c κs within =
    subst (λ (s : Layout). AreFit s (g.S.Scripts.scripts c.args.scripts.now)) (sym c.in_ok-parts.ensures.shape)
    c.requires.fit

pub returns-in-Err-clause-fails : goal.returns-in-Err-clause-fails
returns-in-Err-clause-fails g c =
    let all = g.S.Scripts.scripts c.args.scripts.now in
    let s = c.in_ok-parts.parts.shape in
    let given =
    subst (λ o. IfErr o (CrewFails s (follows all) (roles all c.args.lent))) c.in-Err.is
    c.run-rest.ensures.fails in
    subst (λ (s : Layout). FailsAs s all c.args.lent c.in-Err.fault) c.in_ok-parts.ensures.shape
    (fails s all c.args.lent c.in-Err.fault given)

pub returns-clause-left : goal.returns-clause-left
returns-clause-left g c =
    let all = g.S.Scripts.scripts c.args.scripts.now in
    let s = c.in_ok-parts.parts.shape in
    let does = g.W.Work.does c.args.work.now in
    let tally = c.in-Ok.tally in
    let first = c.run-rest.result.0.first in
    let entries = c.run-rest.result.0.entries.items in
    let rest =
    subst (λ o.
    IfOk o
    (λ t. IsRestOfLeft s (does s) (follows all) (roles all c.args.lent) t.answered t.full t.left_out first entries))
    c.in-Ok.is c.run-rest.ensures.left in
    let same = all_is_rest rest.history entries first rest.rest_is c.if-first-ne0.false in
    let left =
    subst (λ h. CrewLeaves s (does s) (follows all) (roles all c.args.lent) tally.full tally.left_out h) same
    rest.left in
    subst (λ (s : Layout). IsLeft s (does s) all c.args.lent tally.full tally.left_out entries)
    c.in_ok-parts.ensures.shape
    (leaves s (does s) all c.args.lent tally.full tally.left_out entries left)

pub returns-clause-counted : goal.returns-clause-counted
returns-clause-counted g c =
    let all = g.S.Scripts.scripts c.args.scripts.now in
    let s = c.in_ok-parts.parts.shape in
    let does = g.W.Work.does c.args.work.now s in
    let first = c.run-rest.result.0.first in
    let entries = c.run-rest.result.0.entries.items in
    let rest =
    subst (λ o.
    IfOk o (λ t. IsRestOfLeft s does (follows all) (roles all c.args.lent) t.answered t.full t.left_out first entries))
    c.in-Ok.is c.run-rest.ensures.left in
    rest.counted ∙ ap length (all_is_rest rest.history entries first rest.rest_is c.if-first-ne0.false)
