use Rattle.cmwq_rt_scripts.proofs.Leaving.{if_err, if_ok, tells, writes}
use Rattle.cmwq_rt_scripts.proofs.run.run_scripts_with_journal.Goals as goal

pub returns-clause-whole : goal.returns-clause-whole
returns-clause-whole g c =
    let s = c.args.shape.now in
    let all = g.S.Scripts.scripts c.args.scripts.now in
    if_ok _ _ c.run_with_journal.result
    (λ w x. writes s (g.W.Work.does c.args.work.now s) all c.args.lent w.answered w.full w.left_out _ _ x)
    c.run_with_journal.ensures.whole

pub returns-clause-tells : goal.returns-clause-tells
returns-clause-tells g c =
    let all = g.S.Scripts.scripts c.args.scripts.now in
    if_err _ _ c.run_with_journal.result (λ f x. tells c.args.shape.now all c.args.lent f x)
    c.run_with_journal.ensures.tells
