use Rattle.cmwq_rt.specs.Common.{ap, subst, IfErr, IfOk, View}
use Rattle.cmwq_rt.specs.Later.{Later}
use Rattle.cmwq_rt.specs.Running.{Running}
use Rattle.cmwq_rt.specs.Waiting.{SleepsThrough, TellsWhy}
use Rattle.cmwq_rt.proofs.work.RunCtx.wait_awake.Goals as goal

pub returns-clause-later : goal.returns-clause-later
returns-clause-later g c =
    subst (λ (v : View). Later v c.sleep_through-answer.new.worker) (ap (λ (r : Running). r.participant) c.self.view_is)
    c.sleep_through-answer.ensures.later

pub returns-clause-waited : goal.returns-clause-waited
returns-clause-waited g c =
    subst (λ (v : View). IfOk c.sleep_through-answer.result
    (λ reply. SleepsThrough g.N.HubName.layout g.N.HubName.first_lent v c.args.call reply c.sleep_through-answer.new.worker))
    (ap (λ (r : Running). r.participant) c.self.view_is)
    c.sleep_through-answer.ensures.waited

pub returns-clause-why : goal.returns-clause-why
returns-clause-why g c =
    subst (λ (v : View). IfErr c.sleep_through-answer.result
    (λ f. TellsWhy g.N.HubName.layout g.N.HubName.first_lent v c.args.call f c.sleep_through-answer.new.worker))
    (ap (λ (r : Running). r.participant) c.self.view_is)
    c.sleep_through-answer.ensures.why
