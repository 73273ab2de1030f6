use Rattle.cmwq_rt.specs.Common.{◌≡◌, ap, subst, sym, rules, IfErr, View}
use Rattle.cmwq_rt.specs.Later.{Later}
use Rattle.cmwq_rt.specs.Running.{Running}
use Rattle.cmwq_rt.specs.Waiting.{WhyNot}
use Rattle.cmwq_rt.proofs.work.RunCtxCalls.wait.Goals as goal

pub returns : goal.returns
returns g c =
    let same = sym (ap (λ (r : Running). r.participant) c.count.ensures) in record {
      later = subst (λ (w : View). Later c.args.self.now.participant w) same c.wait_uncounted-answer.ensures.later;
      waited = search rules;
      itself = search rules;
      why = subst (λ (w : View). IfErr c.wait_uncounted-answer.result
          (λ f. WhyNot g.N.HubName.layout g.N.HubName.first_lent c.args.self.now.item c.args.self.now.participant c.args.call f w))
          same c.wait_uncounted-answer.ensures.why;
      fault = search rules;
      item = search rules;
      left_out = search rules;
    }
