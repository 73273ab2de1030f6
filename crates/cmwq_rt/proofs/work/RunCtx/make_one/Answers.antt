use Rattle.cmwq_rt.specs.Common.{ap, subst, rules, Extends, IfErr, IfOk, Refused, View}
use Rattle.cmwq_rt.specs.Later.{Later}
use Rattle.cmwq_rt.specs.Running.{Running}
use Rattle.cmwq_rt.proofs.Later.{later_answered}
use Rattle.cmwq_rt.proofs.work.RunCtx.make_one.Goals as goal

pub returns : goal.returns
returns g c =
    let w = c.call-answer.new.participant in
    let same = ap (λ (r : Running). r.participant) c.self.view_is in record {
      later = subst (λ (v : View). Later v w) same
          (later_answered g.N.HubName.layout c.self.inside.participant w c.args.call c.call-answer.result
          c.call-answer.ensures.made c.call-answer.ensures.refused);
      made = subst (λ (v : View). IfOk c.call-answer.result
          (λ reply. Extends g.N.HubName.layout v c.args.call reply w)) same c.call-answer.ensures.made;
      refused = subst (λ (v : View). IfErr c.call-answer.result
          (λ f. Refused g.N.HubName.layout v c.args.call f w)) same c.call-answer.ensures.refused;
      fault = search rules;
      item = search rules;
      left_out = search rules;
    }
