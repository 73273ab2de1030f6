use Rattle.cmwq_rt.specs.Common.{ap, sym, subst, View}
use Rattle.cmwq_rt.specs.Later.{Later}
use Rattle.cmwq_rt.specs.Running.{Running}
use Rattle.cmwq_rt.proofs.Later.{later_trans}
use Rattle.cmwq_rt.proofs.work.run_once.Goals as goal

pub returns-clause-later : goal.returns-clause-later
returns-clause-later g c =
    let ended = c.end_run-ended.new.self.participant in
    subst (λ (w : View). Later c.args.participant w) (sym (ap (λ (r : Running). r.participant) c.context.view_is))
    (later_trans c.args.participant c.run.new.context.participant ended c.run.ensures.later
    c.end_run-ended.ensures.later)
