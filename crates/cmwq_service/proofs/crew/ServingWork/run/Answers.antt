use Rattle.std.proofs.Common.{ap, subst, sym}
use Rattle.cmwq_monitor.specs.Participants.{View}
use Rattle.cmwq_rt.specs.Later.{Later}
use Rattle.cmwq_rt.specs.Running.{Running}
use Rattle.cmwq_service.proofs.crew.ServingWork.run.Goals as goal

pub returns-in-Err-clause-later : goal.returns-in-Err-clause-later
returns-in-Err-clause-later g c =
    subst (λ (v : View). Later c.args.context.now.participant v)
    (sym (ap (λ (r : Running). r.participant) c.break_off.ensures)) c.run_in-outcome.ensures.later
