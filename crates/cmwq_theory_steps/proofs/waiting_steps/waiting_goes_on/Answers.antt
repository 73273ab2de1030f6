use Rattle.cmwq_theory_steps.proofs.Waiting.{candidates_are, newly_are, waiting_goes_on}
use Rattle.cmwq_theory_steps.proofs.Way.{way_by_picked}
use Rattle.cmwq_theory_steps.proofs.ActiveCounts.{waiting_on_goes_on, active_count_goes_on, stays_counted}
use Rattle.cmwq_theory_steps.proofs.Active.{active_counted}
use Rattle.cmwq_theory_steps.proofs.waiting_steps.waiting_goes_on.Goals as goal

pub returns : goal.returns
returns c =
    assumption (
      candidates_are,
      newly_are,
      waiting_goes_on,
      way_by_picked,
      waiting_on_goes_on,
      active_counted,
      active_count_goes_on,
      stays_counted,
    )
