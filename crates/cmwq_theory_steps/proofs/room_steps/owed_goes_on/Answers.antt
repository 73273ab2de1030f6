use Rattle.cmwq_theory_steps.proofs.OwedWaiting.{waiting_counted}
use Rattle.cmwq_theory_steps.proofs.OwedSteps.{runs_counted, sleepers_counted}
use Rattle.cmwq_theory_steps.proofs.OwedItems.{booked_counted, tickets_counted}
use Rattle.cmwq_theory_steps.proofs.Promised.{promised_need_no_more}
use Rattle.cmwq_theory_steps.proofs.OwedFrozen.{frozen_counted}
use Rattle.cmwq_theory_steps.proofs.Owing.{owed_goes_on, nothing_owed}
use Rattle.cmwq_theory_steps.proofs.room_steps.owed_goes_on.Goals as goal

pub returns : goal.returns
returns c =
    assumption (
      waiting_counted,
      runs_counted,
      sleepers_counted,
      booked_counted,
      tickets_counted,
      promised_need_no_more,
      frozen_counted,
      owed_goes_on,
      nothing_owed,
    )
