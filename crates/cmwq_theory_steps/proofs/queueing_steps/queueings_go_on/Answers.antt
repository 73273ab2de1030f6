use Rattle.cmwq_theory_steps.proofs.Endings.{live_goes_on, open_go_on}
use Rattle.cmwq_theory_steps.proofs.Pending.{one_unstarted, booked_or_unstarted}
use Rattle.cmwq_theory_steps.proofs.Ended.{one_ends, ends_which}
use Rattle.cmwq_theory_steps.proofs.Limits.{open_counted, two_of_an_item, two_for_each_item}
use Rattle.cmwq_theory_steps.proofs.queueing_steps.queueings_go_on.Goals as goal

pub returns : goal.returns
returns c =
    assumption (
      live_goes_on,
      open_go_on,
      one_unstarted,
      booked_or_unstarted,
      one_ends,
      ends_which,
      open_counted,
      two_of_an_item,
      two_for_each_item,
    )
