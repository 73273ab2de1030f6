use Rattle.cmwq_theory_steps.proofs.StateSteps.{sleepers_go_on, enlisted_go_on, bookings_go_on, time_goes_on}
use Rattle.cmwq_theory_steps.proofs.StateSteps.{serials_go_on, books_as_asked, opens_as_asked, serials_rise}
use Rattle.cmwq_theory_steps.proofs.Marks.{others_stay}
use Rattle.cmwq_theory_steps.proofs.state_steps.states_go_on.Goals as goal

pub returns : goal.returns
returns c =
    assumption (
      sleepers_go_on,
      enlisted_go_on,
      bookings_go_on,
      time_goes_on,
      serials_go_on,
      books_as_asked,
      opens_as_asked,
      others_stay,
      serials_rise,
    )
