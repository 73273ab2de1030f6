use Rattle.cmwq_theory_steps.proofs.WorklistSteps.{worklists_go_on, started_are_active}
use Rattle.cmwq_theory_steps.proofs.NewlyActive.{newly_active_are, opened_are_below_max_active, widened_make_active}
use Rattle.cmwq_theory_steps.proofs.Joined.{stays_active, active_go_on}
use Rattle.cmwq_theory_steps.proofs.Promoted.{newly_active_on}
use Rattle.cmwq_theory_steps.proofs.activation_steps.activations_go_on.Goals as goal

pub returns : goal.returns
returns c =
    assumption (
      worklists_go_on,
      started_are_active,
      newly_active_are,
      opened_are_below_max_active,
      stays_active,
      active_go_on,
      newly_active_on,
      widened_make_active,
    )
