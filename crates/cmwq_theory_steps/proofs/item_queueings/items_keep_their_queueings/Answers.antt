use Rattle.cmwq_theory_steps.proofs.Unstarted.{unstarted_goes_on, next_unstarted}
use Rattle.cmwq_theory_steps.proofs.EndsAsTold.{runs_are_queueings, ends_as_told}
use Rattle.cmwq_theory_steps.proofs.item_queueings.items_keep_their_queueings.Goals as goal

pub returns : goal.returns
returns c = record {
  unstarted_goes_on = λ s past e legal i. unstarted_goes_on s past e i legal;
  next_are_unstarted = next_unstarted;
  runs_are_queueings = runs_are_queueings;
  entries_end_as_told = ends_as_told;
}
