use Rattle.cmwq_refinement.proofs.ItemNumberSteps.{numbers_at_first, numbers_refine}
use Rattle.cmwq_refinement.proofs.ItemNumberReads.{items_wait_for_least, ready_items_wait_for_nothing}
use Rattle.cmwq_refinement.proofs.ItemNumbers.{run_then_unstarted}
use Rattle.cmwq_refinement.proofs.ItemNumberMay.{entries_apply_to_numbers}
use Rattle.cmwq_refinement.proofs.item_numbers.item_numbers_refine.Goals as goal

pub returns : goal.returns
returns c =
    assumption (
      numbers_at_first,
      numbers_refine,
      items_wait_for_least,
      ready_items_wait_for_nothing,
      run_then_unstarted,
      entries_apply_to_numbers,
    )
