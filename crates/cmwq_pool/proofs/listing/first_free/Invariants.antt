use Rattle.std.proofs.Common.{◌≡◌, not, drop}
use Rattle.std.specs.Prelude.{find, slice_get}
use Rattle.cmwq_list.specs.Lists.{list_at}
use Rattle.cmwq_pool.specs.Slots.{slots_run_item}
use Rattle.cmwq_pool.proofs.listing.first_free.Given as goal

abbrev pub invariant-loop-index : goal.invariant-loop-index
invariant-loop-index l = record {
  here : l.at ≡ slice_get (list_at l.lists.lists l.list) l.index;
  left : find (λ i. not (slots_run_item l.workers i)) (list_at l.lists.lists l.list)
      ≡ find (λ i. not (slots_run_item l.workers i)) (drop l.index (list_at l.lists.lists l.list));
}
