use Rattle.std.proofs.Common.{◌≡◌, drop}
use Rattle.std.specs.Prelude.{find, slice_get}
use Rattle.cmwq_list.specs.Lists.{list_at}
use Rattle.cmwq_flush.specs.Overflow.{is_from}
use Rattle.cmwq_flush.proofs.overflow.first_from.Given as goal

abbrev pub invariant-loop-index : goal.invariant-loop-index
invariant-loop-index l = record {
  here : l.at ≡ slice_get (list_at l.lists.lists l.list) l.index;
  left : find (is_from l.tickets l.ticket) (list_at l.lists.lists l.list)
      ≡ find (is_from l.tickets l.ticket) (drop l.index (list_at l.lists.lists l.list));
}
