use Rattle.std.proofs.Common.{arith}
use Rattle.cmwq_list.proofs.Reading.{many_lists}
use Rattle.cmwq_list.proofs.lists.Lists.copy_from.Goals as goal

pub copy_from_slice-requires : goal.copy_from_slice-requires
copy_from_slice-requires c = grind (arith, many_lists)

pub copy_from_slice-requires-2 : goal.copy_from_slice-requires-2
copy_from_slice-requires-2 c = grind (arith, many_lists)

pub copy_from_slice-requires-3 : goal.copy_from_slice-requires-3
copy_from_slice-requires-3 c = grind (arith, many_lists)

pub copy_from_slice-requires-4 : goal.copy_from_slice-requires-4
copy_from_slice-requires-4 c = grind (arith, many_lists)
