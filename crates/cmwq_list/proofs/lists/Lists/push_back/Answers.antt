use Rattle.std.proofs.Common.{arith}
use Rattle.cmwq_list.proofs.Reading.{many_lists, is_free}
use Rattle.cmwq_list.proofs.lists.Lists.push_back.Goals as goal

pub link_back-requires-clause-list : goal.link_back-requires-clause-list
link_back-requires-clause-list c = grind (arith, many_lists)

pub link_back-requires-clause-free : goal.link_back-requires-clause-free
link_back-requires-clause-free c = grind (arith, is_free)
