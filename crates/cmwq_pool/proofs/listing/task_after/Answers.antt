use Rattle.std.proofs.Common.{◌+◌, ◌∙◌, arith, sym}
use Rattle.cmwq_list.specs.Lists.{list_at}
use Rattle.cmwq_list.proofs.Walking.{has_there}
use Rattle.cmwq_pool.proofs.listing.task_after.Goals as goal

pub returns-else-next-len-clause-next : goal.returns-else-next-len-clause-next
returns-else-next-len-clause-next c = λ k stands.
    let xs = list_at c.args.lists.now.lists c.args.list in
    let known =
    c.len.ensures.once.known c.in_ok-next.next c.args.list
    (has_there xs (k + 1) c.in_ok-next.next (sym (c.next.ensures c.args.list k stands) ∙ c.in_ok-next.was)) in
    absurd (omega (arith, known, c.requires.noted, c.len-2.ensures, c.if-next-len.false))
