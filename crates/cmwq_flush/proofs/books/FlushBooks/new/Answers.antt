use Rattle.cmwq_flush.specs.Common.{ℕ, List, [], arith}
use Rattle.std.proofs.lemmas.List.{length-replicate}
use Rattle.cmwq_flush.proofs.books.FlushBooks.new.Goals as goal

pub invariant_of-result : goal.invariant_of-result
invariant_of-result c =
    let size = length-replicate {A = List ℕ} c.args.items [] in
    rw (c.in_ok-new.ensures, c.in_ok-new-2.ensures, size)
    ((c.in_ok-new_queues.ensures c.args.items).0, omega (arith, c.ranges.items.fits))

pub returns : goal.returns
returns c = grind (arith, length-replicate)
