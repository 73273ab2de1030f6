use Rattle.std.proofs.Common.{arith}
use Rattle.std.proofs.lemmas.Bool.{false_from_ne_true}
use Rattle.cmwq_pool.proofs.Tasks.{empty_lacks, no_owner, no_task, other_number, owned_task}
use Rattle.cmwq_pool.proofs.listing.is_listed.Goals as goal
use Rattle.cmwq_pool.proofs.listing.is_listed.Goals.{then-len-eq0-via-then-len-eq0}
use Rattle.cmwq_pool.proofs.listing.is_listed.Goals.{then-len-eq0-via-else-len-eq0+then-index-len}
use Rattle.cmwq_pool.proofs.listing.is_listed.Goals.{then-len-eq0-via-else-len-eq0+else-index-len+then-get-number}

pub returns-then-len-eq0-clause-listed : goal.returns-then-len-eq0-clause-listed
returns-then-len-eq0-clause-listed c =
    grind (arith, no_task, empty_lacks, false_from_ne_true, other_number, c.args.item.0)

pub returns-in-Some-clause-listed : goal.returns-in-Some-clause-listed
returns-in-Some-clause-listed c = grind (arith, owned_task, c.args.item.0)

pub returns-in-None-clause-listed : goal.returns-in-None-clause-listed
returns-in-None-clause-listed c = grind (arith, no_task, no_owner, c.args.item.0)
