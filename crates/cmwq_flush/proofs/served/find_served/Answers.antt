use Rattle.cmwq_flush.specs.Common.{rules, answers_always}
use Rattle.cmwq_flush.specs.Served.{ticket_of_served}
use Rattle.cmwq_flush.proofs.Search.{searched}
use Rattle.cmwq_flush.proofs.served.find_served.Goals as goal

pub returns : goal.returns
returns c =
    let facts = c.binary_search_by_key.ensures in
    let by_key = facts.position ticket_of_served (answers_always _ _ _ (λ f a r g called. search rules)) in
    let found =
    searched ticket_of_served c.args.served.now c.args.ticket c.requires c.binary_search_by_key.result facts.bound
    by_key in
    rw c.ok.ensures.value (record { found = found.0; absent = found.1 })
