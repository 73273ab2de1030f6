use Rattle.cmwq_flush.specs.Common.{◌≡◌, ap₂, arith, List, ℕ}
use Rattle.cmwq_flush.specs.Overflow.{OverflowLists}
use Rattle.cmwq_flush.proofs.OverflowNodes.{next_free, one_more_free, nodes_at_first, overflow_at_first}
use Rattle.cmwq_flush.proofs.overflow.Overflow.new.Goals as goal

pub push_back-requires-clause-free : goal.push_back-requires-clause-free
push_back-requires-clause-free c = rw c.loop-place.invariant (next_free c.loop-place.place c.args.queues)

pub loop-place-preserved : goal.loop-place-preserved
loop-place-preserved c =
    rw (c.push_back.ensures, c.loop-place.invariant)
    (one_more_free c.args.room c.loop-place.place c.args.queues 0 (omega arith))

pub invariant_of-result : goal.invariant_of-result
invariant_of-result c =
    let end : c.loop-place.place ≡ c.args.room = omega arith in
    rw (c.loop-place.invariant, end)
    (nodes_at_first c.args.queues c.args.room c.in_ok-tickets.tickets.items
    (omega (arith, c.in_ok-tickets.ensures.len, c.in_ok-tickets.tickets.ok)))

pub returns : goal.returns
returns c =
    let size = c.in_ok-tickets.ensures.len in
    let empty = overflow_at_first c.args.queues c.loop-place.place c.in_ok-tickets.tickets.items in
    rw (c.loop-place.invariant)
    (ap₂ (λ (n : ℕ) (qs : List (List ℕ)). let o : OverflowLists = record { room = n; queues = qs } in o)
    (omega (arith, c.in_ok-tickets.tickets.ok)) empty)
