use Rattle.std.proofs.Common.{◌≡◌, ◌++◌, ◌-◌, ◌≤◌, length, take}
use Rattle.cmwq_model.specs.Prelude.{past_of, unended_tickets}
use Rattle.cmwq_refinement.specs.Tickets.{tickets_held}
use Rattle.cmwq_key.proofs.key.numbered.push_tickets_of.Given as goal

abbrev pub invariant-loop-ticket : goal.invariant-loop-ticket
invariant-loop-ticket l = record {
  before : l.before ≡ length l.fn.list.items;
  within : l.before ≤ length l.list.items;
  list : l.list.items ≡ l.fn.list.items
      ++ take (length l.list.items - l.before) (tickets_held (unended_tickets (past_of l.state.entries)) l.caller.0);
}

abbrev pub decreases-loop-ticket : goal.decreases-loop-ticket
decreases-loop-ticket l =
    length (tickets_held (unended_tickets (past_of l.state.entries)) l.caller.0) - (length l.list.items - l.before)
