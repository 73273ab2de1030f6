use Rattle.std.proofs.Common.{◌≡◌}
use Rattle.cmwq_model.specs.Prelude.{past_of}
use Rattle.cmwq_key.specs.Numbered.{tickets_of}
use Rattle.cmwq_key.proofs.key.numbered.fill_tickets.Given as goal

abbrev pub invariant-loop-caller : goal.invariant-loop-caller
invariant-loop-caller l = l.list.items ≡ tickets_of (past_of l.state.entries) l.caller
