use Rattle.std.proofs.Common.{◌≡◌, ℕ, ◌<◌}
use Rattle.cmwq_ticket.specs.Rows.{tickets_of_caller}
use Rattle.cmwq_ticket.proofs.tickets.copy_rows.Given as goal

abbrev pub invariant-loop-caller : goal.invariant-loop-caller
invariant-loop-caller l = (c : ℕ) → c < l.caller → tickets_of_caller l.rows c ≡ tickets_of_caller l.others c
