use Rattle.std.proofs.Common.{◌≡◌, ◌∷◌, ◌++◌, length, take}
use Rattle.std.specs.List.{flat_map}
use Rattle.cmwq_model.specs.Prelude.{holds_up, past_of}
use Rattle.cmwq_model.specs.declared.record.Queueing.{Queueing}
use Rattle.cmwq_key.specs.Codes.{codes, told_flag}
use Rattle.cmwq_key.proofs.key.tickets.push_held_up.Given as goal

abbrev pub invariant-loop-queueing : goal.invariant-loop-queueing
invariant-loop-queueing l = l.key.items
    ≡ l.fn.key.items
    ++ codes (length l.queueings
    ∷ flat_map (λ (x : Queueing). told_flag (holds_up (past_of l.state.entries) l.ticket.number l.ticket.call x))
    (take l.queueing-index l.queueings))
