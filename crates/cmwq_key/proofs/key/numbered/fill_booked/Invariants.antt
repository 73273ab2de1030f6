use Rattle.std.proofs.Common.{◌≡◌}
use Rattle.cmwq_model.specs.Prelude.{booking, past_of}
use Rattle.cmwq_key.specs.Numbered.{each_of}
use Rattle.cmwq_key.proofs.key.numbered.fill_booked.Given as goal

abbrev pub invariant-loop-item : goal.invariant-loop-item
invariant-loop-item l = l.list.items ≡ each_of (booking (past_of l.state.entries)) l.item
