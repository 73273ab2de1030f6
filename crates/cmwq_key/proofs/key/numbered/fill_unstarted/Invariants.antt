use Rattle.std.proofs.Common.{◌≡◌}
use Rattle.cmwq_model.specs.Prelude.{unstarted_queueing, past_of}
use Rattle.cmwq_key.specs.Numbered.{each_of}
use Rattle.cmwq_key.proofs.key.numbered.fill_unstarted.Given as goal

abbrev pub invariant-loop-item : goal.invariant-loop-item
invariant-loop-item l = l.list.items ≡ each_of (unstarted_queueing (past_of l.state.entries)) l.item
