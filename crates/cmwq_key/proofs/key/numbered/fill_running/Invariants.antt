use Rattle.std.proofs.Common.{◌≡◌}
use Rattle.cmwq_model.specs.Prelude.{past_of}
use Rattle.cmwq_state.specs.Flights.{run_open}
use Rattle.cmwq_key.specs.Numbered.{each_of}
use Rattle.cmwq_key.proofs.key.numbered.fill_running.Given as goal

abbrev pub invariant-loop-item : goal.invariant-loop-item
invariant-loop-item l = l.list.items ≡ each_of (run_open (past_of l.state.entries)) l.item
