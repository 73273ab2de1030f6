use Rattle.std.proofs.Common.{◌-◌}
use Rattle.std.specs.List.{range_with_len}
use Rattle.cmwq_model.specs.Prelude.{past_of}
use Rattle.cmwq_obstacle.specs.Firsts.{AreFirstsOf}
use Rattle.cmwq_obstacle.proofs.firsts.Firsts.new.Given as goal

abbrev pub invariant-loop-put_so_far : goal.invariant-loop-put_so_far
invariant-loop-put_so_far l =
    AreFirstsOf l.state.layout (past_of l.state.entries) (range_with_len (l.items - l.put_so_far) l.put_so_far)
    l.rows.items
