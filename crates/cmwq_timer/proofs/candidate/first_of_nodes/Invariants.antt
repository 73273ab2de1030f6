use Rattle.std.proofs.Common.{◌*◌, ◌+◌, ◌≤◌}
use Rattle.std.specs.Prelude.{option_and_then}
use Rattle.cmwq_timer.specs.Tournament.{node_at, IsSoonest}
use Rattle.cmwq_timer.proofs.candidate.first_of_nodes.Given as goal

abbrev pub invariant-loop-below : goal.invariant-loop-below
invariant-loop-below l = IsSoonest (node_at l.level) (16 * l.node) l.below (option_and_then (node_at l.level) l.first)
    × (l.below ≤ 16 * l.node + 16)
