use Rattle.std.proofs.Common.{◌*◌, ◌+◌, ◌≤◌}
use Rattle.std.specs.Prelude.{option_and_then}
use Rattle.cmwq_timer.specs.Tournament.{candidate_at, IsSoonest}
use Rattle.cmwq_timer.proofs.candidate.first_of_rows.Given as goal

abbrev pub invariant-loop-row : goal.invariant-loop-row
invariant-loop-row l =
    IsSoonest (candidate_at l.rows) (16 * l.node) l.row (option_and_then (candidate_at l.rows) l.first)
    × (l.row ≤ 16 * l.node + 16)
