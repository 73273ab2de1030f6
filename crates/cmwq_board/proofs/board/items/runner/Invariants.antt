use Rattle.std.specs.Prelude.{◌≡◌, ◌<◌, ℕ, false}
use Rattle.cmwq_core.specs.History.{past_in}
use Rattle.cmwq_model.specs.Prelude.{is_at, run}
use Rattle.cmwq_board.proofs.board.items.runner.Given as goal

abbrev pub invariant-loop-index : goal.invariant-loop-index
invariant-loop-index l = (k : ℕ) → k < l.index
    → is_at (run (past_in l.state) (record { pool = l.pool; index = k })) l.number ≡ false
