use Rattle.std.proofs.Common.{ℕ, ◌≡◌, ◌+◌, ◌++◌, length}
use Rattle.cmwq_explore.specs.Chances.{chosen_by}
use Rattle.cmwq_play.specs.Searches.{IsPathTo}
use Rattle.cmwq_explore.proofs.chance.play_uniform.Given as goal

abbrev pub invariant-loop-number : goal.invariant-loop-number
invariant-loop-number l = record {
  goes : IsPathTo l.fn.play l.path.items l.play;
  long : length l.path.items ≡ l.number;
  chosen :
      (n : ℕ) → l.number + n ≡ l.moves
      → l.path.items ++ chosen_by n l.generator l.play ≡ chosen_by l.moves l.fn.generator l.fn.play;
}
