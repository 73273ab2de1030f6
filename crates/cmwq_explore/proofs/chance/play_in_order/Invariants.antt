use Rattle.std.proofs.Common.{◌≡◌, length}
use Rattle.cmwq_play.specs.Searches.{IsPathTo}
use Rattle.cmwq_explore.proofs.chance.play_in_order.Given as goal

abbrev pub invariant-loop-number : goal.invariant-loop-number
invariant-loop-number l = record {
  goes : IsPathTo l.fn.play l.path.items l.play;
  long : length l.path.items ≡ l.number;
}
