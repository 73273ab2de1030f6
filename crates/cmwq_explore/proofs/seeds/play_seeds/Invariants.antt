use Rattle.std.proofs.Common.{◌≡◌, ◌+◌, ◌-◌}
use Rattle.cmwq_explore.specs.Seeds.{TellsSeeds}
use Rattle.cmwq_play.specs.Starts.{start_of}
use Rattle.cmwq_explore.specs.declared.chance.Chooser.TheVariants as choosers
use Rattle.cmwq_explore.proofs.seeds.play_seeds.Given as goal

abbrev pub invariant-loop-seed : goal.invariant-loop-seed
invariant-loop-seed g l = record {
  counted : l.tally.ended + l.tally.stuck + l.tally.cut ≡ l.seed - l.seeds.first;
  tells :
      l.seeds.chooser ≡ choosers.Uniform
      → TellsSeeds (start_of l.setup) l.seeds.moves l.seeds.first (l.seed - l.seeds.first) l.tally;
}
