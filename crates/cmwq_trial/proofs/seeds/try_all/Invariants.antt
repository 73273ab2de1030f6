use Rattle.std.proofs.Common.{◌≡◌, ◌-◌, ◌≤◌}
use Rattle.cmwq_trial.specs.Counting.{AreTrials}
use Rattle.cmwq_trial.proofs.seeds.try_all.Given as goal

-- so many seeds were tried from the first one on
abbrev pub invariant-loop-seed : goal.invariant-loop-seed
invariant-loop-seed g l =
    (l.seed-iterator.end ≡ l.fn.seeds.end) × (l.fn.seeds.start ≤ l.seed-iterator.start)
    × (l.seed-iterator.start - l.fn.seeds.start ≤ l.fn.seeds.end - l.fn.seeds.start)
    × AreTrials l.fn.shape l.fn.seeds.start (l.seed-iterator.start - l.fn.seeds.start) l.trials
