use Rattle.std.proofs.Common.{◌≡◌, ◌-◌, ℕ, ap, arith, rules, subst}
use Rattle.std.specs.declared.ops.Range.{Range}
use Rattle.cmwq_trial.specs.Counting.{AreTrials}
use Rattle.cmwq_trial.proofs.OneMore.{all_counted}
use Rattle.cmwq_trial.proofs.seeds.try_all.Goals as goal

-- no seed was tried yet
pub loop-seed-init : goal.loop-seed-init
loop-seed-init g c =
    let seeds = c.into_iter-seed-iterator.ensures.into_iter_gives in
    let starts = ap (λ (r : Range ℕ). r.start) seeds in
    let ends = ap (λ (r : Range ℕ). r.end) seeds in
    let none : 0 ≡ c.into_iter-seed-iterator.result.start - c.args.seeds.start = omega (arith, starts) in (
      ends,
      omega (arith, starts),
      omega (arith, starts),
      subst
          (λ (n : ℕ). AreTrials c.args.shape.now c.args.seeds.start n c.none-trials.result) none
          (c.none-trials.ensures c.args.shape.now c.args.seeds.start),
    )

pub count-requires : goal.count-requires
count-requires g c =
    let many = c.loop-seed.seed-iterator.start - c.args.seeds.start in
    let counted = all_counted c.args.shape.now c.args.seeds.start many c.loop-seed.trials c.loop-seed.invariant.3 in
    search (rules, arith)
