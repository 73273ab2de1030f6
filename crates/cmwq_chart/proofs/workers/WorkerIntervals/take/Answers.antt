use Rattle.std.proofs.Common.{arith, ◌≡◌, true}
use Rattle.cmwq_model.specs.Prelude.{is_by}
use Rattle.cmwq_model.specs.declared.id.Who.TheVariants.{Worker}
use Rattle.cmwq_chart.specs.Sleeps.{asleep_since, sleeps_ended}
use Rattle.cmwq_chart.proofs.Kept.{by_worker}
use Rattle.cmwq_chart.proofs.Steps.{length_past}
use Rattle.cmwq_chart.proofs.workers.WorkerIntervals.take.Goals as goal

pub returns-clause-kept : goal.returns-clause-kept
unfolding asleep_since sleeps_ended
returns-clause-kept c =
    let by : is_by (Worker c.args.self.now.worker) c.args.entry ≡ true = by_worker c.args.entry _ c.requires.worker in
    grind (arith, length_past)
