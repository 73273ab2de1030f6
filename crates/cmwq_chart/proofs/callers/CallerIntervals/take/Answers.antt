use Rattle.std.proofs.Common.{arith, ◌≡◌, true}
use Rattle.cmwq_model.specs.Prelude.{is_by}
use Rattle.cmwq_model.specs.declared.id.Who.TheVariants.{Caller}
use Rattle.cmwq_chart.specs.CallerWaits.{wait_rows, wait_signs_by, waits_ended}
use Rattle.cmwq_chart.proofs.Kept.{by_caller}
use Rattle.cmwq_chart.proofs.Steps.{length_past}
use Rattle.cmwq_chart.proofs.callers.CallerIntervals.take.Goals as goal

pub returns-clause-kept : goal.returns-clause-kept
unfolding wait_rows wait_signs_by waits_ended
returns-clause-kept c =
    let by : is_by (Caller c.args.self.now.caller) c.args.entry ≡ true = by_caller c.args.entry _ c.requires.caller in
    grind (arith, length_past)
