use Rattle.std.proofs.Common.{◌==◌, ◌&&◌, sym, ◌∙◌, arith}
use Rattle.cmwq_sim.specs.declared.execution.Asleep.{Asleep}
use Rattle.cmwq_sim.proofs.Sleepers.{found_here, none_so_far}
use Rattle.cmwq_sim.proofs.execution.due.Goals as goal

pub returns-then-is_due : goal.returns-then-is_due
returns-then-is_due c =
    sym (found_here (λ (x : Asleep). (x.item == c.args.item) && (x.until == c.args.at)) c.args.sleeping.now
    c.loop-sleeper.sleeper-index _ (omega arith) c.loop-sleeper.invariant (sym c.is_due.ensures ∙ c.if-is_due.true))

pub loop-sleeper-preserved : goal.loop-sleeper-preserved
loop-sleeper-preserved c =
    none_so_far (λ (x : Asleep). (x.item == c.args.item) && (x.until == c.args.at)) c.args.sleeping.now
    c.loop-sleeper.sleeper-index _ (omega arith) c.loop-sleeper.invariant (sym c.is_due.ensures ∙ c.if-is_due.false)
