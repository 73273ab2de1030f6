use Rattle.std.proofs.Common.{◌≡◌, suc, map, ap, ◌∙◌, arith}
use Rattle.cmwq_sim.specs.Plan.{plan_of, whole_time, event_of}
use Rattle.cmwq_sim.specs.Lines.{Moment, scenario_lines}
use Rattle.cmwq_sim.specs.Ends.{moment_after}
use Rattle.cmwq_sim.proofs.execution.Execution.run.Goals as goal

pub returns : goal.returns
unfolding scenario_lines
returns c =
    let done : c.loop-at.at ≡ suc (whole_time (plan_of c.args.scenario.now)) = omega arith in
    ap (λ told. map event_of told.items) c.replace.ensures.value
    ∙ ap (λ (m : Moment). m.lines) c.loop-at.invariant.moment
    ∙ ap (λ n. (moment_after (plan_of c.args.scenario.now) n).lines) done
