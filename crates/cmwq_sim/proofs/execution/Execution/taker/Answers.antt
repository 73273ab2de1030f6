use Rattle.cmwq_sim.specs.Common.{rules, ◌≡◌, None, Some, sym, ap, ◌∙◌, arith, below_more, Entry, number_started}
use Rattle.cmwq_sim.specs.Common.{past_in}
use Rattle.cmwq_sim.specs.Plan.{plan_of}
use Rattle.cmwq_sim.specs.Takers.{taken_by}
use Rattle.cmwq_sim.proofs.Executions.{starts_below, none_taken}
use Rattle.cmwq_sim.proofs.execution.Execution.taker.Goals as goal
use Rattle.cmwq_sim.proofs.execution.Execution.taker.Goals.{in-Ok+in_default-started, in_default}

pub overflow_cast-result : goal.overflow_cast-result
overflow_cast-result c =
    let next = rw c.worker.ensures at c.in-Ok.ensures.mark in
    let is : taken_by c.args.self.now.book.layout (past_in c.args.self.now.book) c.loop-index.index
    ≡ Some c.in-Some.number = sym (ap (λ (e : Entry). number_started e.reply) next.is_next) ∙ sym c.started.ensures
    ∙ c.in-Some.is in
    let less =
    starts_below (plan_of c.args.scenario.now) c.args.self.now c.loop-index.index c.in-Some.number c.requires
    (record { below = omega arith; starts = is }) in
    search rules

pub loop-index-preserved : goal.loop-index-preserved
loop-index-preserved c =
    below_more (λ x. taken_by c.args.self.now.book.layout (past_in c.args.self.now.book) x ≡ None) _
    c.loop-index.invariant
    (elim c.match-would.branch [
      | in-Ok+in_default-started w ↦
          let next = rw c.worker.ensures at w.in-Ok.ensures.mark in
          sym (ap (λ (e : Entry). number_started e.reply) next.is_next) ∙ sym w.started.ensures
          ∙ w.in_default-started.is
      | in_default w ↦
          let full = rw c.worker.ensures at w.in_default.ensures.room in
          none_taken (plan_of c.args.scenario.now) c.args.self.now c.loop-index.index c.requires (omega arith)
          (sym full)
    ])
