use Rattle.std.proofs.Common.{◌≡◌, ◌∙◌, [], ap, subst, sym}
use Rattle.cmwq_core.specs.History.{past_in}
use Rattle.cmwq_waits.specs.Begun.{HasWaitsOf}
use Rattle.cmwq_dispatch.specs.Dispatched.{Dispatched}
use Rattle.cmwq_dispatch.proofs.Steady.{none_waits}
use Rattle.cmwq_dispatch.proofs.dispatch.Dispatch.lends_from.Goals as goal

pub invariant_of-self : goal.invariant_of-self
invariant_of-self c =
    let i = c.self.inside in
    let none : past_in i.execution ≡ [] =
    ap (λ (d : Dispatched). past_in d.history) c.self.view_is ∙ c.requires in (
      c.self.invariant.0,
      subst (HasWaitsOf i.execution.layout (past_in i.execution)) (sym c.lends_from.ensures)
          (none_waits i.execution.layout (past_in i.execution) i.runs c.args.first.0 none c.self.invariant.1),
      record { looked_after = c.self.invariant.2.looked_after; over = c.self.invariant.2.over },
    )
