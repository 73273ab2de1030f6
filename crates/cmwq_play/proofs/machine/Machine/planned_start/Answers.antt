use Rattle.std.proofs.Common.{◌≡◌, ◌∙◌, sym, ap, refl, true, is_some}
use Rattle.cmwq_model.specs.Prelude.{fits}
use Rattle.cmwq_model.specs.declared.id.Who.TheVariants.{Worker}
use Rattle.cmwq_model.specs.declared.call.Call.TheVariants as call
use Rattle.cmwq_core.specs.Plans.{IsPlan}
use Rattle.cmwq_play.specs.Machines.{is_made}
use Rattle.cmwq_play.proofs.Starting.{starts_planned}
use Rattle.cmwq_play.proofs.machine.Machine.planned_start.Goals as goal

pub returns-in-Ok : goal.returns-in-Ok
returns-in-Ok c =
    let h = c.self.inside.execution in
    let w = Worker c.args.worker in
    let plan : IsPlan h w call.Take c.in-Ok.plan = rw c.in-Ok.is at c.plan-planned.ensures.plan in
    let fit : fits h.layout w call.Take ≡ true = rw c.self.invariant.0 (sym c.fits.ensures ∙ c.if-not-fits.false) in
    let made : is_made h w call.Take ≡ true = rw (fit, plan.taken) refl in
    let some = ap is_some (sym c.number_started.ensures) ∙ sym c.is_some.ensures ∙ c.if-is_some.true in
    rw (← c.self.view_is) (starts_planned h c.args.worker c.in-Ok.plan.mark plan.mark made some)
