use Rattle.std.proofs.Common.{◌≡◌, ◌∙◌, sym, false}
use Rattle.cmwq_model.specs.Prelude.{fits}
use Rattle.cmwq_model.specs.declared.id.Who.TheVariants.{Worker}
use Rattle.cmwq_model.specs.declared.call.Call.TheVariants as call
use Rattle.cmwq_play.proofs.Starting.{unfit_starts_nothing}
use Rattle.cmwq_play.proofs.machine.Machine.would_start.Goals as goal

pub returns-then-not-fits : goal.returns-then-not-fits
returns-then-not-fits c =
    let h = c.self.inside.execution in
    let unfit : fits h.layout (Worker c.args.worker) call.Take ≡ false =
    rw c.self.invariant.0 (sym c.fits.ensures ∙ c.if-not-fits.true) in
    rw (← c.self.view_is) (sym (unfit_starts_nothing h c.args.worker unfit))
