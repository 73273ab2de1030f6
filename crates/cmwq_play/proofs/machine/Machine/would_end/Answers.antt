use Rattle.std.proofs.Common.{◌≡◌, ◌∙◌, sym, false}
use Rattle.cmwq_model.specs.Prelude.{fits}
use Rattle.cmwq_model.specs.declared.call.Call.TheVariants as call
use Rattle.cmwq_play.proofs.Ending.{unfit_never_ends}
use Rattle.cmwq_play.proofs.machine.Machine.would_end.Goals as goal

pub returns-then-not-fits : goal.returns-then-not-fits
returns-then-not-fits c =
    let h = c.self.inside.execution in
    let unfit : fits h.layout c.args.who (call.End c.args.ticket) ≡ false =
    rw c.self.invariant.0 (sym c.fits.ensures ∙ c.if-not-fits.true) in
    rw (← c.self.view_is) (sym (unfit_never_ends h c.args.who c.args.ticket unfit))
