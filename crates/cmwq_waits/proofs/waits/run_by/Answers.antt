use Rattle.cmwq_core.proofs.Effecting.{legal_there}
use Rattle.cmwq_core.specs.History.{History}
use Rattle.cmwq_model.specs.declared.id.Who.TheVariants.{Worker}
use Rattle.cmwq_state.specs.Tables.{IsThere}
use Rattle.std.proofs.Common.{subst, sym}
use Rattle.cmwq_waits.proofs.waits.run_by.Goals as goal

pub queueing_run-requires : goal.queueing_run-requires
queueing_run-requires c =
    subst (λ (h : History). IsThere h.layout (Worker c.in-Worker.worker)) (sym c.state.ensures)
    (subst (IsThere c.args.execution.now.layout) c.in-Worker.is (legal_there _ _ _ c.requires.2.legal))
