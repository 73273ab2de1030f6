use Rattle.cmwq_state.specs.Common.{◌∙◌, sym, past_of}
use Rattle.cmwq_state.proofs.Readings.{slot_runs}
use Rattle.cmwq_state.proofs.state.State.queueing_run.Goals as goal

pub item_run-requires : goal.item_run-requires
item_run-requires c = let b = c.args.self.now in
    (slot_runs b.layout (past_of b.entries) c.args.worker c.in-Some.task c.slot.ensures.legal
    (sym c.slot.ensures.task ∙ c.in-Some.is)).item

pub returns-in-Some : goal.returns-in-Some
returns-in-Some c = let b = c.args.self.now in
    c.item_run.ensures.is
    ∙ (slot_runs b.layout (past_of b.entries) c.args.worker c.in-Some.task c.slot.ensures.legal
    (sym c.slot.ensures.task ∙ c.in-Some.is)).run
