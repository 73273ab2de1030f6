use Rattle.cmwq_core.specs.Common.{◌∙◌, sym, past_of}
use Rattle.cmwq_state.proofs.Readings.{timer_there}
use Rattle.cmwq_core.proofs.answers.is_held_back.Goals as goal

pub is_draining-requires : goal.is_draining-requires
is_draining-requires c = let b = c.args.state.now in
    timer_there b.layout (past_of b.entries) c.args.item.0 c.in-Some.timer c.timer.ensures.legal
    (sym c.timer.ensures.is ∙ c.in-Some.is)
