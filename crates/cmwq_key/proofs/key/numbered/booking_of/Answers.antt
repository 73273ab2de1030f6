use Rattle.std.proofs.Common.{sym, ◌∙◌}
use Rattle.cmwq_model.specs.Prelude.{past_of}
use Rattle.cmwq_key.proofs.Gathering.{timer_booking}
use Rattle.cmwq_key.proofs.key.numbered.booking_of.Goals as goal

pub returns : goal.returns
returns c =
    timer_booking (past_of c.args.state.now.entries) c.args.item c.in_ok-timer.timer
    (sym c.timer.ensures.is ∙ c.in_ok-timer.was)
