use Rattle.std.proofs.Common.{◌∙◌, sym}
use Rattle.cmwq_model.specs.Prelude.{past_of}
use Rattle.cmwq_resume.proofs.Gathered.{booking_of_timer}
use Rattle.cmwq_resume.proofs.left.booking_of.Goals as goal

pub returns : goal.returns
returns c =
    booking_of_timer (past_of c.args.state.now.entries) c.args.item.0 c.in_ok-timer.timer
    (sym c.timer.ensures.is ∙ c.in_ok-timer.was)
