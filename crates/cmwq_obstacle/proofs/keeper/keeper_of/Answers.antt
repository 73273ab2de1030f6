use Rattle.std.proofs.Common.{◌∙◌, sym}
use Rattle.cmwq_model.specs.Prelude.{past_of}
use Rattle.cmwq_refinement.proofs.PlacesFit.{open_are_there}
use Rattle.cmwq_obstacle.proofs.Unstarted.{is_open}
use Rattle.cmwq_obstacle.proofs.keeper.keeper_of.Goals as goal

pub of_queueing-requires-clause-open : goal.of_queueing-requires-clause-open
of_queueing-requires-clause-open c =
    is_open (past_of c.args.state.now.entries) c.args.item.0 c.in_ok-queueing.queueing
    (sym c.unstarted.ensures ∙ c.in_ok-queueing.was)

pub of_queueing-requires-clause-there : goal.of_queueing-requires-clause-there
of_queueing-requires-clause-there c =
    open_are_there c.args.state.now.layout (past_of c.args.state.now.entries) c.in_ok-queueing.queueing
    c.owing-owing.ensures.legal (of_queueing-requires-clause-open c)

pub keeper-requires-clause-there : goal.keeper-requires-clause-there
keeper-requires-clause-there c =
    let past = past_of c.args.state.now.entries in
    open_are_there c.args.state.now.layout past c.in_ok-queueing.queueing c.owing-owing.ensures.legal
    (is_open past c.args.item.0 c.in_ok-queueing.queueing (sym c.unstarted.ensures ∙ c.in_ok-queueing.was))
