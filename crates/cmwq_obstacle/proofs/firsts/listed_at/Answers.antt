use Rattle.std.proofs.Common.{◌∙◌, sym}
use Rattle.cmwq_model.specs.Prelude.{past_of}
use Rattle.cmwq_refinement.proofs.PlacesFit.{open_are_there}
use Rattle.cmwq_obstacle.proofs.FirstItems.{place_is_there}
use Rattle.cmwq_obstacle.proofs.Unstarted.{is_open}
use Rattle.cmwq_obstacle.proofs.firsts.listed_at.Goals as goal

pub active_place-requires : goal.active_place-requires
active_place-requires c =
    is_open (past_of c.args.state.now.entries) c.args.item.0 c.in-Some.queueing (sym c.unstarted.ensures ∙ c.in-Some.is)

pub returns-in-Some-clause-there : goal.returns-in-Some-clause-there
returns-in-Some-clause-there c =
    let past = past_of c.args.state.now.entries in
    let x = c.in-Some.queueing in
    place_is_there c.args.state.now.layout past x c.active_place.result
    (open_are_there c.args.state.now.layout past x c.owing-owing.ensures.legal
    (is_open past c.args.item.0 x (sym c.unstarted.ensures ∙ c.in-Some.is)))
    c.active_place.ensures
