use Rattle.cmwq_explore.proofs.Joining.{tells_at_end}
use Rattle.cmwq_explore.proofs.search.Search.end.Goals as goal

pub returns-clause-tells : goal.returns-clause-tells
returns-clause-tells g c = λ rests depth.
    tells_at_end c.standing_still-standing.result c.at_end.result c.args.play.now c.at_end.ensures.ended
    c.at_end.ensures.stuck
    c.standing_still-standing.ensures.ended c.standing_still-standing.ensures.stuck
    c.standing_still-standing.ensures.goes rests depth
