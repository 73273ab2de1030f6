use Rattle.cmwq_chart_levels.proofs.Outside.{both_moved}
use Rattle.cmwq_chart_levels.proofs.affected.places_moved.Goals as goal

pub returns-in-Some-Some : goal.returns-in-Some-Some
returns-in-Some-Some c =
    both_moved c.args.effect.now c.in-Some-Some.opened c.in-Some-Some.ended _ (c.in-Some-Some.is-0, c.in-Some-Some.is-1)
    c.two_places-in-Some-Some.ensures
