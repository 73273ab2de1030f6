use Rattle.cmwq_chart_levels.proofs.Places.{places_are, places_few}
use Rattle.cmwq_model.specs.Prelude.{past_of}
use Rattle.cmwq_chart_levels.proofs.shapes.places_of.Goals as goal

pub returns-clause-places : goal.returns-clause-places
returns-clause-places c =
    places_are c.args.shape.now (past_of c.args.seen.now.entries.items) c.args.seen.now c.counts-counts.ensures.limits
    c.requires _ (rw (c.as_slice-used.ensures.value, c.as_slice-running.ensures.value) at c.in_ok-places.ensures)

pub returns-clause-few : goal.returns-clause-few
returns-clause-few c =
    places_few c.args.shape.now (past_of c.args.seen.now.entries.items) c.args.seen.now c.counts-counts.ensures.limits
    c.requires _ (rw (c.as_slice-used.ensures.value, c.as_slice-running.ensures.value) at c.in_ok-places.ensures)
