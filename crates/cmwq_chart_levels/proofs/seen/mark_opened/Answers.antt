use Rattle.std.proofs.Common.{append-nil, sym, subst}
use Rattle.cmwq_chart.specs.Levels.{level_number_of, most_places}
use Rattle.cmwq_chart.specs.Marks.{AreMarks}
use Rattle.cmwq_chart_levels.proofs.Places.{one_opened}
use Rattle.cmwq_chart_levels.proofs.seen.mark_opened.Goals as goal

pub returns-in-Some : goal.returns-in-Some
returns-in-Some c = λ xs marks.
    rw c.in-Some.is
    (one_opened xs c.in-Some.queueing _ _ marks (rw c.place_number_of.ensures at c.mark.ensures))

pub returns-in-None : goal.returns-in-None
returns-in-None c = λ xs marks.
    rw c.in-None.is (subst (λ l. AreMarks level_number_of l most_places c.args.used.now.items) (sym (append-nil xs)) marks)
