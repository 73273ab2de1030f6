use Rattle.std.proofs.Common.{[], rules, sym, ap, subst}
use Rattle.cmwq_model.specs.Prelude.{past_of, queueings}
use Rattle.cmwq_chart.specs.Levels.{level_number_of, levels_ended, most_places}
use Rattle.cmwq_chart.specs.Marks.{AreMarks}
use Rattle.cmwq_chart.proofs.Marked.{none_marked}
use Rattle.cmwq_chart_levels.proofs.seen.SeenFold.begin.Goals as goal

pub returns : goal.returns
unfolding queueings levels_ended
returns c =
    let empty = c.in_ok-vec.ensures.items_if_clones_equal (λ y h. search rules) in
    record {
      entries = ap past_of c.new.ensures.items;
      intervals = c.in_ok-new.ensures;
      used = subst (AreMarks level_number_of [] most_places) (sym empty) (none_marked level_number_of most_places);
      levels = record { ended_are = c.new-3.ensures.items; running_are = c.in_ok-first_levels.ensures };
    }
