use Rattle.std.proofs.Common.{◌++◌, filter, ap, ◌∙◌}
use Rattle.cmwq_model.specs.Prelude.{past_of}
use Rattle.cmwq_chart_levels.specs.Seen.{is_level_used}
use Rattle.cmwq_chart_levels.proofs.Places.{levels_are}
use Rattle.cmwq_chart_levels.proofs.shapes.levels_of.Goals as goal

pub returns : goal.returns
returns c =
    let seen = c.args.seen.now in
    let first = rw (c.as_slice-used.ensures.value, c.as_slice-ended.ensures.value) at c.in_ok-push_used.ensures in
    let second = rw (c.as_slice-used.ensures.value, c.as_slice-running.ensures.value) at c.in_ok-push_used-2.ensures in
    let shows = filter (is_level_used seen.used.items) in
    levels_are c.args.shape.now (past_of seen.entries.items) seen c.counts-counts.ensures.limits c.requires _
    (second ∙ ap (λ l. l ++ shows seen.running.items) (first ∙ ap (λ l. l ++ shows seen.ended.items) c.new-levels.ensures.items))
