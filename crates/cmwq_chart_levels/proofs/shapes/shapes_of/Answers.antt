use Rattle.std.proofs.Common.{◌≤◌, All, length, sym, ap, ◌∙◌, subst, arith}
use Rattle.std.proofs.lemmas.List.{length-map}
use Rattle.cmwq_model.specs.Prelude.{most_tickets, past_of}
use Rattle.cmwq_chart.specs.declared.waits.CallerLane.{CallerLane}
use Rattle.cmwq_chart.specs.CallerWaits.{caller_lane, caller_lanes_of, caller_waits_of, callers_of, wait_signs_of}
use Rattle.cmwq_chart.specs.Sleeps.{sleeps_of}
use Rattle.cmwq_chart.proofs.Few.{callers_of_past, few_callers, few_lanes, few_rows, lanes_of_past}
use Rattle.cmwq_chart_levels.proofs.shapes.shapes_of.Goals as goal

pub returns-clause-shapes : goal.returns-clause-shapes
returns-clause-shapes c =
    let s = c.args.shape.now in
    let entries = c.args.seen.now.entries.items in
    let past = past_of entries in
    let kept = c.requires.intervals in
    let callers = c.in_ok-callers.ensures s past kept in
    record {
      callers = callers.lanes ∙ ap (caller_lanes_of past) (callers_of_past s entries);
      waits = callers.waits ∙ ap (caller_waits_of past) (callers_of_past s entries);
      wait_signs = callers.signs ∙ ap (wait_signs_of past) (callers_of_past s entries);
      lanes = c.in_ok-lanes.ensures s past kept ∙ lanes_of_past s entries;
      bars = c.in_ok-bars.ensures s past kept;
      sleeps = c.in_ok-sleeps.ensures s past kept ∙ ap (sleeps_of past) (lanes_of_past s entries);
      signs = c.in_ok-signs.ensures s past kept;
      places = c.in_ok-places.ensures.places;
      levels = c.in_ok-levels.ensures;
    }

pub returns-clause-callers : goal.returns-clause-callers
returns-clause-callers c =
    let s = c.args.shape.now in
    let past = past_of c.args.seen.now.entries.items in
    let are = c.in_ok-callers.ensures s past c.requires.intervals in
    omega (
      arith,
      few_callers s past c.counts-counts.ensures.limits,
      ap length are.lanes
          ∙ length-map (callers_of s past) (caller_lane past),
    )

pub returns-clause-rows : goal.returns-clause-rows
returns-clause-rows c =
    let past = past_of c.args.seen.now.entries.items in
    let are = c.in_ok-callers.ensures c.args.shape.now past c.requires.intervals in
    subst (All (λ (lane : CallerLane). lane.rows ≤ most_tickets)) (sym are.lanes) (few_rows past _)

pub returns-clause-lanes : goal.returns-clause-lanes
returns-clause-lanes c =
    let s = c.args.shape.now in
    let past = past_of c.args.seen.now.entries.items in
    omega (
      arith,
      few_lanes s past c.counts-counts.ensures.limits,
      ap length (c.in_ok-lanes.ensures s past c.requires.intervals),
    )
