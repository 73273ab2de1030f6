use Rattle.std.proofs.Common.{length, sym, ap, ◌∙◌, subst}
use Rattle.std.proofs.lemmas.List.{length-map}
use Rattle.cmwq_chart.specs.Levels.{all_places, IsPlaceOf}
use Rattle.cmwq_chart_levels.specs.Affected.{AreLevelsInOrder}
use Rattle.cmwq_chart_levels.specs.Turns.{IsLevelAfter}
use Rattle.std.specs.List.{All}
use Rattle.cmwq_chart_levels.proofs.InOrder.{all_in_order, at_each, levels_in_order}
use Rattle.cmwq_chart_levels.proofs.Outside.{all_written}
use Rattle.cmwq_chart_levels.proofs.Places.{all_inside}
use Rattle.cmwq_chart_levels.proofs.Turned.{all_go_on, levels_next, running_next}
use Rattle.cmwq_chart_levels.proofs.seen.update_all.Goals as goal

pub update_affected-requires : goal.update_affected-requires
update_affected-requires c =
    let s = c.args.step.now.layout in
    let past = c.args.step.now.past in
    let next = c.told-effect.ensures.next in
    let now = c.deref_mut.ensures.value ∙ c.requires.levels.running_are in
    record {
      short = c.requires.short;
      running = subst (All (IsLevelAfter s past)) (sym now)
          (all_go_on s past (all_places s)
          (λ i d less. at_each (IsPlaceOf s) (all_places s) i d less (all_inside s next.inside)));
      effect = next.told_is;
      order = subst AreLevelsInOrder (sym now)
          (levels_in_order s past (all_places s) (all_in_order s next.inside));
    }

pub returns : goal.returns
returns c =
    let s = c.args.step.now.layout in
    let past = c.args.step.now.past in
    let e = c.args.step.now.entry in
    let i = c.requires.levels in
    let now = c.deref_mut.ensures.value ∙ i.running_are in
    let long = ap length c.in_ok-update_affected.ensures.running ∙ length-map c.deref_mut.result.now _
    ∙ ap length c.deref_mut.ensures.value in
    record {
      ended_are =
          levels_next s past e (all_places s) _ _ _ now i.ended_are c.in_ok-update_affected.ensures.levels;
      running_are = all_written c.update_affected.new.running c.args.running.now.items c.args.running.now.len c.args.running.now.ok.0 long
          ∙ running_next s past e (all_places s) _ _ now c.in_ok-update_affected.ensures.running;
    }
