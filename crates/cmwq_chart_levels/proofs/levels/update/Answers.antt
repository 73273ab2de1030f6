use Rattle.std.proofs.Common.{◌<◌, ◌∷◌, ◌++◌, length, option_to_list, sym, ap, ◌∙◌, arith, length-set}
use Rattle.std.specs.Prelude.{slice_set}
use Rattle.std.proofs.lemmas.List.Edits.{map_over_more}
use Rattle.cmwq_chart_levels.specs.Turns.{level_after, may_change}
use Rattle.cmwq_chart_levels.proofs.Turned.{turned, left_behind, untouched, one_more_ended, they_go_on}
use Rattle.cmwq_chart_levels.proofs.Unmoved.{unmoved, as_it_is, none_ended}
use Rattle.cmwq_chart_levels.proofs.levels.update.Goals as goal
use Rattle.cmwq_chart_levels.proofs.levels.update.Goals.{then-may_change+in_ok-push_if_some, else-may_change}

pub height_after-height-requires-clause-before : goal.height_after-height-requires-clause-before
height_after-height-requires-clause-before c =
    let s = c.args.step.now.layout in
    let past = c.args.step.now.past in
    let xs = c.args.running.now in
    let less : c.loop-k.k < length xs = omega (arith, c.loop-k.invariant.long) in
    let is = untouched s past c.args.step.now.entry xs c.loop-k.running c.loop-k.k c.level_at-before.result less
    c.loop-k.invariant.running c.level_at-before.ensures in
    (they_go_on s past xs c.loop-k.k c.level_at-before.result c.requires.running less is).height

pub height_after-height-requires-clause-inside : goal.height_after-height-requires-clause-inside
height_after-height-requires-clause-inside c =
    let s = c.args.step.now.layout in
    let past = c.args.step.now.past in
    let xs = c.args.running.now in
    let less : c.loop-k.k < length xs = omega (arith, c.loop-k.invariant.long) in
    let is = untouched s past c.args.step.now.entry xs c.loop-k.running c.loop-k.k c.level_at-before.result less
    c.loop-k.invariant.running c.level_at-before.ensures in
    (they_go_on s past xs c.loop-k.k c.level_at-before.result c.requires.running less is).inside

pub loop-k-preserved : goal.loop-k-preserved
loop-k-preserved c =
    let s = c.args.step.now.layout in
    let past = c.args.step.now.past in
    let e = c.args.step.now.entry in
    let xs = c.args.running.now in
    let x = c.level_at-before.result in
    let less : c.loop-k.k < length xs = omega (arith, c.loop-k.invariant.long) in
    let is = untouched s past e xs c.loop-k.running c.loop-k.k x less c.loop-k.invariant.running
    c.level_at-before.ensures in
    let goes = they_go_on s past xs c.loop-k.k x c.requires.running less is in
    let many = c.at-entries.ensures in
    elim c.if-may_change.branch [
      | then-may_change+in_ok-push_if_some w ↦
          let now =
          w.level_after.ensures
          ∙ turned s past e x _ _ _ goes many w.height_after-height.ensures w.is_changed-is_changed.ensures in
          let ended =
          w.level_ended.ensures
          ∙ left_behind s past e x _ _ _ goes many w.height_after-height.ensures w.is_changed-is_changed.ensures in
          record {
            running = w.running-is ∙ ap (slice_set c.loop-k.running c.loop-k.k) now
                ∙ map_over_more (level_after s (e ∷ past)) xs c.loop-k.running c.loop-k.k x less
                c.loop-k.invariant.running c.level_at-before.ensures;
            levels = ap (λ v. v.items) w.levels-is ∙ w.in_ok-push_if_some.ensures
                ∙ ap (λ l. l ++ option_to_list w.level_ended.result) c.loop-k.invariant.levels
                ∙ one_more_ended s past e xs c.args.levels.now.items c.loop-k.k x w.level_ended.result less is ended;
            long = ap length w.running-is ∙ length-set c.loop-k.running c.loop-k.k w.level_after.result
                ∙ c.loop-k.invariant.long;
          }
      | else-may_change w ↦
          let same =
          unmoved s past e c.args.step.now.told x.place c.told-effect.ensures.next.told_is
          (ap (λ f. may_change f x.place) (sym c.told-effect.ensures.told) ∙ sym c.may_change.ensures
          ∙ w.if-may_change.false) in
          record {
            running =
                w.running-is ∙ as_it_is s past e xs c.loop-k.running c.loop-k.k x less c.loop-k.invariant.running is
                goes same;
            levels = ap (λ v. v.items) w.levels-is
                ∙ none_ended s past e xs c.loop-k.levels.items c.args.levels.now.items c.loop-k.k x less
                c.loop-k.invariant.levels is same;
            long = ap length w.running-is ∙ c.loop-k.invariant.long;
          }
    ]
