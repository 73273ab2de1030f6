use Rattle.std.proofs.Common.{◌∷◌, arith}
use Rattle.cmwq_chart_levels.proofs.Counts.{open_step, open_few}
use Rattle.cmwq_chart_levels.proofs.heights.open_at.Goals as goal

pub open_after-requires : goal.open_after-requires
open_after-requires c =
    let s = c.args.step.now in
    let step =
    open_step s.layout s.past s.entry s.told c.args.place c.args.before c.is_of_place-is_opened.result
    c.is_of_place-is_ended.result c.told-effect.ensures.next.told_is c.requires
    (rw c.told-effect.ensures.told at c.is_of_place-is_opened.ensures)
    (rw c.told-effect.ensures.told at c.is_of_place-is_ended.ensures) in
    let few = open_few (s.entry ∷ s.past) c.args.place in
    let all = rw c.state.ensures.past at c.open_count-all.ensures in
    record { few = omega (arith, step, few, all); some = omega (arith, step) }

pub returns : goal.returns
returns c =
    let s = c.args.step.now in
    let step =
    open_step s.layout s.past s.entry s.told c.args.place c.args.before c.is_of_place-is_opened.result
    c.is_of_place-is_ended.result c.told-effect.ensures.next.told_is c.requires
    (rw c.told-effect.ensures.told at c.is_of_place-is_opened.ensures)
    (rw c.told-effect.ensures.told at c.is_of_place-is_ended.ensures) in
    omega (arith, step, c.open_after.ensures)
