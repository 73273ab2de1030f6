use Rattle.cmwq_core.specs.Common.{◌≡◌, ◌≤◌, length, take, sym, ◌∙◌, arith, true, false, length-take-le, past_of}
use Rattle.cmwq_core.proofs.Judging.{judged_first, judged_more, room_for, time_for}
use Rattle.cmwq_model.proofs.Growing.{first_wrong}
use Rattle.cmwq_core.proofs.judge.verdict.Goals as goal

pub loop-at-init : goal.loop-at-init
loop-at-init c = judged_first c.args.entries.now c.args.judge.now c.requires.fresh

pub loop-at-preserved : goal.loop-at-preserved
loop-at-preserved c =
    let seen = rw c.in-Ok-Ok.field-0-is at c.in-Ok-Ok.ensures.seen in
    rw seen (judged_more c.args.judge.now.layout c.args.entries.now c.loop-at.at _ c.loop-at.judge c.loop-at-test.true
    c.loop-at.invariant c.ticks-ticks.ensures.small)

pub returns-in-Ok-Err-clause-illegal : goal.returns-in-Ok-Err-clause-illegal
returns-in-Ok-Err-clause-illegal c =
    let legal = rw c.loop-at.invariant.seen at c.len-len.ensures.legal in
    let wrong = rw (c.in-Ok-Err.field-0-is, c.loop-at.invariant.seen) at c.in-Ok-Err.ensures.wrong in
    first_wrong c.args.judge.now.layout c.args.entries.now c.loop-at.at _ c.in-Ok-Err.wanted c.loop-at-test.true legal
    wrong

-- a right entry has room
pub unreachable-requires : goal.unreachable-requires
unreachable-requires c =
    let some = take c.loop-at.at c.args.entries.now in
    let inside = rw c.loop-at.invariant.seen at c.len-len.ensures.inside in
    let full = rw c.loop-at.invariant.seen at c.in-Err.ensures.full in
    let few : length some ≤ 1073741824 = omega (arith, length-take-le c.loop-at.at c.args.entries.now (omega arith)) in
    let time =
    time_for (past_of some) _ c.loop-at.at c.loop-at.invariant.soon (omega arith) c.ticks-ticks.ensures.small in
    let no : false ≡ true = sym full.1 ∙ room_for c.args.judge.now.layout some _ inside few time full.0 in
    cc
