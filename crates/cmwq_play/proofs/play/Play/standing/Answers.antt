use Rattle.std.proofs.Common.{◌∙◌, sym, arith}
use Rattle.cmwq_play.proofs.Moving.{none_more, rests_past}
use Rattle.cmwq_play.proofs.play.Play.standing.Goals as goal

pub loop-party-init : goal.loop-party-init
loop-party-init c = λ j less. absurd (omega arith)

pub returns-then-may_move-clause-ended : goal.returns-then-may_move-clause-ended
returns-then-may_move-clause-ended c = λ e. absurd cc

pub returns-then-may_move-clause-stuck : goal.returns-then-may_move-clause-stuck
returns-then-may_move-clause-stuck c = λ e. absurd cc

pub returns-then-may_move-clause-goes : goal.returns-then-may_move-clause-goes
returns-then-may_move-clause-goes c = λ e rests.
    let no = rests c.loop-party.party in
    let yes = sym c.may_move.ensures ∙ c.if-may_move.true in
    cc

pub loop-party-preserved : goal.loop-party-preserved
loop-party-preserved c = λ j less.
    none_more c.args.self.now c.loop-party.party c.loop-party.invariant (sym c.may_move.ensures ∙ c.if-may_move.false) j
    (omega arith)

pub returns-clause-ended : goal.returns-clause-ended
returns-clause-ended c = λ e.
    let end = c.parties-party-end.ensures in
    let past = c.loop-party-test.false in (
      rests_past c.args.self.now c.loop-party.party (omega arith) c.loop-party.invariant,
      c.standing_still.ensures.ended e,
    )

pub returns-clause-stuck : goal.returns-clause-stuck
returns-clause-stuck c = λ e.
    let end = c.parties-party-end.ensures in
    let past = c.loop-party-test.false in (
      rests_past c.args.self.now c.loop-party.party (omega arith) c.loop-party.invariant,
      c.standing_still.ensures.stuck e,
    )

pub returns-clause-goes : goal.returns-clause-goes
returns-clause-goes c = λ e rests. c.standing_still.ensures.goes e
