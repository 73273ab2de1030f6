use Rattle.std.specs.Option.{option_or}
use Rattle.std.proofs.Common.{ap, arith, ◌∙◌, sym}
use Rattle.cmwq_board.specs.Waits.{first_free, may_be_lent}
use Rattle.cmwq_board.proofs.Sought.{find_here, find_later}
use Rattle.cmwq_board.proofs.board.Board.lent_place.Goals as goal

pub returns-then-may_be_lent : goal.returns-then-may_be_lent
returns-then-may_be_lent c =
    let b = c.args.self.now in
    let less = c.loop-place-test.true in
    sym (ap (λ o. option_or o (first_free b.lent)) (c.loop-place.invariant.2
    ∙ find_here (may_be_lent b) c.loop-place.place c.len-places.result (omega (arith, less))
    (sym c.may_be_lent.ensures ∙ c.if-may_be_lent.true)))

pub loop-place-preserved : goal.loop-place-preserved
loop-place-preserved c =
    let less = c.loop-place-test.true in (
      c.loop-place.invariant.0,
      omega (arith, less),
      c.loop-place.invariant.2
          ∙ find_later (may_be_lent c.args.self.now) c.loop-place.place c.len-places.result (omega (arith, less))
          (sym c.may_be_lent.ensures ∙ c.if-may_be_lent.false),
    )
