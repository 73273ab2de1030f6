use Rattle.std.specs.Prelude.{is_some}
use Rattle.std.proofs.Common.{ap, arith, ◌∙◌, sym}
use Rattle.cmwq_board.specs.Waits.{has_sought}
use Rattle.cmwq_board.proofs.Sought.{find_here, find_later}
use Rattle.cmwq_board.proofs.board.Board.place_with.Goals as goal

pub returns-then-is_some-clause-is : goal.returns-then-is_some-clause-is
returns-then-is_some-clause-is c =
    let less = c.loop-place-test.true in
    sym (c.loop-place.invariant.2
    ∙ find_here (has_sought c.args.self.now c.args.sought) c.loop-place.place c.len-places.result (omega (arith, less))
    (sym (c.is_some.ensures ∙ ap (λ o. is_some o) c.sought_at.ensures) ∙ c.if-is_some.true))

pub loop-place-preserved : goal.loop-place-preserved
loop-place-preserved c =
    let less = c.loop-place-test.true in (
      c.loop-place.invariant.0,
      omega (arith, less),
      c.loop-place.invariant.2
          ∙ find_later (has_sought c.args.self.now c.args.sought) c.loop-place.place c.len-places.result
          (omega (arith, less))
          (sym (c.is_some.ensures ∙ ap (λ o. is_some o) c.sought_at.ensures) ∙ c.if-is_some.false),
    )
