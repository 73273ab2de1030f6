use Rattle.std.proofs.Common.{arith}
use Rattle.cmwq_board.proofs.board.Board.caller_at.Goals as goal

pub overflow_cast-result : goal.overflow_cast-result
overflow_cast-result c =
    let few = c.first_lent.ensures.few in
    let small = c.first_lent.ensures.small in
    omega (arith, few, small)

pub overflow_add-result : goal.overflow_add-result
overflow_add-result c =
    let few = c.first_lent.ensures.few in
    let small = c.first_lent.ensures.small in
    let first = c.first_lent.ensures.first in
    omega (arith, few, small, first)
