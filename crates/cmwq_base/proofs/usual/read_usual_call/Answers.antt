use Rattle.std.proofs.Common.{◌∙◌, sym}
use Rattle.cmwq_base.proofs.UsualLines.{usual_call}
use Rattle.cmwq_base.proofs.usual.read_usual_call.Goals as goal

pub returns-then-is_of_kind : goal.returns-then-is_of_kind
returns-then-is_of_kind c v =
    usual_call v c.args.bytes.now c.in_ok-who.left.now c.in_ok-call.left.now c.in_ok-left.left.now c.in_ok-who.who
    c.in_ok-call.call c.in_ok-who.ensures c.in_ok-call.ensures c.in_ok-left.ensures
    (sym c.is_of_kind.ensures ∙ c.if-is_of_kind.true)
