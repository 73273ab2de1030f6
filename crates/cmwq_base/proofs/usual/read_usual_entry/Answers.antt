use Rattle.std.proofs.Common.{◌∙◌, sym}
use Rattle.cmwq_base.proofs.UsualLines.{usual_entry}
use Rattle.cmwq_base.proofs.usual.read_usual_entry.Goals as goal

pub returns-then-is_of_kind : goal.returns-then-is_of_kind
returns-then-is_of_kind c =
    rw c.from-serial.ensures
    (usual_entry c.args.version c.args.bytes.now c.in_ok-who.left.now c.in_ok-serial.left.now c.in_ok-call.left.now
    c.in_ok-left.left.now c.in_ok-reply.left.now c.in_ok-left-2.left.now c.in_ok-who.who c.in_ok-serial.serial
    c.in_ok-call.call c.in_ok-reply.reply c.if-version-lt2.false c.in_ok-who.ensures c.in_ok-serial.ensures.exact
    c.in_ok-serial.ensures.few c.in_ok-call.ensures c.in_ok-left.ensures c.in_ok-reply.ensures c.in_ok-left-2.ensures
    (sym c.is_of_kind.ensures ∙ c.if-is_of_kind.true))
