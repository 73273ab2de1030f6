use Rattle.cmwq_base.proofs.UsualLines.{call_alone}
use Rattle.cmwq_base.proofs.usual.alone.Goals as goal

pub returns : goal.returns
returns c = call_alone c.args.bytes.now c.args.text.now c.in_ok-left.left.now c.args.call c.requires c.in_ok-left.ensures
