use Rattle.cmwq_base.proofs.UsualLines.{reply_alone}
use Rattle.cmwq_base.proofs.usual.word_alone.Goals as goal

pub returns : goal.returns
returns c =
    reply_alone c.args.bytes.now c.args.word.now c.in_ok-left.left.now c.args.reply c.requires c.in_ok-left.ensures
