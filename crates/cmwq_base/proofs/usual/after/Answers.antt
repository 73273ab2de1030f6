use Rattle.std.proofs.Common.{◌≡◌, length, arith}
use Rattle.std.proofs.lemmas.List.{take_more_same, take_rest}
use Rattle.cmwq_base.proofs.UsualLines.{after_word}
use Rattle.cmwq_base.proofs.usual.after.Goals as goal

pub loop-at-preserved : goal.loop-at-preserved
loop-at-preserved c =
    take_more_same c.args.bytes.now c.args.word.now c.loop-at.at 0 (omega arith) (omega arith) c.loop-at.invariant
    (omega arith)

pub returns : goal.returns
returns c =
    let all : c.loop-at.at ≡ length c.args.word.now = omega arith in
    rw (take_rest c.args.bytes.now (length c.args.word.now))
    (after_word c.args.bytes.now c.args.word.now (rw all at c.loop-at.invariant))
