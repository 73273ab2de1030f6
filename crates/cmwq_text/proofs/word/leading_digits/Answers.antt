use Rattle.cmwq_text.specs.Common.{◌∙◌, sym}
use Rattle.cmwq_text.proofs.Leading.{one_leads}
use Rattle.cmwq_text.proofs.word.leading_digits.Goals as goal

pub loop-left-preserved : goal.loop-left-preserved
loop-left-preserved c =
    let l = c.loop-left in
    let digit = sym c.is_ascii_digit.ensures.value ∙ c.if-not-is_ascii_digit.false in
    rw c.from.ensures (one_leads c.args.bytes.now l.left.now l.value c.in-len1-up.len_at_least digit l.invariant)
