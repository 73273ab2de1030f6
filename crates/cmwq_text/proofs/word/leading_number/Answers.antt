use Rattle.cmwq_text.specs.Common.{◌∙◌, sym}
use Rattle.cmwq_text.proofs.Leading.{ends_at_end, ends_at_space, ends_elsewhere}
use Rattle.cmwq_text.proofs.word.leading_number.Goals as goal

pub returns-in-empty-clause-exact : goal.returns-in-empty-clause-exact
returns-in-empty-clause-exact c =
    let d = c.leading_digits-value in
    c.at_most.ensures
    ∙ sym (ends_at_end c.args.limit d.result.0 c.args.bytes.now d.result.1.now d.ensures c.in-empty.len_below)

pub returns-then-byte-eq32-clause-exact : goal.returns-then-byte-eq32-clause-exact
returns-then-byte-eq32-clause-exact c =
    let d = c.leading_digits-value in
    c.at_most-then-byte-eq32.ensures
    ∙ rw c.of.ensures
    (sym (ends_at_space c.args.limit d.result.0 c.args.bytes.now d.result.1.now d.ensures c.in-len1-up.len_at_least
    c.if-byte-eq32.true))

pub returns-else-is_ascii_digit-clause-exact : goal.returns-else-is_ascii_digit-clause-exact
returns-else-is_ascii_digit-clause-exact c =
    let d = c.leading_digits-value in
    sym (ends_elsewhere c.args.limit d.result.0 c.args.bytes.now d.result.1.now d.ensures c.in-len1-up.len_at_least
    c.if-byte-eq32.false (sym c.is_ascii_digit.ensures.value ∙ c.if-is_ascii_digit.false))
