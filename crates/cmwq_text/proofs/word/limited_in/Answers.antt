use Rattle.cmwq_text.specs.Common.{◌≡◌, ◌∙◌, ap, sym, Some}
use Rattle.cmwq_text.specs.Words.{words_of, words_left}
use Rattle.cmwq_text.proofs.Leading.{not_begun, begun}
use Rattle.cmwq_text.proofs.word.limited_in.Goals as goal

pub returns-then-not-begins_number-clause-exact : goal.returns-then-not-begins_number-clause-exact
returns-then-not-begins_number-clause-exact c =
    let all : words_of c.in_ok-bytes.bytes.now ≡ c.args.words.now = ap words_left (sym c.in_ok-bytes.was)
    ∙ c.words.view_is in
    rw (← all)
    (not_begun c.args.limit (words_of c.in_ok-bytes.bytes.now)
    (sym (ap Some c.if-not-begins_number.true) ∙ c.begins_number.ensures))

pub returns-in_err-number-clause-exact : goal.returns-in_err-number-clause-exact
returns-in_err-number-clause-exact c =
    let all : words_of c.in_ok-bytes.bytes.now ≡ c.args.words.now = ap words_left (sym c.in_ok-bytes.was)
    ∙ c.words.view_is in
    let same =
    begun c.args.limit (words_of c.in_ok-bytes.bytes.now)
    (sym (ap Some c.if-not-begins_number.false) ∙ c.begins_number.ensures) in
    rw (c.from_residual-in_err-number.ensures, ← all) (sym c.in_err-number.was ∙ c.leading_number.ensures.exact
    ∙ sym same)

pub returns-clause-exact : goal.returns-clause-exact
returns-clause-exact c =
    let all : words_of c.in_ok-bytes.bytes.now ≡ c.args.words.now = ap words_left (sym c.in_ok-bytes.was)
    ∙ c.words.view_is in
    let same =
    begun c.args.limit (words_of c.in_ok-bytes.bytes.now)
    (sym (ap Some c.if-not-begins_number.false) ∙ c.begins_number.ensures) in
    ap (λ words. Some (c.in_ok-number.number, words)) c.words-2.view_is
    ∙ rw (← all) (sym c.in_ok-number.was ∙ c.leading_number.ensures.exact ∙ sym same)
