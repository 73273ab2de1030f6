use Rattle.std.proofs.Common.{◌≡◌, true, refl, ap, ◌∙◌}
use Rattle.std.specs.Prelude.{option_and_then}
use Rattle.std.proofs.lemmas.Result.{err_from_is_err_and}
use Rattle.clap.specs.Words.{App, is_simple, subcommand_of, takes}
use Rattle.cmwq_cli.specs.Word.{app, asked_found, is_word_taken, texts, word_matched}
use Rattle.cmwq_cli.proofs.word.word_in.Goals as goal

pub returns-in_err-matches-clause-err : goal.returns-in_err-matches-clause-err
unfolding is_word_taken
returns-in_err-matches-clause-err c =
    let p = err_from_is_err_and c.from_residual-in_err-matches.result c.from_residual-in_err-matches.ensures.1 in
    rw (p.1, p.2) (λ (taken : is_word_taken (texts c.args.words.now) ≡ true).
    c.in_err-matches.ensures.passes (ap (λ (a : App). takes a (texts c.args.words.now)) c.in_ok-command.ensures
    ∙ taken))

simple : is_simple app ≡ true
simple = refl

pub returns-clause-ok : goal.returns-clause-ok
unfolding word_matched
returns-clause-ok c =
    let all = c.in_ok-matches.ensures.matches (ap is_simple c.in_ok-command.ensures ∙ simple) in
    c.asked_in.ensures
    ∙ ap (λ o. option_and_then asked_found o)
    (all.1 ∙ ap (λ (a : App). subcommand_of a (texts c.args.words.now)) c.in_ok-command.ensures)
