use Rattle.std.proofs.Common.{◌∙◌, ap, Option, Some, None, refl, ◌≡◌}
use Rattle.std.specs.Borrow.{Bor}
use Rattle.std.specs.Prelude.{is_some, option_map}
use Rattle.clap.specs.Words.{Text, found_of}
use Rattle.clap.proofs.WalkLemmas.{first_value-rows}
use Rattle.cmwq_cli.proofs.options.has_text.Goals as goal

some_of_texts : (text : Option (Bor Text)) → is_some text ≡ is_some (option_map (λ (t : Bor Text). t.now) text)
some_of_texts None = refl
some_of_texts (Some t) = refl

pub returns : goal.returns
returns c =
    c.is_some.ensures ∙ some_of_texts c.get_str.result
    ∙ ap (λ (t : Option Text). is_some t)
    (c.get_str.ensures ∙ first_value-rows (found_of c.args.matches.now) c.args.name.now)
