use Rattle.std.proofs.Common.{◌∙◌, ap, Option, List, ℕ}
use Rattle.std.specs.Prelude.{option_and_then}
use Rattle.std.specs.Str.Parse.{ParsesUnsigned, ExplainsUnsignedError, HasUnsignedDigitsIfOk}
use Rattle.clap.specs.Words.{found_of}
use Rattle.clap.proofs.WalkLemmas.{one_text-rows}
use Rattle.cmwq_cli.specs.Explore.{number_of_text}
use Rattle.cmwq_cli.proofs.Numbers.{number_of_found}
use Rattle.cmwq_cli.proofs.options.number_found.Goals as goal

pub returns : goal.returns
returns c =
    number_of_found (λ bs r. ParsesUnsigned 64 10 bs r × ExplainsUnsignedError 10 bs r × HasUnsignedDigitsIfOk bs r)
    (λ text r g. g.0) _ c.get_one.result c.get_one.ensures.none c.get_one.ensures.value
    ∙ ap (λ (text : Option (List ℕ)). option_and_then number_of_text text)
    (one_text-rows (found_of c.args.matches.now) c.args.name.now)
