use Rattle.std.proofs.Common.{◌∙◌, false, ap, codes, Option, List, ℕ}
use Rattle.std.specs.Option.{option_map_or}
use Rattle.std.specs.Str.{bytes_eq}
use Rattle.clap.specs.Words.{found_of}
use Rattle.clap.proofs.WalkLemmas.{one_text-rows}
use Rattle.cmwq_cli.proofs.Truth.{truth_of_text}
use Rattle.cmwq_cli.proofs.options.has_flag.Goals as goal

pub returns : goal.returns
returns c =
    c.unwrap_or.ensures ∙ truth_of_text _ _ c.get_one.result c.get_one.ensures.none c.get_one.ensures.value
    ∙ ap (λ (text : Option (List ℕ)). option_map_or (λ t. bytes_eq t (codes "true")) text false)
    (one_text-rows (found_of c.args.matches.now) c.args.name.now)
