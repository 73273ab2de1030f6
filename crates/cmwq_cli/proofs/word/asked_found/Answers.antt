use Rattle.std.proofs.Common.{◌∙◌, sym, codes}
use Rattle.clap.specs.Words.{found_of, rows_of}
use Rattle.clap.proofs.WalkLemmas.{first_value-rows}
use Rattle.cmwq_cli.proofs.Commands.{asked}
use Rattle.cmwq_cli.proofs.word.asked_found.Goals as goal

pub returns-in-Some : goal.returns-in-Some
returns-in-Some c =
    let found = found_of c.args.matches.now in
    asked c.args.name.now (rows_of found) c.in-Some.word c.has_flag.result _ _ _
    (sym c.word_found.ensures ∙ c.in-Some.is) c.has_flag.ensures
    (c.get_str.ensures ∙ first_value-rows found (codes "FILE"))
    c.other_found.ensures (c.get_str-in-Some.ensures ∙ first_value-rows found (codes "leave-out"))
