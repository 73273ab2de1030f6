use Rattle.std.proofs.Common.{◌∙◌, sym, codes}
use Rattle.clap.specs.Words.{found_of, rows_of}
use Rattle.clap.proofs.WalkLemmas.{first_value-rows}
use Rattle.cmwq_cli.proofs.Commands.{other_first, other_second}
use Rattle.cmwq_cli.proofs.word.other_found.Goals as goal

pub returns-in-Some : goal.returns-in-Some
returns-in-Some c =
    let found = found_of c.args.matches.now in
    let is = rw c.in-Some.is at (c.get_str.ensures ∙ first_value-rows found (codes "names")) in
    other_first (rows_of found) c.in-Some.name.now (sym is)

pub returns-in-None : goal.returns-in-None
returns-in-None c =
    let found = found_of c.args.matches.now in
    let none = rw c.in-None.is at (c.get_str.ensures ∙ first_value-rows found (codes "names")) in
    other_second (rows_of found) _ (sym none) c.followed_found.ensures
