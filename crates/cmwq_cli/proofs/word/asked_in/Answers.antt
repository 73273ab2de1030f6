use Rattle.std.proofs.Common.{◌≡◌, List, Option, Some, None, sym, ap, ap₂, ◌∙◌}
use Rattle.std.specs.Prelude.{option_and_then, option_map}
use Rattle.std.proofs.lemmas.Option.{same_Some}
use Rattle.clap.specs.Words.{Row, Text}
use Rattle.cmwq_cli.specs.Word.{asked_found}
use Rattle.cmwq_cli.proofs.word.asked_in.Goals as goal

-- one command is found, by its name and its rows
the_found : {B : Type 0} (o : Option B) (n : B → Text) (r : B → List Row) (name : Text) (found : List Row)
    → Some name ≡ option_map n o
    → Some found ≡ option_map (λ (p : Text × List Row). p.1) (option_map {U = Text × List Row} (λ b. (n b, r b)) o)
    → option_map {U = Text × List Row} (λ b. (n b, r b)) o ≡ Some (name, found)
the_found None n r name found same_name same_rows = cc
the_found (Some b) n r name found same_name same_rows =
    ap₂ (λ (x : Text) (y : List Row). Some (x, y)) (sym (same_Some name (n b) same_name))
    (sym (same_Some found (r b) same_rows))

pub returns-in-Some : goal.returns-in-Some
returns-in-Some c =
    c.asked_found.ensures
    ∙ ap (λ o. option_and_then asked_found o) (sym (the_found _ _ _ _ _ c.in-Some.ensures.name c.in-Some.ensures.rows))
