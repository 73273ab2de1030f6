use Rattle.std.specs.Prelude.{◌∷◌, []}
use Rattle.cmwq_text.specs.CallText.{phrase}
use Rattle.cmwq_text.proofs.Spacing.{in_a_row}
use Rattle.cmwq_text.proofs.line.LineText.push_phrases.Goals as goal

pub returns-clause-exact : goal.returns-clause-exact
returns-clause-exact c =
    let a = c.args in
    rw (c.push_phrase-2.ensures.exact, c.push_phrase.ensures.exact)
    (in_a_row a.self.now (phrase a.first (a.number ∷ [])) (phrase a.second a.numbers.now))
