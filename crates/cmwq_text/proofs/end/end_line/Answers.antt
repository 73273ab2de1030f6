use Rattle.std.specs.Prelude.{◌∷◌, [], codes, decimal}
use Rattle.cmwq_text.specs.EndText.{end_text}
use Rattle.cmwq_text.proofs.Spacing.{line_is}
use Rattle.cmwq_text.proofs.end.end_line.Goals as goal

pub returns : goal.returns
unfolding end_text
returns c =
    rw (c.push-2.ensures.exact, c.push_numbers.ensures.exact, c.push.ensures.exact, c.new-line.ensures)
    (line_is (codes "end") (decimal c.args.entries ∷ []))
