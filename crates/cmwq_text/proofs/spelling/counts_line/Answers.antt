use Rattle.std.specs.Prelude.{◌∷◌, [], codes, decimal}
use Rattle.cmwq_text.specs.ShapeText.{counts_text}
use Rattle.cmwq_text.proofs.Spacing.{line_is}
use Rattle.cmwq_text.proofs.spelling.counts_line.Goals as goal

pub returns : goal.returns
unfolding counts_text
returns c =
    let n = c.args.counts.now in
    rw (
      c.push-2.ensures.exact,
      c.push_numbers.ensures.exact,
      c.push.ensures.exact,
      c.new-line.ensures,
      c.into.ensures,
      c.into-2.ensures,
      c.into-3.ensures,
      c.into-4.ensures,
    )
    (line_is (codes "shape") (decimal n.cpus ∷ decimal n.workers ∷ decimal n.callers ∷ decimal n.items ∷ decimal n.room
    ∷ []))
