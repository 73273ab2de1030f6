use Rattle.cmwq_text.specs.Common.{◌∙◌, ap, ℕ, List, ◌∷◌, ◌++◌, [], codes, decimal}
use Rattle.cmwq_text.specs.ShapeText.{flags_in, flags_text, queue_text}
use Rattle.cmwq_text.proofs.Spacing.{line_is, behind}
use Rattle.cmwq_text.proofs.spelling.queue_line.Goals as goal

pub returns : goal.returns
unfolding queue_text
returns c =
    let q = c.args.queue.now in
    let f : List ℕ = flags_text (flags_in q) in
    rw (
      c.push-4.ensures.exact,
      c.push-3.ensures.exact,
      c.flags_text.ensures.exact,
      c.push-2.ensures.exact,
      c.push_numbers.ensures.exact,
      c.push.ensures.exact,
      c.new-line.ensures,
      c.into.ensures,
    )
    (ap (λ (t : List ℕ). t ++ 10 ∷ []) (behind (codes "wq") (decimal q.max_active ∷ []) f)
    ∙ line_is (codes "wq") (decimal q.max_active ∷ f ∷ []))
