use Rattle.std.proofs.Common.{◌+◌, drop, sym, ap, ◌∙◌, arith, if◌then◌else◌}
use Rattle.cmwq_chart_text.specs.Filled.{plain_length}
use Rattle.cmwq_chart_text.proofs.Filling.{plain_at, plain_end}
use Rattle.cmwq_chart_text.proofs.filled.plain_length.Goals as goal

pub returns-then-is_hole-clause-length : goal.returns-then-is_hole-clause-length
returns-then-is_hole-clause-length c =
    let t = c.args.template.now in
    let at = plain_at t c.loop-k.k 0 c.loop-k-test.true
    ∙ ap (λ b. if b then 0 else 1 + plain_length (drop (c.loop-k.k + 1) t))
    (sym c.is_hole.ensures ∙ c.if-is_hole.true) in
    omega (arith, at, c.loop-k.invariant)

pub loop-k-preserved : goal.loop-k-preserved
loop-k-preserved c =
    let t = c.args.template.now in
    let at = plain_at t c.loop-k.k 0 c.loop-k-test.true
    ∙ ap (λ b. if b then 0 else 1 + plain_length (drop (c.loop-k.k + 1) t))
    (sym c.is_hole.ensures ∙ c.if-is_hole.false) in
    omega (arith, at, c.loop-k.invariant)

pub returns-clause-length : goal.returns-clause-length
returns-clause-length c =
    let t = c.args.template.now in
    let at = plain_end t c.loop-k.k (omega arith) in
    omega (arith, at, c.loop-k.invariant)
