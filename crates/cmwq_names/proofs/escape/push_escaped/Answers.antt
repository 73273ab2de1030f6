use Rattle.std.proofs.Common.{◌≡◌, ◌∙◌, ◌++◌, ℕ, List, ap, arith, length}
use Rattle.cmwq_names.specs.Escapes.{escaped}
unfoldable use Rattle.cmwq_names.specs.Escapes.{escaped_behind}
use Rattle.cmwq_names.proofs.Escaping.{all_escaped}
use Rattle.cmwq_names.proofs.escape.push_escaped.Goals as goal

pub loop-rest-preserved : goal.loop-rest-preserved
loop-rest-preserved c =
    ap (λ (rest : List ℕ). c.push_next.new.out.items ++ escaped_behind c.in_ok-more.more c.args.form rest)
    c.split_at.ensures.back
    ∙ c.in_ok-more.ensures ∙ c.loop-rest.invariant

pub returns : goal.returns
returns c =
    let l = c.loop-rest in
    let none : length l.rest.now ≡ 0 = grind (arith, c.is_empty.ensures, c.loop-rest-test.false) in
    all_escaped c.args.form l.rest.now l.out.items (c.args.out.now.items ++ escaped c.args.form c.args.name.now) l.more
    none l.invariant
