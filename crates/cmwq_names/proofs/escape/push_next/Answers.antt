use Rattle.std.proofs.Common.{◌≡◌, ◌∙◌, ◌++◌, ap, arith, drop, sym}
unfoldable use Rattle.cmwq_names.specs.Escapes.{escaped_behind}
use Rattle.cmwq_names.proofs.Escaping.{escaped_on, skipped}
use Rattle.cmwq_names.proofs.escape.push_next.Goals as goal

pub returns-then-more-gt0 : goal.returns-then-more-gt0
returns-then-more-gt0 c =
    skipped c.args.form c.args.text.now c.args.out.now.items c.args.more c.requires c.if-more-gt0.true

pub returns : goal.returns
returns c =
    let none : c.args.more ≡ 0 = let least = c.if-more-gt0.false in omega arith in
    let out = c.push_first.new.out.items in
    let rest = drop 1 c.args.text.now in
    ap (λ n. out ++ escaped_behind n c.args.form rest) c.in_ok-left.ensures.more
    ∙ escaped_on c.args.form c.args.text.now c.args.out.now.items out c.requires c.in_ok-left.ensures.text
    ∙ ap (λ n. c.args.out.now.items ++ escaped_behind n c.args.form c.args.text.now) (sym none)
