use Rattle.cmwq_flush.specs.Common.{◌≡◌, ◌+◌, cond, is_some, true, false, sym, ap, ◌∙◌}
use Rattle.std.specs.Prelude.{◌*◌}
use Rattle.cmwq_flush.specs.Openings.{is_node_listed}
use Rattle.cmwq_flush.proofs.Nodes.{listed_found}
use Rattle.cmwq_flush.proofs.openings.free_node.Goals as goal

pub returns-then-is_some : goal.returns-then-is_some
returns-then-is_some c =
    let i = c.args.item.0 in let lists = c.args.lists.now.lists in
    let at : 2 * c.from-node.result ≡ 2 * i = ap (λ n. 2 * n) c.from-node.ensures in
    let some : is_node_listed lists (2 * i) ≡ true =
    ap (is_node_listed lists) (sym at) ∙ sym (listed_found lists (2 * c.from-node.result))
    ∙ sym (ap is_some c.list_of.ensures) ∙ sym c.is_some.ensures ∙ c.if-is_some.true in
    ap (λ n. n + 1) at ∙ sym (ap (λ b. cond b (2 * i + 1) (2 * i)) some)

pub returns-else-is_some : goal.returns-else-is_some
returns-else-is_some c =
    let i = c.args.item.0 in let lists = c.args.lists.now.lists in
    let at : 2 * c.from-node.result ≡ 2 * i = ap (λ n. 2 * n) c.from-node.ensures in
    let none : is_node_listed lists (2 * i) ≡ false =
    ap (is_node_listed lists) (sym at) ∙ sym (listed_found lists (2 * c.from-node.result))
    ∙ sym (ap is_some c.list_of.ensures) ∙ sym c.is_some.ensures ∙ c.if-is_some.false in
    at ∙ sym (ap (λ b. cond b (2 * i + 1) (2 * i)) none)
