use Rattle.cmwq_flush.specs.Common.{◌≡◌, ◌<◌, ℕ, ◌+◌, Option, List, true, false, sym, ap, ◌∙◌, arith, nat_tests}
use Rattle.std.specs.Prelude.{◌*◌}
use Rattle.std.proofs.Common.{ap₂}
use Rattle.cmwq_flush.specs.ItemNumbers.{numbers_open}
use Rattle.cmwq_flush.specs.Openings.{by_age, node_number, opened_by}
use Rattle.cmwq_flush.specs.declared.openings.Row.{Row}
use Rattle.cmwq_flush.proofs.NodeNumbers.{item_inside, opened_at, ordered}
use Rattle.cmwq_flush.proofs.openings.Openings.of_item.Goals as goal

read : (lists : List (List ℕ)) (rows : List Row) (items i node : ℕ) (o p : Option ℕ) → i < items → node ≡ i
    → o ≡ node_number lists rows (2 * node) → p ≡ node_number lists rows (2 * node + 1)
    → by_age o p ≡ numbers_open (opened_by lists rows items) i
read lists rows items i node o p there at first second =
    ap₂ by_age (first ∙ ap (λ k. node_number lists rows (2 * k)) at)
    (second ∙ ap (λ k. node_number lists rows (2 * k + 1)) at) ∙ sym (opened_at lists rows items i there)

pub number_at-requires-clause-there : goal.number_at-requires-clause-there
number_at-requires-clause-there c =
    let s = c.self.inside in
    let there = item_inside s.lists.lists s.rows s.items c.args.item.0 (rw (← c.self.view_is) at c.requires) in
    omega (arith, c.from-node.ensures, c.self.invariant.nodes)

pub number_at-requires-2-clause-there : goal.number_at-requires-2-clause-there
number_at-requires-2-clause-there c =
    let s = c.self.inside in
    let there = item_inside s.lists.lists s.rows s.items c.args.item.0 (rw (← c.self.view_is) at c.requires) in
    omega (arith, c.from-node.ensures, c.self.invariant.nodes)

pub returns-in-None-None-clause-numbers : goal.returns-in-None-None-clause-numbers
returns-in-None-None-clause-numbers c =
    let s = c.self.inside in
    let there = item_inside s.lists.lists s.rows s.items c.args.item.0 (rw (← c.self.view_is) at c.requires) in
    rw (← c.self.view_is) (ap₂ by_age (sym c.in-None-None.is-0) (sym c.in-None-None.is-1)
    ∙ read s.lists.lists s.rows s.items c.args.item.0 c.from-node.result _ _ there c.from-node.ensures
    c.number_at.ensures c.number_at-2.ensures)

pub returns-in-None-Some-clause-numbers : goal.returns-in-None-Some-clause-numbers
returns-in-None-Some-clause-numbers c =
    let s = c.self.inside in
    let there = item_inside s.lists.lists s.rows s.items c.args.item.0 (rw (← c.self.view_is) at c.requires) in
    rw (← c.self.view_is) (ap₂ by_age (sym c.in-None-Some.is-0) (sym c.in-None-Some.is-1)
    ∙ read s.lists.lists s.rows s.items c.args.item.0 c.from-node.result _ _ there c.from-node.ensures
    c.number_at.ensures c.number_at-2.ensures)

pub returns-in-Some-None-clause-numbers : goal.returns-in-Some-None-clause-numbers
returns-in-Some-None-clause-numbers c =
    let s = c.self.inside in
    let there = item_inside s.lists.lists s.rows s.items c.args.item.0 (rw (← c.self.view_is) at c.requires) in
    rw (← c.self.view_is) (ap₂ by_age (sym c.in-Some-None.is-0) (sym c.in-Some-None.is-1)
    ∙ read s.lists.lists s.rows s.items c.args.item.0 c.from-node.result _ _ there c.from-node.ensures
    c.number_at.ensures c.number_at-2.ensures)

pub returns-in-Some-Some-clause-numbers : goal.returns-in-Some-Some-clause-numbers
returns-in-Some-Some-clause-numbers c =
    let s = c.self.inside in
    let there = item_inside s.lists.lists s.rows s.items c.args.item.0 (rw (← c.self.view_is) at c.requires) in
    rw (← c.self.view_is) (sym (ordered c.in-Some-Some.one c.in-Some-Some.other true (grind (arith, nat_tests)))
    ∙ ap₂ by_age (sym c.in-Some-Some.is-0) (sym c.in-Some-Some.is-1)
    ∙ read s.lists.lists s.rows s.items c.args.item.0 c.from-node.result _ _ there c.from-node.ensures
    c.number_at.ensures c.number_at-2.ensures)

pub returns-in-Some-Some-2-clause-numbers : goal.returns-in-Some-Some-2-clause-numbers
returns-in-Some-Some-2-clause-numbers c =
    let s = c.self.inside in
    let there = item_inside s.lists.lists s.rows s.items c.args.item.0 (rw (← c.self.view_is) at c.requires) in
    rw (← c.self.view_is) (sym (ordered c.in-Some-Some.one c.in-Some-Some.other false (grind (arith, nat_tests)))
    ∙ ap₂ by_age (sym c.in-Some-Some.is-0) (sym c.in-Some-Some.is-1)
    ∙ read s.lists.lists s.rows s.items c.args.item.0 c.from-node.result _ _ there c.from-node.ensures
    c.number_at.ensures c.number_at-2.ensures)
