use Rattle.cmwq_pwq.specs.Common.{◌≡◌, ◌<◌, ◌∙◌, sym, arith, length, All-from_recursion}
use Rattle.std.specs.Prelude.{map}
use Rattle.std.proofs.lemmas.List.{length-map}
use Rattle.cmwq_list.specs.Lists.{list_at}
use Rattle.cmwq_pwq.specs.Waiting.{row_of}
use Rattle.cmwq_pwq.proofs.Kept.{known_items}
use Rattle.cmwq_pwq.proofs.waiting.Waiting.len.Goals as goal

pub returns : goal.returns
returns c =
    let s = c.self.inside in let xs = list_at s.all.lists 0 in
    let many : length (map (row_of s.rows) xs) ≡ length xs = length-map xs (row_of s.rows) in
    let items = c.self.invariant.items in
    let len = c.len.ensures in
    rw (← c.self.view_is) (record {
      len = len.len ∙ sym many;
      few = omega arith;
      known = All-from_recursion (λ x. x.item.0 < length s.rows) (map (row_of s.rows) xs)
          (known_items s.rows xs c.self.invariant.each);
    })
