use Rattle.cmwq_pwq.specs.Common.{◌≡◌, ◌∙◌, ◌+◌, Some, sym, ap}
use Rattle.std.specs.Prelude.{option_and_then, slice_get}
use Rattle.cmwq_list.specs.Lists.{list_at}
use Rattle.cmwq_pwq.proofs.Kept.{item_at, read_at}
use Rattle.cmwq_pwq.proofs.waiting.Waiting.next.Goals as goal

pub returns : goal.returns
returns c =
    let s = c.self.inside in let xs = list_at s.all.lists 0 in
    rw (← c.self.view_is) (λ k at.
    let here : slice_get xs k ≡ Some c.from.result = (item_at s.rows xs k c.args.queueing c.self.invariant.each at).0
    ∙ ap Some (sym c.from.ensures) in
    c.row.ensures
    ∙ (ap (option_and_then (slice_get s.rows)) (c.next.ensures 0 k here)
    ∙ read_at s.rows xs (k + 1) c.self.invariant.each))
