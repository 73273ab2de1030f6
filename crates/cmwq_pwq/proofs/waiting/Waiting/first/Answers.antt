use Rattle.cmwq_pwq.specs.Common.{◌∙◌, ap}
use Rattle.std.specs.Prelude.{option_and_then, slice_get}
use Rattle.cmwq_list.specs.Lists.{list_at}
use Rattle.cmwq_pwq.proofs.Kept.{read_at}
use Rattle.cmwq_pwq.proofs.waiting.Waiting.first.Goals as goal

pub returns : goal.returns
returns c =
    let s = c.self.inside in
    rw (← c.self.view_is)
    (c.row.ensures
    ∙ (ap (option_and_then (slice_get s.rows)) c.first.ensures
    ∙ read_at s.rows (list_at s.all.lists 0) 0 c.self.invariant.each))
