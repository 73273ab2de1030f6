use Rattle.cmwq_core.specs.Common.{◌∙◌, ap, is_some, if◌then◌else◌, is_at, past_of, item_number}
use Rattle.cmwq_core.proofs.Marked.{booked_after}
use Rattle.cmwq_core.proofs.marks.is_booked_after.Goals as goal

pub returns : goal.returns
returns c = let b = c.args.state.now in let f = c.args.effect in
    c.booked_after.ensures
    ∙ (ap (λ b. if is_at (item_number f.settled) c.args.item.0 then is_some f.booked else b) c.is_booked.ensures
    ∙ booked_after b.layout (past_of b.entries) f c.args.item.0 c.requires.is)
