use Rattle.cmwq_core.specs.Common.{◌∙◌, ap, past_of}
use Rattle.cmwq_core.specs.Flights.{ended_at, started_at, opened_at}
use Rattle.cmwq_core.proofs.Marked.{standing_after}
use Rattle.cmwq_core.proofs.marks.standing_after.Goals as goal

pub returns : goal.returns
returns c = let b = c.args.state.now in let f = c.args.effect in let i = c.args.item.0 in
    c.opened_at.ensures
    ∙ (ap (opened_at f.opened i)
    (c.started_at.ensures
    ∙ ap (started_at f.started i)
    (c.ended_at-ended.ensures ∙ ap (ended_at f.entry.reply f.ended i) c.item_standing.ensures))
    ∙ standing_after b.layout (past_of b.entries) f i c.requires.is)
