use Rattle.std.proofs.Common.{◌∙◌, sym}
use Rattle.cmwq_model.specs.Prelude.{past_of}
use Rattle.cmwq_views.specs.Since.{last}
use Rattle.cmwq_views.specs.declared.deed.Deed.TheVariants.{Sleep}
use Rattle.cmwq_views.proofs.Unended.{after_is_unended}
use Rattle.cmwq_views.proofs.standing.push_waiting.Goals as goal

pub push_lent-requires-clause-unended : goal.push_lent-requires-clause-unended
push_lent-requires-clause-unended c =
    let past = past_of c.args.standing.now.entries in
    after_is_unended past (last Sleep past c.args.number) c.in-Some.ticket
    (sym c.ticket_after_sleep.ensures ∙ c.in-Some.is)
