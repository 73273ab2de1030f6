use Rattle.std.proofs.Common.{◌∙◌, sym, arith}
use Rattle.cmwq_model.specs.Prelude.{past_of}
use Rattle.cmwq_views.specs.declared.deed.Deed.TheVariants.{Sleep}
use Rattle.cmwq_views.proofs.Last.{last_below}
use Rattle.cmwq_views.proofs.lent.ticket_after_sleep.Goals as goal

pub overflow_add-next : goal.overflow_add-next
overflow_add-next c =
    let below =
    last_below Sleep (past_of c.args.standing.now.entries) c.args.number c.in-Some.sleep
    (sym c.last.ensures ∙ c.in-Some.is) in
    let number = rw c.state-state.ensures.entries at c.number-entries.ensures in
    let fits = c.number-entries.type_inv in
    omega arith
