-- What was planned is the next entry.
use Rattle.cmwq_core.specs.Common.{◌≡◌, sym, ap, ◌∙◌, Entry, Who, Call}
use Rattle.cmwq_core.specs.History.{History, next_entry}
use Rattle.cmwq_core.specs.Plans.{IsPlan}
use Rattle.cmwq_core.specs.declared.plan.Plan.{Plan}

pub planned_next : (h : History) (who : Who) (call : Call) (p : Plan) → IsPlan h who call p
    → p.mark.entry ≡ next_entry h p.mark.entry.who p.mark.entry.call
planned_next h who call p is =
    is.mark.is_next ∙ sym (ap (λ (e : Entry). next_entry h e.who e.call) is.mark.is_next)
