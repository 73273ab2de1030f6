use Rattle.std.proofs.Common.{◌∙◌, ◌*◌, ap, false, subst, sym}
use Rattle.cmwq_core.specs.History.{History, past_in}
use Rattle.cmwq_waits.specs.Begun.{HasWaitsOf}
use Rattle.cmwq_dispatch.specs.Dispatched.{dispatched_of}
use Rattle.cmwq_dispatch.proofs.Steady.{stands_nobody}
use Rattle.cmwq_dispatch.proofs.dispatch.Dispatch.new.Goals as goal

pub invariant_of-result : goal.invariant_of-result
invariant_of-result c =
    let h = c.in_ok-new.field-0 in (
      c.in_ok-copy.ensures ∙ sym (ap (λ (k : History). k.layout) c.in_ok-new.ensures),
      subst (λ (k : History). HasWaitsOf k.layout (past_in k) c.in_ok-new-3.field-0) (sym c.in_ok-new.ensures)
          c.in_ok-new-3.ensures.none,
      stands_nobody
          (dispatched_of h false false false 0 c.in_ok-new-3.field-0.first c.in_ok-new-2.field-0)
          c.in_ok-new-2.ensures.nobody
          (c.in_ok-new-2.ensures.places ∙ sym (ap (λ (k : History). 2 * k.layout.cpus) c.in_ok-new.ensures)),
    )
