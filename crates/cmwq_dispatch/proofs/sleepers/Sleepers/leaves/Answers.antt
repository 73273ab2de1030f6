use Rattle.std.proofs.Common.{◌∙◌, ◌++◌, ap₂, refl, subst, sym}
use Rattle.cmwq_theory_steps.specs.Common.{filter-append}
use Rattle.cmwq_dispatch.specs.Asleep.{Asleep, Leaves}
use Rattle.cmwq_dispatch.specs.Waiting.{AreFlushes, AreInOrder, is_of_other, is_of_other_caller, unnamed}
use Rattle.cmwq_dispatch.proofs.Listed.{flushes_filter, order_filter, unnamed_filter}
use Rattle.cmwq_dispatch.proofs.sleepers.Sleepers.leaves.Goals as goal

pub invariant_of-self : goal.invariant_of-self
invariant_of-self c =
    let p = is_of_other_caller c.args.caller.0 in (
      subst AreInOrder (sym c.keep_others.ensures) (order_filter p c.self.inside.waiters.items c.self.invariant.0),
      subst AreInOrder (sym c.keep_others-2.ensures) (order_filter p c.self.inside.flushes.items c.self.invariant.1),
      subst AreFlushes (sym c.keep_others-2.ensures) (flushes_filter p c.self.inside.flushes.items c.self.invariant.2),
      c.self.invariant.3,
    )

pub returns : goal.returns
returns c =
    let n = c.args.caller.0 in
    let ws = c.self.inside.waiters.items in
    let fs = c.self.inside.flushes.items in
    subst (λ (a : Asleep). Leaves c.args.caller a (record {
      tickets = unnamed c.keep_others.new.waiters.items ++ unnamed c.keep_others-2.new.waiters.items;
      pools = c.self.inside.pools.items;
    })) c.self.view_is (record {
      tickets = ap₂ (λ us gs. unnamed us ++ unnamed gs) c.keep_others.ensures c.keep_others-2.ensures
          ∙ (ap₂ (λ a b. a ++ b) (unnamed_filter n ws) (unnamed_filter n fs)
          ∙ sym (filter-append (is_of_other n) (unnamed ws) (unnamed fs)));
      pools = refl;
    })
