use Rattle.std.proofs.Common.{◌∙◌, ◌++◌, ap, refl, subst}
use Rattle.cmwq_dispatch.specs.Asleep.{Asleep, Waits}
use Rattle.cmwq_dispatch.specs.Waiting.{unnamed}
use Rattle.cmwq_dispatch.specs.declared.waiters.Waiter.{Waiter}
use Rattle.cmwq_theory_steps.specs.Common.{List}
use Rattle.cmwq_dispatch.proofs.Listed.{among, among_left, among_right, flushes_added_or}
use Rattle.cmwq_dispatch.proofs.sleepers.Sleepers.waits.Goals as goal

pub invariant_of-self : goal.invariant_of-self
invariant_of-self c = (
  c.self.invariant.0,
  c.add.ensures.order,
  flushes_added_or c.args.ticket c.self.inside.flushes.items c.add.new.waiters.items c.in-Flush.queue c.add.result
      c.in-Flush.is c.add.ensures.added c.add.ensures.full c.self.invariant.2,
  c.self.invariant.3,
)

pub returns-in-Flush-clause-waits : goal.returns-in-Flush-clause-waits
returns-in-Flush-clause-waits c t =
    subst (λ (a : Asleep). Waits c.args.ticket a (record {
      tickets = unnamed c.self.inside.waiters.items ++ unnamed c.add.new.waiters.items;
      pools = c.self.inside.pools.items;
    })) c.self.view_is (record {
      tickets = among_right c.args.ticket (unnamed c.self.inside.flushes.items) (unnamed c.add.new.waiters.items)
          (unnamed c.self.inside.waiters.items)
          (among c.args.ticket c.self.inside.flushes.items c.add.new.waiters.items (c.add.ensures.added t));
      pools = refl;
    })

pub returns-in_default : goal.returns-in_default
returns-in_default c = record {
  waits = λ t. subst (λ (a : Asleep). Waits c.args.ticket a (record {
    tickets = unnamed c.add-in_default.new.waiters.items ++ unnamed c.self.inside.flushes.items;
    pools = c.self.inside.pools.items;
  })) c.self.view_is (record {
    tickets = among_left c.args.ticket (unnamed c.self.inside.waiters.items)
        (unnamed c.add-in_default.new.waiters.items) (unnamed c.self.inside.flushes.items)
        (among c.args.ticket c.self.inside.waiters.items c.add-in_default.new.waiters.items
        (c.add-in_default.ensures.added t));
    pools = refl;
  });
  full = λ f. ap (λ (ws : List Waiter). record {
    tickets = unnamed ws ++ unnamed c.self.inside.flushes.items;
    pools = c.self.inside.pools.items;
  }) (c.add-in_default.ensures.full f) ∙ c.self.view_is;
}
