use Rattle.cmwq_rt.specs.Common.{arith, subst, sym, ◌+◌, Option, Some, WorkerId}
use Rattle.cmwq_rt.specs.Places.{IsNextPlace}
use Rattle.cmwq_rt.proofs.Placing.{next_place}
use Rattle.cmwq_rt.proofs.participants.Participants.worker.Goals as goal

pub invariant_of-self : goal.invariant_of-self
invariant_of-self g c =
    let s = g.N.HubName.layout in
    let i = c.self.invariant in
    let next : IsNextPlace s (Some c.in-Some.worker) c.self.inside.workers =
    subst (λ (o : Option WorkerId). IsNextPlace s o c.self.inside.workers) c.in-Some.is i.5 in (
      i.0,
      i.1,
      i.2,
      (let parts = i.3 in let left = c.split_off-share.ensures.parts_left in omega (arith, parts, left)),
      (let amount = i.4 in let left = c.split_off-share.ensures.amount_left in omega (arith, amount, left)),
      subst (λ (o : Option WorkerId). IsNextPlace s o (c.self.inside.workers + 1))
          (sym (c.worker_after-self-inside.ensures s i.0))
          (next_place s c.self.inside.counts c.in-Some.worker c.self.inside.workers i.0 next.0 next.1 next.2),
    )
