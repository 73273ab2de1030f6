use Rattle.cmwq_engine.specs.Common.{◌≡◌, suc, ◌+◌, ◌++◌, ◌∷◌, [], length, length-append, arith, ap, sym, ◌∙◌, subst}
use Rattle.cmwq_engine.specs.Common.{rules, slice_get, Some}
use Rattle.cmwq_engine.specs.Ended.{AllWorkedFrom}
use Rattle.cmwq_engine.proofs.Gathering.{last_at, kept_at, one_worked}
use Rattle.cmwq_engine.proofs.gather.gather_workers.Goals as goal

pub loop-preserved : goal.loop-preserved
loop-preserved g c =
    let s = g.N.HubName.layout in
    let does = g.W.Work.does c.args.work.now s in
    let inv = c.loop.invariant in
    let new = c.pop.new.self.items in
    let end = c.in-Some.end in
    let last : c.loop.workers.items ≡ new ++ end ∷ [] = c.in-Some.ensures.items in
    let len : length c.loop.workers.items ≡ length new + 1 = ap length last ∙ length-append new (end ∷ []) in
    let next : length c.loop.workers.items ≡ suc (length new) = (let l = len in omega (arith, l)) in
    let share = c.in_ok-made.ensures.share in
    let which =
    inv.4 (length new) end (subst (λ l. slice_get l (length new) ≡ Some end) (sym last) (last_at new end)) in (
      (let i = inv.0 in omega (arith, len, i)),
      (let i = inv.1 in let p = share.0 in omega (arith, p, i)),
      (let i = inv.2 in let p = share.1 in let a = c.in_ok-answered.ensures.sum in omega (arith, p, i, a)),
      (λ k e at. inv.3 k e (subst (λ l. slice_get l k ≡ Some e) (sym last) (kept_at new end e k at))),
      (λ k e at. inv.4 k e (subst (λ l. slice_get l k ≡ Some e) (sym last) (kept_at new end e k at))),
      one_worked s does (length new) (length c.loop.workers.items) c.loop.counter which.0 c.in_ok-made.of_worker
          c.loop.left_out _ c.args.monitor.now.history next c.plus-left_out.ensures which.1
          (c.in_ok-made.ensures.worked which.0 which.2) inv.5,
    )

pub returns-clause-worked : goal.returns-clause-worked
returns-clause-worked g c =
    let s = g.N.HubName.layout in
    let does = g.W.Work.does c.args.work.now s in
    let none : length c.loop.workers.items ≡ 0 = search rules in (
      c.loop.counter,
      subst (λ n. AllWorkedFrom s does n c.loop.counter c.loop.left_out c.args.monitor.now.history) none
          c.loop.invariant.5,
    )
