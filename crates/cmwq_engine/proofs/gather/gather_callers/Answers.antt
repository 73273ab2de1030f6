use Rattle.cmwq_engine.specs.Common.{◌≡◌, suc, ◌+◌, ◌++◌, ◌∷◌, [], length, arith, ap, rules, sym, ◌∙◌, subst}
use Rattle.cmwq_engine.specs.Common.{length-append, slice_get, Some}
use Rattle.cmwq_engine.proofs.Gathering.{last_at, kept_at, one_called, all_called}
use Rattle.cmwq_engine.proofs.gather.gather_callers.Goals as goal

pub loop-preserved : goal.loop-preserved
loop-preserved g c =
    let inv = c.loop.invariant in
    let new = c.pop.new.self.items in
    let end = c.in-Some.end in
    let last : c.loop.callers.items ≡ new ++ end ∷ [] = c.in-Some.ensures.items in
    let len : length c.loop.callers.items ≡ length new + 1 = ap length last ∙ length-append new (end ∷ []) in
    let next : length c.loop.callers.items ≡ suc (length new) = (let l = len in omega (arith, l)) in
    let share = c.in_ok-made.ensures.share in
    let s = g.N.HubName.layout in
    let calls = g.C.Crew.calls c.args.crew.now in (
      (let i = inv.0 in omega (arith, len, i)),
      (let i = inv.1 in let p = share.0 in omega (arith, p, i)),
      (let i = inv.2 in let p = share.1 in let a = c.in_ok-answered.ensures.sum in omega (arith, p, i, a)),
      (λ k e at. inv.3 k e (subst (λ l. slice_get l k ≡ Some e) (sym last) (kept_at new end e k at))),
      one_called s calls (length new) (length c.loop.callers.items) c.loop.counter c.in_ok-made.left_out c.loop.full _
          c.args.monitor.now.history next c.in_ok-full.ensures.sum
          (c.in_ok-made.ensures.called (length new)
          (inv.3 (length new) end (subst (λ l. slice_get l (length new) ≡ Some end) (sym last) (last_at new end))))
          inv.4,
      (λ k e at. inv.5 k e (subst (λ l. slice_get l k ≡ Some e) (sym last) (kept_at new end e k at))),
    )

pub returns-clause-called : goal.returns-clause-called
returns-clause-called g c =
    let s = g.N.HubName.layout in
    let calls = g.C.Crew.calls c.args.crew.now in
    let none : length c.loop.callers.items ≡ 0 = search rules in
    let all : c.loop.counter ≡ (g.C.Crew.roles c.args.crew.now s).threads =
    (let i = c.loop.invariant.0 in let r = c.requires.all in omega (arith, none, i, r)) in
    all_called s calls (length c.loop.callers.items) c.loop.counter _ c.loop.full c.args.monitor.now.history none all
    c.loop.invariant.4
