use Rattle.cmwq_engine.specs.Common.{◌≡◌, ◌+◌, ◌++◌, ◌∷◌, [], length, length-append, arith, ap, sym, ◌∙◌, subst}
use Rattle.cmwq_engine.specs.Common.{slice_get, Some, View, made_by}
use Rattle.cmwq_engine.specs.Conduct.{caller_numbered}
use Rattle.cmwq_engine.specs.Ended.{used}
use Rattle.cmwq_engine.proofs.Gathering.{last_at, kept_at, one_before, silent_in}
use Rattle.cmwq_engine.proofs.gather.gather_idle.Goals as goal

pub loop-preserved : goal.loop-preserved
loop-preserved g c =
    let first = used (g.C.Crew.roles c.args.crew.now g.N.HubName.layout) in
    let inv = c.loop.invariant in
    let new = c.pop.new.self.items in
    let one = c.in-Some.caller in
    let last : c.loop.idle.items ≡ new ++ one ∷ [] = c.in-Some.ensures.items in
    let len : length c.loop.idle.items ≡ length new + 1 = ap length last ∙ length-append new (one ∷ []) in
    let fresh =
    inv.3 (length new) one (subst (λ l. slice_get l (length new) ≡ Some one) (sym last) (last_at new one)) in
    let settled = c.in_ok-settle_caller.ensures.settled in
    let serial : c.settle_caller.new.caller.serial ≡ 0 = ap (λ (v : View). v.serial) settled.0
    ∙ ap (λ (v : View). v.serial) fresh in
    let share = c.share_of_caller.ensures in (
      (let i = inv.0 in omega (arith, len, i)),
      (let i = inv.1 in let p = c.merge.ensures.parts in let q = share.0 in omega (arith, p, q, i)),
      (let i = inv.2 in let p = c.merge.ensures.amount in let q = share.1 in let z = serial in
          omega (arith, p, q, i, z)),
      (λ k x at. inv.3 k x (subst (λ l. slice_get l k ≡ Some x) (sym last) (kept_at new one x k at))),
      one_before (λ k. made_by (caller_numbered k) c.args.monitor.now.history ≡ []) (first + length new)
          (first + length c.args.idle.items)
          (silent_in (first + length new) c.args.monitor.now.history one c.settle_caller.new.caller fresh settled)
          (λ k le lt. inv.4 k (omega (arith, le, len)) lt),
    )
