use Rattle.cmwq_engine.specs.Common.{◌≡◌, ℕ, ◌+◌, ◌++◌, ◌∷◌, [], length, arith, ap, sym, ◌∙◌, subst, slice_get, Some}
use Rattle.cmwq_engine.specs.Common.{View, newcomer, Places, caller_numbered}
use Rattle.cmwq_engine.proofs.Gathering.{all_push}
use Rattle.cmwq_engine.proofs.start.start_callers.Goals as goal

pub start_caller-requires-clause-fresh : goal.start_caller-requires-clause-fresh
start_caller-requires-clause-fresh g c κs within =
    c.in-Ok.ensures.given.0
    ∙ ap (λ n. newcomer (caller_numbered n)) (ap (λ (p : Places). p.callers) c.loop-number.invariant.1)

pub loop-number-preserved : goal.loop-number-preserved
loop-number-preserved g c =
    let inv = c.loop-number.invariant in
    let hs = c.loop-number.threads.items in
    let h = c.in-Ok-start_caller.thread in
    let items = c.push_reserved.ensures.items ∙ ap (λ l. l ++ h ∷ []) c.reserve.ensures.items in (
      (let l = c.push_reserved.ensures.len in let r = ap length c.reserve.ensures.items in let i = inv.0 in
          omega (arith, l, r, i)),
      c.in-Ok.ensures.given.2 ∙ ap (λ (p : Places). record p { callers = p.callers + 1 }) inv.1,
      (λ k x at.
          all_push (λ k h. (h.promise.number ≡ k) × (h.promise.crew.value ≡ c.args.shared.now.crew.now)) hs h inv.2
          (c.in-Ok-start_caller.ensures.thread.0 ∙ sym inv.0, c.in-Ok-start_caller.ensures.thread.1)
          k x (subst (λ l. slice_get l k ≡ Some x) items at)),
    )
