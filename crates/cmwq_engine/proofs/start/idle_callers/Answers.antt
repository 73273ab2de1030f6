use Rattle.cmwq_engine.specs.Common.{◌≡◌, ◌+◌, ◌++◌, ◌∷◌, [], length, length-append, arith, ap, ◌∙◌, subst, slice_get}
use Rattle.cmwq_engine.specs.Common.{Some, newcomer, Places}
use Rattle.cmwq_engine.specs.Conduct.{caller_numbered}
use Rattle.cmwq_engine.proofs.Gathering.{all_push}
use Rattle.cmwq_engine.proofs.start.idle_callers.Goals as goal

pub loop-preserved : goal.loop-preserved
loop-preserved g c =
    let inv = c.loop.invariant in
    let cs = c.loop.callers.items in
    let one = c.in-Ok.caller in
    let items = c.push_reserved.ensures.items ∙ ap (λ l. l ++ one ∷ []) c.reserve.ensures.items in
    let more : length c.push_reserved.new.self.items ≡ length cs + 1 = ap length items ∙ length-append cs (one ∷ []) in
    let given = c.in-Ok.ensures.given in (
      (let n = ap (λ (p : Places). p.callers) given.2 in let i = inv.0 in let m = more in omega (arith, n, i, m)),
      ap (λ (p : Places). p.workers) given.2 ∙ inv.1,
      (λ k x at.
          all_push (λ k x. x ≡ newcomer (caller_numbered (c.args.participants.now.callers + k))) cs one inv.2
          (given.0 ∙ ap (λ n. newcomer (caller_numbered n)) inv.0)
          k x (subst (λ l. slice_get l k ≡ Some x) items at)),
    )
