-- One more is told, or none is there.
use Rattle.std.proofs.Common.{◌<◌, ◌+◌, ◌∙◌, ap, arith, length, set, sym, subst₂}
use Rattle.cmwq_c.specs.Wakes.{worker_numbers, nobody_numbers}
use Rattle.cmwq_c.proofs.Filled.{AreTold, told_none, told_some}
use Rattle.cmwq_c.proofs.wakes.worker_numbers.Goals as goal
use Rattle.cmwq_c.proofs.wakes.worker_numbers.Goals.{in-Some, in_default}

pub loop-worker-preserved : goal.loop-worker-preserved
loop-worker-preserved c =
    let l = c.loop-worker in
    let i = l.worker-index in
    let named = c.args.named.now in
    let few = c.loop-worker-test.true in
    let there : i < length named = omega (arith, c.told-named, few) in
    let Are = AreTold worker_numbers nobody_numbers 8 named (i + 1) in
    elim c.match-worker.branch [
      | in-Some w ↦ subst₂ Are (sym w.place-is) (sym (w.told-is ∙ ap (λ n. set l.told l.place n) w.who_numbers.ensures))
          (told_some worker_numbers nobody_numbers 8 named i l.place l.told w.in-Some.worker l.invariant there few
          w.in-Some.is)
      | in_default w ↦ subst₂ Are (sym w.place-is) (sym w.told-is)
          (told_none worker_numbers nobody_numbers 8 named i l.place l.told l.invariant there w.in_default.is)
    ]
