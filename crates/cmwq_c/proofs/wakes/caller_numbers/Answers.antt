-- One more is told, or none is there.
use Rattle.std.proofs.Common.{◌<◌, ◌+◌, arith, length, sym, subst₂}
use Rattle.cmwq_c.specs.Wakes.{caller_number, nobody_number}
use Rattle.cmwq_c.proofs.Filled.{AreTold, told_none, told_some}
use Rattle.cmwq_c.proofs.wakes.caller_numbers.Goals as goal
use Rattle.cmwq_c.proofs.wakes.caller_numbers.Goals.{in-Some, in_default}

pub loop-caller-preserved : goal.loop-caller-preserved
loop-caller-preserved c =
    let l = c.loop-caller in
    let i = l.caller-index in
    let named = c.args.named.now in
    let few = c.loop-caller-test.true in
    let there : i < length named = omega (arith, c.told-named, few) in
    let Are = AreTold caller_number nobody_number 8 named (i + 1) in
    elim c.match-caller.branch [
      | in-Some w ↦ subst₂ Are (sym w.place-is) (sym w.told-is)
          (told_some caller_number nobody_number 8 named i l.place l.told w.in-Some.caller l.invariant there few
          w.in-Some.is)
      | in_default w ↦ subst₂ Are (sym w.place-is) (sym w.told-is)
          (told_none caller_number nobody_number 8 named i l.place l.told l.invariant there w.in_default.is)
    ]
