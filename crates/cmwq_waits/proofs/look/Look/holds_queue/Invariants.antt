use Rattle.std.proofs.Common.{◌≡◌, ◌<◌, ℕ, false}
use Rattle.cmwq_waits.specs.Looks.{is_item_held}
use Rattle.cmwq_waits.specs.declared.run_wait.RunWait.{RunWait}
use Rattle.cmwq_waits.proofs.Loops.{NoneBelow}
use Rattle.cmwq_waits.proofs.look.Look.holds_queue.Given as goal

abbrev pub invariant-loop-wait : goal.invariant-loop-wait
invariant-loop-wait l = NoneBelow (λ (w : RunWait). is_item_held l.self l.set l.ticket w.run.item.0) l.set l.wait-index

abbrev pub invariant-loop-item : goal.invariant-loop-item
invariant-loop-item l = (k : ℕ) → k < l.item → is_item_held l.self l.set l.ticket k ≡ false
