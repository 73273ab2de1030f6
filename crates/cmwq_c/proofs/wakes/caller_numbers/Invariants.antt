-- Those that were looked at are told.
use Rattle.cmwq_c.specs.Wakes.{caller_number, nobody_number}
use Rattle.cmwq_c.proofs.Filled.{AreTold}
use Rattle.cmwq_c.proofs.wakes.caller_numbers.Given as goal

abbrev pub invariant-loop-caller : goal.invariant-loop-caller
invariant-loop-caller l = AreTold caller_number nobody_number 8 l.named l.caller-index l.place l.told
