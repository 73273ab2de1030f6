use Rattle.std.proofs.Common.{◌≡◌, ◌++◌, take}
use Rattle.cmwq_key.specs.Codes.{codes}
use Rattle.cmwq_key.proofs.key.codes.push_all.Given as goal

abbrev pub invariant-loop-number : goal.invariant-loop-number
invariant-loop-number l = l.key.items ≡ l.fn.key.items ++ codes (take l.number-index l.numbers)
