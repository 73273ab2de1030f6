use Rattle.std.proofs.Common.{◌≡◌, ◌++◌, map, take}
use Rattle.cmwq_key.specs.Numbered.{number_of}
use Rattle.cmwq_key.proofs.key.numbered.push_queueings.Given as goal

abbrev pub invariant-loop-queueing : goal.invariant-loop-queueing
invariant-loop-queueing l = l.numbers.items ≡ l.fn.numbers.items ++ map number_of (take l.queueing-index l.queueings)
