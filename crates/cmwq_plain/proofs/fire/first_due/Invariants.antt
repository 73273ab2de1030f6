use Rattle.cmwq_plain.specs.Common.{◌≡◌, find, is_soonest}
use Rattle.cmwq_plain.specs.Partial.{fireable, fireable_upto}
use Rattle.cmwq_plain.proofs.fire.first_due.Given as goal

abbrev pub invariant-loop-k : goal.invariant-loop-k
invariant-loop-k l = l.found ≡ find (is_soonest (fireable l.past)) (fireable_upto l.past l.k)
