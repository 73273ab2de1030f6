use Rattle.cmwq_plain.specs.Common.{◌≡◌, item_start}
use Rattle.cmwq_plain.specs.Past.{upto}
use Rattle.cmwq_plain.proofs.runs.item_start.Given as goal

abbrev pub invariant-loop-k : goal.invariant-loop-k
invariant-loop-k l = l.last ≡ item_start (upto l.past l.k) l.item
