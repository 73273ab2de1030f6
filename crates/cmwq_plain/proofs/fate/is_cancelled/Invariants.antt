use Rattle.cmwq_plain.specs.Common.{◌≡◌, is_cancelled, is_started}
use Rattle.cmwq_plain.specs.Past.{upto}
use Rattle.cmwq_plain.proofs.fate.is_cancelled.Given as goal

abbrev pub invariant-loop-k : goal.invariant-loop-k
invariant-loop-k l = (l.cancelled ≡ is_cancelled (upto l.past l.k) l.item l.number)
    × (l.started ≡ is_started (upto l.past l.k) l.number)
