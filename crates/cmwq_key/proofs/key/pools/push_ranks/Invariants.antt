use Rattle.std.proofs.Common.{◌≡◌, ◌∷◌, ◌++◌, length, take}
use Rattle.std.specs.List.{flat_map}
use Rattle.cmwq_key.specs.Keys.{told_rank}
use Rattle.cmwq_key.specs.Codes.{codes}
use Rattle.cmwq_key.proofs.key.pools.push_ranks.Given as goal

abbrev pub invariant-loop-queueing : goal.invariant-loop-queueing
invariant-loop-queueing l = l.key.items
    ≡ l.fn.key.items ++ codes (length l.listed ∷ flat_map (told_rank l.numbered) (take l.queueing-index l.listed))
