use Rattle.std.proofs.Common.{◌≡◌, ◌∷◌, ◌++◌, length, take}
use Rattle.std.specs.List.{flat_map}
use Rattle.cmwq_key.specs.Keys.{told_lock}
use Rattle.cmwq_key.specs.Codes.{codes}
use Rattle.cmwq_key.proofs.key.parties.push_locks.Given as goal

abbrev pub invariant-loop-holder : goal.invariant-loop-holder
invariant-loop-holder l = l.key.items
    ≡ l.fn.key.items ++ codes (length l.locks ∷ flat_map (told_lock) (take l.holder-index l.locks))
