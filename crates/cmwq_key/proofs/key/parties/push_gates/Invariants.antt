use Rattle.std.proofs.Common.{◌≡◌, ◌∷◌, ◌++◌, length, take}
use Rattle.std.specs.List.{flat_map}
use Rattle.cmwq_key.specs.Codes.{codes, told_flag}
use Rattle.cmwq_key.proofs.key.parties.push_gates.Given as goal

abbrev pub invariant-loop-is_open : goal.invariant-loop-is_open
invariant-loop-is_open l = l.key.items
    ≡ l.fn.key.items ++ codes (length l.gates ∷ flat_map (told_flag) (take l.is_open-index l.gates))
