use Rattle.std.proofs.Common.{◌≡◌, ◌∷◌, ◌++◌, length, take}
use Rattle.std.specs.List.{flat_map}
use Rattle.cmwq_key.specs.Keys.{told_number}
use Rattle.cmwq_key.specs.Codes.{codes}
use Rattle.cmwq_key.proofs.key.parties.push_free.Given as goal

abbrev pub invariant-loop-caller : goal.invariant-loop-caller
invariant-loop-caller l = l.key.items
    ≡ l.fn.key.items ++ codes (length l.free ∷ flat_map (told_number) (take l.caller-index l.free))
