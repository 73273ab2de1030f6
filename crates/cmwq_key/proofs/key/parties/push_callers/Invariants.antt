use Rattle.std.proofs.Common.{◌≡◌, ◌∷◌, ◌++◌, length, take}
use Rattle.std.specs.List.{flat_map}
use Rattle.cmwq_model.specs.Prelude.{past_of}
use Rattle.cmwq_key.specs.Keys.{told_caller}
use Rattle.cmwq_key.specs.Codes.{codes}
use Rattle.cmwq_key.proofs.key.parties.push_callers.Given as goal

abbrev pub invariant-loop-at : goal.invariant-loop-at
invariant-loop-at l = l.key.items
    ≡ l.fn.key.items
    ++ codes (length l.callers
    ∷ flat_map (told_caller (past_of l.state.entries) l.numbered) (take l.at-index l.callers))
