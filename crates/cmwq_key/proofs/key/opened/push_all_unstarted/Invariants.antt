use Rattle.std.proofs.Common.{◌≡◌, ◌∷◌, ◌++◌, length, take}
use Rattle.std.specs.List.{flat_map}
use Rattle.cmwq_model.specs.Prelude.{past_of}
use Rattle.cmwq_key.specs.Keys.{told_unstarted}
use Rattle.cmwq_key.specs.Codes.{codes}
use Rattle.cmwq_key.proofs.key.opened.push_all_unstarted.Given as goal

abbrev pub invariant-loop-queueing : goal.invariant-loop-queueing
invariant-loop-queueing l = l.key.items
    ≡ l.fn.key.items
    ++ codes (length l.all
    ∷ flat_map (told_unstarted l.state.layout (past_of l.state.entries) l.numbered) (take l.queueing-index l.all))
