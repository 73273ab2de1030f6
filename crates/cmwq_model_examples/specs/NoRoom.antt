-- Calls without room.
use Rattle.std.specs.Prelude.{false, [], ◌∷◌}
use Rattle.cmwq_model.specs.declared.reply.Reply.TheVariants as reply
use Rattle.cmwq_model_examples.specs.Words.{Example, example_without, caller, normal, queue, take, finish, entry}
use Rattle.cmwq_model_examples.specs.Words.{system, wq}

-- Calls that have no room are left out, and what has begun can end.
abbrev pub no_room : Example
no_room = example_without 2 (system 1 2 1 2 3 (wq 1 false false ∷ []))
    (((caller 0), (queue 0 0 0)) ∷ ((caller 0), (queue 1 0 0)) ∷ ((normal 0 0), take) ∷ ((normal 0 0), finish)
    ∷ ((caller 0), (queue 1 0 0)) ∷ [])
    (
    entry (caller 0) 0 (queue 0 0 0) (reply.Yes 0) ∷
    entry (normal 0 0) 0 take (reply.StartedEnlist 0 1) ∷
    entry (normal 0 0) 1 finish (reply.Finished 0) ∷
    [])
