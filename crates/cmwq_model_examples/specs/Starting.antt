-- Queueing and starting.
use Rattle.std.specs.Prelude.{false, [], ◌∷◌}
use Rattle.cmwq_model.specs.declared.reply.Reply.TheVariants as reply
use Rattle.cmwq_model_examples.specs.Words.{Example, example, caller, normal, queue, modify, take, finish, sleep, wake}
use Rattle.cmwq_model_examples.specs.Words.{entry, system, wq}

-- An item is queued, started and finished.
abbrev pub first_run : Example
first_run = example (system 1 2 1 3 100 (wq 1 false false ∷ [])) (
    entry (caller 0) 0 (queue 0 0 0) (reply.Yes 0) ∷
    entry (normal 0 0) 0 take (reply.StartedEnlist 0 1) ∷
    entry (normal 0 0) 1 finish (reply.Finished 0) ∷
    [])

-- No call leaves no entry.
abbrev pub no_calls : Example
no_calls = example (system 1 2 1 3 100 (wq 1 false false ∷ [])) (
    [])

-- An item that is pending is not queued again.
abbrev pub pending_item : Example
pending_item = example (system 1 2 1 3 100 (wq 1 false false ∷ [])) (
    entry (caller 0) 0 (queue 0 0 0) (reply.Yes 0) ∷
    entry (caller 0) 1 (queue 0 0 0) reply.No ∷
    entry (normal 0 0) 0 take (reply.StartedEnlist 0 1) ∷
    entry (normal 0 0) 1 finish (reply.Finished 0) ∷
    entry (caller 0) 2 (queue 0 0 0) (reply.Yes 4) ∷
    [])

-- An item that is queued again while it runs goes to the CPU where it runs, and starts after that run.
abbrev pub queued_while_it_runs : Example
queued_while_it_runs = example (system 2 2 1 1 100 (wq 4 false false ∷ [])) (
    entry (caller 0) 0 (queue 0 0 0) (reply.Yes 0) ∷
    entry (normal 0 0) 0 take (reply.StartedEnlist 0 1) ∷
    entry (normal 0 0) 1 sleep reply.Slept ∷
    entry (caller 0) 1 (queue 0 0 1) (reply.Yes 3) ∷
    entry (normal 1 0) 0 take reply.Nothing ∷
    entry (normal 0 1) 0 take reply.Nothing ∷
    entry (normal 0 0) 2 wake reply.Woke ∷
    entry (normal 0 0) 3 finish (reply.Finished 0) ∷
    entry (normal 0 1) 1 take (reply.Started 3) ∷
    entry (normal 0 1) 2 finish (reply.Finished 3) ∷
    [])

-- An item that runs is not queued on another queue.
abbrev pub foreign : Example
foreign = example (system 1 2 1 1 100 (wq 1 false false ∷ wq 1 false false ∷ [])) (
    entry (caller 0) 0 (queue 0 0 0) (reply.Yes 0) ∷
    entry (normal 0 0) 0 take (reply.StartedEnlist 0 1) ∷
    entry (caller 0) 1 (queue 0 1 0) reply.Foreign ∷
    entry (caller 0) 2 (modify 0 1 0 0) reply.Foreign ∷
    entry (normal 0 0) 1 finish (reply.Finished 0) ∷
    entry (caller 0) 3 (queue 0 1 0) (reply.Yes 5) ∷
    [])
