-- Which queueings are active, and who may start the next one.
use Rattle.std.specs.Prelude.{true, false, [], ◌∷◌}
use Rattle.cmwq_model.specs.declared.reply.Reply.TheVariants as reply
use Rattle.cmwq_model_examples.specs.Words.{Example, example, caller, normal, high, queue, modify, cancel, take, finish}
use Rattle.cmwq_model_examples.specs.Words.{sleep, wake, retire, entry, system, wq}

-- Above max_active a queueing waits; one that is cancelled frees no place that it did not have.
abbrev pub inactive_and_cancelled : Example
inactive_and_cancelled = example (system 1 2 1 3 100 (wq 1 false false ∷ [])) (
    entry (caller 0) 0 (queue 0 0 0) (reply.Yes 0) ∷
    entry (caller 0) 1 (queue 1 0 0) (reply.Yes 1) ∷
    entry (caller 0) 2 (queue 2 0 0) (reply.Yes 2) ∷
    entry (caller 0) 3 (cancel 1) (reply.Cancelled 1) ∷
    entry (normal 0 0) 0 take (reply.StartedEnlist 0 1) ∷
    entry (normal 0 1) 0 take reply.Nothing ∷
    entry (normal 0 0) 1 finish (reply.Finished 0) ∷
    entry (normal 0 1) 1 take (reply.Started 2) ∷
    [])

-- Two queueings that one event made active start by their numbers.
abbrev pub two_made_active_at_once : Example
two_made_active_at_once = example (system 1 4 1 4 100 (wq 1 false false ∷ wq 1 false false ∷ [])) (
    entry (caller 0) 0 (queue 0 0 0) (reply.Yes 0) ∷
    entry (caller 0) 1 (queue 1 0 0) (reply.Yes 1) ∷
    entry (caller 0) 2 (modify 0 1 0 0) (reply.Again 2) ∷
    entry (normal 0 0) 0 take (reply.StartedEnlist 1 1) ∷
    entry (normal 0 0) 1 sleep reply.Slept ∷
    entry (normal 0 1) 0 take (reply.StartedEnlist 2 2) ∷
    [])

-- A run that is awake holds its pool until it sleeps.
abbrev pub held_by_a_run : Example
held_by_a_run = example (system 1 3 1 2 100 (wq 2 false false ∷ [])) (
    entry (caller 0) 0 (queue 0 0 0) (reply.Yes 0) ∷
    entry (caller 0) 1 (queue 1 0 0) (reply.Yes 1) ∷
    entry (normal 0 0) 0 take (reply.StartedEnlist 0 1) ∷
    entry (normal 0 1) 0 take reply.Held ∷
    entry (normal 0 0) 1 sleep reply.Slept ∷
    entry (normal 0 1) 1 take (reply.StartedEnlist 1 2) ∷
    entry (normal 0 0) 2 wake reply.Woke ∷
    entry (normal 0 0) 3 finish (reply.Finished 0) ∷
    entry (normal 0 1) 2 finish (reply.Finished 1) ∷
    [])

-- A run of a CPU-intensive queue holds nobody back, and is held back by others.
abbrev pub cpu_intensive : Example
cpu_intensive = example (system 1 4 1 4 100 (wq 4 false false ∷ wq 4 false true ∷ [])) (
    entry (caller 0) 0 (queue 0 1 0) (reply.Yes 0) ∷
    entry (caller 0) 1 (queue 1 0 0) (reply.Yes 1) ∷
    entry (caller 0) 2 (queue 2 1 0) (reply.Yes 2) ∷
    entry (normal 0 0) 0 take (reply.StartedEnlist 0 1) ∷
    entry (normal 0 1) 0 take (reply.StartedEnlist 1 2) ∷
    entry (normal 0 2) 0 take reply.Held ∷
    entry (normal 0 1) 1 finish (reply.Finished 1) ∷
    entry (normal 0 2) 1 take (reply.Started 2) ∷
    [])

-- The pools of normal and of high priority do not meet.
abbrev pub lanes : Example
lanes = example (system 1 2 1 2 100 (wq 1 false false ∷ wq 1 true false ∷ [])) (
    entry (caller 0) 0 (queue 0 0 0) (reply.Yes 0) ∷
    entry (caller 0) 1 (queue 1 1 0) (reply.Yes 1) ∷
    entry (normal 0 0) 0 take (reply.StartedEnlist 0 1) ∷
    entry (high 0 0) 0 take (reply.StartedEnlist 1 1) ∷
    [])

-- Idle workers retire while enough of them are idle.
abbrev pub retire_while_enough_idle : Example
retire_while_enough_idle = example (system 1 4 1 3 100 (wq 3 false false ∷ [])) (
    entry (caller 0) 0 (queue 0 0 0) (reply.Yes 0) ∷
    entry (caller 0) 1 (queue 1 0 0) (reply.Yes 1) ∷
    entry (caller 0) 2 (queue 2 0 0) (reply.Yes 2) ∷
    entry (normal 0 0) 0 take (reply.StartedEnlist 0 1) ∷
    entry (normal 0 0) 1 sleep reply.Slept ∷
    entry (normal 0 1) 0 take (reply.StartedEnlist 1 2) ∷
    entry (normal 0 1) 1 sleep reply.Slept ∷
    entry (normal 0 2) 0 take (reply.StartedEnlist 2 3) ∷
    entry (normal 0 2) 1 retire reply.Misuse ∷
    entry (normal 0 3) 0 retire reply.Kept ∷
    entry (normal 0 2) 2 finish (reply.Finished 2) ∷
    entry (normal 0 0) 2 wake reply.Woke ∷
    entry (normal 0 0) 3 finish (reply.Finished 0) ∷
    entry (normal 0 3) 1 retire reply.Retired ∷
    entry (normal 0 2) 3 retire reply.Kept ∷
    entry (normal 0 3) 2 take reply.Misuse ∷
    [])
