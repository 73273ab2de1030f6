-- Delayed items.
use Rattle.std.specs.Prelude.{false, [], ◌∷◌}
use Rattle.cmwq_model.specs.declared.reply.Reply.TheVariants as reply
use Rattle.cmwq_model_examples.specs.Words.{Example, example, caller, normal, queue, delay, modify, cancel, tick, fire}
use Rattle.cmwq_model_examples.specs.Words.{flush, drain, flush_delayed, end, take, finish, entry, system, wq}
use Rattle.cmwq_model_examples.specs.Words.{reply_fired}

-- A delayed item is queued at the tick when it is due, and a flush does not wait for it before.
abbrev pub timer_at_its_tick : Example
timer_at_its_tick = example (system 1 2 1 1 100 (wq 1 false false ∷ [])) (
    entry (caller 0) 0 (delay 0 0 0 5) (reply.Booked 5) ∷
    entry (caller 0) 1 (flush 0) (reply.Ticket 1) ∷
    entry (caller 0) 2 (end 1) reply.Done ∷
    entry (caller 0) 3 (tick 4) (reply.Now 4) ∷
    entry (caller 0) 4 fire reply.Nothing ∷
    entry (caller 0) 5 (tick 1) (reply.Now 5) ∷
    entry (caller 0) 6 fire (reply_fired 0 6) ∷
    entry (caller 0) 7 fire reply.Nothing ∷
    entry (caller 0) 8 (queue 0 0 0) reply.No ∷
    entry (normal 0 0) 0 take (reply.StartedEnlist 6 1) ∷
    [])

-- A modify replaces what is pending.
abbrev pub modify_replaces : Example
modify_replaces = example (system 1 2 1 1 100 (wq 1 false false ∷ [])) (
    entry (caller 0) 0 (delay 0 0 0 5) (reply.Booked 5) ∷
    entry (caller 0) 1 (modify 0 0 0 7) (reply.Rebooked 7) ∷
    entry (caller 0) 2 (cancel 0) reply.Unbooked ∷
    entry (caller 0) 3 (modify 0 0 0 3) (reply.Booked 3) ∷
    entry (caller 0) 4 (modify 0 0 0 0) (reply.Again 4) ∷
    [])

-- A due timer of a queue that drains is held back.
abbrev pub timer_held_back : Example
timer_held_back = example (system 1 2 1 2 100 (wq 1 false false ∷ [])) (
    entry (caller 0) 0 (delay 0 0 0 2) (reply.Booked 2) ∷
    entry (caller 0) 1 (queue 1 0 0) (reply.Yes 1) ∷
    entry (caller 0) 2 (drain 0) (reply.Ticket 2) ∷
    entry (caller 0) 3 (tick 2) (reply.Now 2) ∷
    entry (caller 0) 4 fire reply.Nothing ∷
    entry (caller 0) 5 (flush_delayed 0) reply.Draining ∷
    entry (normal 0 0) 0 take (reply.StartedEnlist 1 1) ∷
    entry (normal 0 0) 1 finish (reply.Finished 1) ∷
    entry (caller 0) 6 (end 2) reply.Done ∷
    entry (caller 0) 7 fire (reply_fired 0 9) ∷
    [])
