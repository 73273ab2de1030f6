-- Widths that change, and queues that go.
use Rattle.std.specs.Prelude.{false, [], ◌∷◌}
use Rattle.cmwq_model.specs.declared.reply.Reply.TheVariants as reply
use Rattle.cmwq_model_examples.specs.Words.{Example, example, caller, cancel, delay, destroy, end, finish, flush}
use Rattle.cmwq_model_examples.specs.Words.{freeze, normal, queue, set_max, sleep, take, thaw, wake, entry, system, wq}
use Rattle.cmwq_model_examples.specs.Words.{wqf}

-- What is active stays so where the width falls, and no more becomes active before fewer than that are left.
abbrev pub width_goes_up_and_down : Example
width_goes_up_and_down = example (system 1 4 1 4 100 (wq 1 false false ∷ [])) (
    entry (caller 0) 0 (queue 0 0 0) (reply.Yes 0) ∷
    entry (caller 0) 1 (queue 1 0 0) (reply.Yes 1) ∷
    entry (caller 0) 2 (queue 2 0 0) (reply.Yes 2) ∷
    entry (caller 0) 3 (set_max 0 2) (reply.Width 2) ∷
    entry (normal 0 0) 0 take (reply.StartedEnlist 0 1) ∷
    entry (normal 0 0) 1 sleep reply.Slept ∷
    entry (normal 0 1) 0 take (reply.StartedEnlist 1 2) ∷
    entry (normal 0 1) 1 sleep reply.Slept ∷
    entry (caller 0) 4 (set_max 0 1) (reply.Width 1) ∷
    entry (normal 0 2) 0 take reply.Nothing ∷
    entry (normal 0 0) 2 wake reply.Woke ∷
    entry (normal 0 0) 3 finish (reply.Finished 0) ∷
    entry (normal 0 2) 1 take reply.Nothing ∷
    entry (normal 0 1) 2 wake reply.Woke ∷
    entry (normal 0 1) 3 finish (reply.Finished 1) ∷
    entry (normal 0 2) 2 take (reply.Started 2) ∷
    [])

-- While a freezable queue is frozen, what was active starts and ends, and nothing more becomes active.
abbrev pub frozen_and_thawed : Example
frozen_and_thawed = example (system 1 2 1 3 100 (wqf 1 ∷ [])) (
    entry (caller 0) 0 (queue 0 0 0) (reply.Yes 0) ∷
    entry (caller 0) 1 freeze reply.Frozen ∷
    entry (caller 0) 2 (queue 1 0 0) (reply.Yes 2) ∷
    entry (normal 0 0) 0 take (reply.StartedEnlist 0 1) ∷
    entry (normal 0 0) 1 finish (reply.Finished 0) ∷
    entry (normal 0 1) 0 take reply.Nothing ∷
    entry (caller 0) 3 freeze reply.No ∷
    entry (caller 0) 4 thaw reply.Thawed ∷
    entry (normal 0 1) 1 take (reply.Started 2) ∷
    entry (caller 0) 5 thaw reply.No ∷
    [])

-- A queue is destroyed once nothing of it is open, and is gone then.
abbrev pub queue_destroyed : Example
queue_destroyed = example (system 1 2 1 3 100 (wq 1 false false ∷ wq 1 false false ∷ [])) (
    entry (caller 0) 0 (queue 0 0 0) (reply.Yes 0) ∷
    entry (caller 0) 1 (delay 1 0 0 5) (reply.Booked 5) ∷
    entry (caller 0) 2 (destroy 0) reply.Timers ∷
    entry (caller 0) 3 (cancel 1) reply.Unbooked ∷
    entry (normal 0 0) 0 take (reply.StartedEnlist 0 1) ∷
    entry (caller 0) 4 (destroy 0) (reply.Ticket 5) ∷
    entry (caller 0) 5 (queue 2 0 0) reply.Draining ∷
    entry (normal 0 0) 1 (queue 2 0 0) (reply.Yes 7) ∷
    entry (caller 0) 6 (destroy 0) reply.Draining ∷
    entry (caller 0) 7 (end 5) (reply.Waiting 0) ∷
    entry (normal 0 0) 2 finish (reply.Finished 0) ∷
    entry (normal 0 1) 0 take (reply.Started 7) ∷
    entry (normal 0 1) 1 finish (reply.Finished 7) ∷
    entry (caller 0) 8 (end 5) reply.Done ∷
    entry (caller 0) 9 (queue 0 0 0) reply.Gone ∷
    entry (caller 0) 10 (flush 0) reply.Gone ∷
    entry (caller 0) 11 (queue 0 1 0) (reply.Yes 16) ∷
    [])
