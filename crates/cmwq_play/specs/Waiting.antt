-- Which runs wait, and which waits are refused.
use Rattle.std.specs.Prelude.{ℕ, Bool, not, ◌&&◌, if◌then◌else◌, List, [], is_some}
use Rattle.std.specs.List.{fold}
use Rattle.std.specs.Option.{option_map_or}
use Rattle.cmwq_model.specs.Prelude.{Layout, fits, has_numbers}
use Rattle.cmwq_model.specs.declared.call.Call.{Call}
use Rattle.cmwq_model.specs.declared.call.Call.TheVariants as call
use Rattle.cmwq_model.specs.declared.id.CallerId.{CallerId}
use Rattle.cmwq_model.specs.declared.id.WorkerId.{WorkerId}
use Rattle.cmwq_model.specs.declared.id.Who.TheVariants.{Caller, Worker}
use Rattle.cmwq_core.specs.History.{History, past_in}
use Rattle.cmwq_waits.specs.Registered.{refusal_of, registered, wait_of}
use Rattle.cmwq_waits.specs.declared.run_wait.RunWait.{RunWait}
use Rattle.cmwq_play.specs.declared.place.Doing.{Doing}
use Rattle.cmwq_play.specs.declared.place.Doing.TheVariants.{Acts, AtGate, AtLock, Waits}
use Rattle.cmwq_play.specs.declared.place.RunAt.{RunAt}
use Rattle.cmwq_play.specs.declared.place.WorkerAt.{WorkerAt}

-- a worker and a caller are inside the layout
abbrev pub are_there : Layout → WorkerId → CallerId → ℕ → Bool
are_there s w c ticket = fits s (Worker w) call.Sleep && fits s (Caller c) (call.End ticket)

-- these waits, and that of what the worker runs for this ticket of its caller
unfoldable pub noted : History → List RunWait → WorkerId → CallerId → ℕ → List RunWait
noted h waits w c ticket =
    if are_there h.layout w c ticket then registered waits (wait_of (past_in h) w c ticket) else waits

abbrev pub noted_doing : History → List RunWait → WorkerId → Doing → List RunWait
noted_doing h waits w (Waits caller wait) = noted h waits w (record { 0 = caller }) wait.ticket
noted_doing h waits w Acts = waits
noted_doing h waits w (AtGate gate slept) = waits
noted_doing h waits w (AtLock lock slept) = waits

unfoldable pub noted_at : History → List RunWait → WorkerAt → List RunWait
noted_at h waits at = option_map_or (λ (run : RunAt). noted_doing h waits at.id run.doing) at.run waits

-- those of all runs that wait, in the order of their workers
unfoldable pub waits_in : History → List WorkerAt → List RunWait
waits_in h workers = fold (noted_at h) [] workers

-- a wait of what the worker runs could never end, or would be for that run
unfoldable pub is_refused : History → List WorkerAt → WorkerId → Call → Bool
is_refused h workers w c =
    fits h.layout (Worker w) call.Sleep && is_some (refusal_of h.layout (past_in h) (waits_in h workers) w c)

-- the call is inside the layout, and the wait isn't refused
abbrev pub may_wait : History → List WorkerAt → WorkerId → Call → Bool
may_wait h workers w c = has_numbers h.layout c && not (is_refused h workers w c)
