-- Timers that fire.
use Rattle.std.specs.Prelude.{ℕ, zero, suc, not, if◌then◌else◌}
use Rattle.cmwq_core.specs.History.{History, next_entry, takes, with_entry}
use Rattle.cmwq_model.specs.Prelude.{is_nothing}
use Rattle.cmwq_model.specs.declared.call.Call.{Call}
use Rattle.cmwq_model.specs.declared.call.Call.TheVariants as call
use Rattle.cmwq_model.specs.declared.entry.Entry.{Entry}
use Rattle.cmwq_model.specs.declared.id.CallerId.{CallerId}
use Rattle.cmwq_model.specs.declared.id.Who.{Who}
use Rattle.cmwq_model.specs.declared.id.Who.TheVariants.{Caller}

-- a call is made, with the one reply that it gets
abbrev pub with_call : History → Who → Call → History
with_call h who c = with_entry h (next_entry h who c)

-- once more
abbrev pub fired_once : History → CallerId → Entry
fired_once h c = next_entry h (Caller c) call.Fire

-- A caller fires what is due, at most so many times, until nothing is fired, or there is no room.
unfoldable pub fired : ℕ → History → CallerId → History
fired zero h c = h
fired (suc n) h c = if not (takes h (Caller c) call.Fire) then h
    else if is_nothing (fired_once h c).reply then with_entry h (fired_once h c)
    else fired n (with_entry h (fired_once h c)) c
