-- What contracts see of a dispatch.
use Rattle.std.specs.Prelude.{◌≡◌, ◌==◌, ◌&&◌, ◌||◌, ℕ, Bool, true, false, List, [], count_by, is_some, Option, None}
use Rattle.std.specs.Prelude.{Some}
use Rattle.cmwq_model.specs.Prelude.{IsLegal, Layout, answer, is_active, still_open, ticket_of}
use Rattle.cmwq_model.specs.declared.call.Call.{Call}
use Rattle.cmwq_model.specs.declared.call.Call.TheVariants as call
use Rattle.cmwq_model.specs.declared.entry.Entry.{Entry}
use Rattle.cmwq_model.specs.declared.id.WorkerId.{WorkerId}
use Rattle.cmwq_model.specs.declared.id.CallerId.{CallerId}
use Rattle.cmwq_model.specs.declared.id.Who.TheVariants.{Caller, Worker}
use Rattle.cmwq_core.specs.History.{History, past_in, with_entry}
use Rattle.std.specs.List.{AllByRecursion}
use Rattle.cmwq_state.specs.Tables.{IsThere}
use Rattle.cmwq_theory_wakes.specs.Starting.{worker_is_idle}
use Rattle.cmwq_waits.specs.Begun.{waits_of}
use Rattle.cmwq_waits.specs.declared.run_wait.RunWait.{RunWait}
use Rattle.cmwq_dispatch.specs.Asleep.{Asleep, IsLookedAfter, NobodySleeps}
use Rattle.cmwq_dispatch.specs.Pools.{rests}
use Rattle.cmwq_model.specs.Prelude.{is_done, number_started}
use Rattle.cmwq_core.specs.Plans.{IsPlan}
use Rattle.cmwq_core.specs.declared.plan.Plan.{Plan}
use Rattle.cmwq_theory_wakes.specs.Rest.{IsUnready}
use Rattle.cmwq_theory_wakes.specs.Starting.{would_start}
use Rattle.cmwq_dispatch.specs.Waiting.{IsKnown}
use Rattle.cmwq_dispatch.specs.declared.dispatch.EndPlan.{EndPlan}
use Rattle.cmwq_dispatch.specs.declared.dispatch.EndPlan.TheVariants.{Done, Waits, Unknown}
use Rattle.cmwq_dispatch.specs.declared.dispatch.Sleep.{Sleep}
use Rattle.cmwq_dispatch.specs.declared.dispatch.Sleep.TheVariants.{Sleeps, LooksAgain, Over}

-- The history. Whether the dispatch is closed or has failed, and whether somebody sleeps until there is space. How many
-- callers may still fire. From which number on callers are lent to runs, and who sleeps.
pub record Dispatched : Type 0 where
  pub history : History
  pub closed : Bool
  pub failed : Bool
  pub crowded : Bool
  pub firing : ℕ
  pub first_lent : ℕ
  pub asleep : Asleep

abbrev pub dispatched_of : History → Bool → Bool → Bool → ℕ → ℕ → Asleep → Dispatched
dispatched_of history closed failed crowded firing first asleep = record {
  history = history;
  closed = closed;
  failed = failed;
  crowded = crowded;
  firing = firing;
  first_lent = first;
  asleep = asleep;
}

-- a new one has no entry, and is open
abbrev pub is_new : Layout → ℕ → ℕ → Asleep → Dispatched
is_new s room first asleep =
    dispatched_of (record { layout = s; room = room; entries = [] }) false false false 0 first asleep

abbrev pub past_now : Dispatched → List Entry
past_now d = past_in d.history

-- the runs that wait
abbrev pub waits_now : Dispatched → List RunWait
waits_now d = waits_of d.first_lent (past_now d)

-- how many active queueings are open
abbrev pub active_in : Layout → List Entry → ℕ
active_in s past = count_by (is_active s past) (still_open past)

-- It is over once it has failed. It is also over once it is closed, no active queueing is open, and no caller may still
-- fire.
abbrev pub is_finished : History → Bool → ℕ → Bool
is_finished h closed firing = closed && (active_in h.layout (past_in h) == 0) && (firing == 0)

abbrev pub is_over : Dispatched → Bool
is_over d = d.failed || is_finished d.history d.closed d.firing

-- What holds of each dispatch. Nobody is forgotten, and nobody sleeps once it is over.
pub record Stands (d : Dispatched) : Type 0 where
  pub looked_after : IsLookedAfter d.history.layout (past_now d) d.asleep
  pub over : is_over d ≡ true → NobodySleeps d.asleep

-- ---- steps

-- An entry is made.
pub record Enters (e : Entry) (old new : Dispatched) : Type 0 where
  pub history : new.history ≡ with_entry old.history e
  pub closed : new.closed ≡ old.closed
  pub failed : new.failed ≡ old.failed
  pub crowded : new.crowded ≡ old.crowded
  pub firing : new.firing ≡ old.firing
  pub first_lent : new.first_lent ≡ old.first_lent

-- Once it is over, callers only end tickets.
abbrev pub is_end : Call → Bool
is_end (call.End n) = true
is_end c = false

abbrev pub MayEnter : Dispatched → Entry → Type 0
MayEnter d e =
    (d.failed ≡ false) × ((c : CallerId) → is_over d ≡ true → e.who ≡ Caller c → is_end e.call ≡ true)

-- Only who sleeps changes.
pub record SameButAsleep (old new : Dispatched) : Type 0 where
  pub history : new.history ≡ old.history
  pub closed : new.closed ≡ old.closed
  pub failed : new.failed ≡ old.failed
  pub crowded : new.crowded ≡ old.crowded
  pub firing : new.firing ≡ old.firing
  pub first_lent : new.first_lent ≡ old.first_lent

-- What an end of a ticket would be: done by this plan, or the wait of this ticket is not ready, or the caller has no
-- such ticket.
abbrev pub IsEndPlan : Dispatched → CallerId → ℕ → EndPlan → Type 0
IsEndPlan d c n (Done p) = IsPlan d.history (Caller c) (call.End n) p × (is_done p.mark.entry.reply ≡ true)
IsEndPlan d c n (Waits t) = (ticket_of (past_now d) (Caller c) n ≡ Some t)
    × IsKnown d.history.layout (past_now d) t × IsUnready (past_now d) t
IsEndPlan d c n Unknown = ticket_of (past_now d) (Caller c) n ≡ None

-- What a take would be: a start by this plan, or nothing.
abbrev pub IsStartPlan : Dispatched → WorkerId → Option Plan → Type 0
IsStartPlan d w (Some p) =
    IsPlan d.history (Worker w) call.Take p × (is_some (number_started p.mark.entry.reply) ≡ true)
IsStartPlan d w None = would_start d.history.layout (past_now d) w ≡ false

-- One begins to sleep, or has to look again, or it is over, so that nothing would wake it.
abbrev pub FallsAsleep : (Asleep → Asleep → Type 0) → Dispatched → Sleep → Dispatched → Type 0
FallsAsleep Begins old Sleeps new =
    SameButAsleep old new × Begins old.asleep new.asleep × (is_over old ≡ false)
FallsAsleep Begins old LooksAgain new = new ≡ old
FallsAsleep Begins old Over new = (new ≡ old) × (is_over old ≡ true)

-- ---- rest

-- Each idle worker of the layout rests. Once the dispatch is over it may have gone instead. Nothing is asked of workers
-- outside the layout, for which a dispatch has no place among those that rest.
abbrev pub IdleWorkersRest : Dispatched → Type 0
IdleWorkersRest d = is_over d ≡ false → (w : WorkerId) → IsThere d.history.layout (Worker w)
    → worker_is_idle (past_now d) w ≡ true → rests d.asleep.pools w ≡ true

-- The dispatch is at rest: it has not failed, and its idle workers rest.
pub record IsAtRest (d : Dispatched) : Type 0 where
  pub lives : d.failed ≡ false
  pub workers : IdleWorkersRest d

-- No end of a ticket for which a caller sleeps would return done, and no worker of the layout would start anything.
abbrev pub NobodyGoesOn : Dispatched → Type 0
NobodyGoesOn d =
    AllByRecursion (λ t. is_done (answer d.history.layout (past_now d) (Caller t.caller) (call.End t.number)) ≡ false)
    d.asleep.tickets
    × ((w : WorkerId) → IsThere d.history.layout (Worker w)
    → is_some (number_started (answer d.history.layout (past_now d) (Worker w) call.Take)) ≡ false)

-- Nobody can go on where a dispatch is at rest.
abbrev pub AtRestNobodyGoesOn : Type 0
AtRestNobodyGoesOn =
    (d : Dispatched) → IsLegal d.history.layout (past_now d) → Stands d → IsAtRest d → NobodyGoesOn d
