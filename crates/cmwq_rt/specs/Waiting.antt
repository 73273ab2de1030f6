-- Waits of runs, and what they leave.
use Rattle.std.specs.Prelude.{◌≡◌, ◌⊎◌, ◌==◌, ◌++◌, ◌∷◌, [], Some, None}
use Rattle.cmwq_rt.specs.Common.{Bool, true, false, Option, Result, Ok, Err, IsPrefix, Call, Reply, Layout, View}
use Rattle.cmwq_rt.specs.Common.{Entry, Full, IsLegal, List, Refused, RunFault, Who, made_by, is_caller, is_full, ℕ}
use Rattle.cmwq_rt.specs.Common.{Closed, Completes}
use Rattle.cmwq_model.specs.declared.call.Call.TheVariants as call
use Rattle.cmwq_model.specs.Prelude.{past_of}
use Rattle.cmwq_model.specs.declared.id.ItemId.{ItemId}
use Rattle.cmwq_monitor.specs.Calls.{own_entry}
use Rattle.cmwq_monitor.specs.Held.{AllLentWait, Held, SomeLentIsFree, has_room_after, has_room_at, refusal_after}
use Rattle.cmwq_monitor.specs.Held.{is_free, refusal_at}
use Rattle.cmwq_monitor.specs.Settled.{Settles}
use Rattle.cmwq_rt.specs.Running.{MakesOne, breaks_off, fault_after}
use Rattle.cmwq_rt.specs.Sums.{one_refused, one_without_room}
use Rattle.cmwq_rt.specs.declared.left_out.LeftOut.{LeftOut}
use Rattle.cmwq_waits.specs.Begun.{is_lent}
use Rattle.cmwq_waits.specs.declared.waits.Stuck.{Stuck}
use Rattle.cmwq_waits.specs.declared.waits.Stuck.TheVariants as stuck
use Rattle.cmwq_rt.specs.declared.wait_fault.WaitFault.{WaitFault}
use Rattle.cmwq_rt.specs.declared.wait_fault.WaitFault.TheVariants.{Itself, Deadlock, NoCaller, Run}

-- the calls by which a run waits
abbrev pub is_wait : Call → Bool
is_wait (call.FlushItem i) = true
is_wait (call.FlushDelayed i) = true
is_wait (call.CancelSync i) = true
is_wait (call.Flush q) = true
is_wait (call.Drain q) = true
is_wait c = false

-- A run that was asleep woke; awake it stayed as it was.
abbrev pub IsAwake : Layout → View → View → Type 0
IsAwake s v w = (w ≡ v) ⊎ MakesOne s v call.Wake w

-- Under the lock, after the entries before its sleep, its wait by this caller was not refused, and there was room for
-- all of it. The caller is one of those that are lent to runs, which are the callers from this number on.
pub record WasAllowed (s : Layout) (first : ℕ) (v : View) (c : Call) (caller : Who) (asleep : View) : Type 0 where
  pub before : List Entry
  pub lent : is_lent first caller ≡ true
  pub allowed : refusal_after s first before v.who c ≡ None
  pub room : has_room_after s before v.who caller c ≡ true
  pub slept : asleep.seen ≡ before ++ own_entry s before v call.Sleep ∷ []

-- The worker slept, and woke. Between the two, in what it sees, a caller made this call whole: its first entry is the
-- next one after the sleep, and before that it had made what it had made before, and no more.
pub record SleepsThrough (s : Layout) (first : ℕ) (v : View) (c : Call) (r : Reply) (w : View) : Type 0 where
  pub asleep : View
  pub sleeps : MakesOne s v call.Sleep asleep
  pub before : View
  pub after : View
  pub allowed : WasAllowed s first v c before.who asleep
  pub nothing_yet : made_by before.who asleep.seen ≡ made_by before.who before.seen
  pub by_caller : is_caller after.who ≡ true
  pub completes : Completes s before c r after
  pub wakes : MakesOne s asleep call.Wake w
  pub at_once : IsPrefix (asleep.seen ++ own_entry s asleep.seen before c ∷ []) after.seen
  pub sees : IsPrefix after.seen w.seen

-- the same of a run, which woke before if it was asleep
abbrev pub HasWaited : Layout → ℕ → View → Call → Reply → View → Type 0
HasWaited s first v c r w = (awake : View) × IsAwake s v awake × SleepsThrough s first awake c r w

-- ---- refusals

-- whether the wait was refused, with nothing made
abbrev pub is_refusal : WaitFault → Bool
is_refusal Itself = true
is_refusal Deadlock = true
is_refusal NoCaller = true
is_refusal (Run f) = false

-- a fault of the hub is want of room, or breaks off
abbrev pub IsOfRun : WaitFault → Type 0
IsOfRun (Run f) = is_full f ≡ false → breaks_off f ≡ true
IsOfRun f = Unit {0}

-- the fault of a run after a wait has returned
abbrev pub fault_after_wait : Result Reply WaitFault → Option RunFault → Option RunFault
fault_after_wait (Err (Run f)) old = fault_after (Err f) old
fault_after_wait r old = old

-- how many waits a run has left out after a wait has returned
abbrev pub left_out_after : Result Reply WaitFault → LeftOut → LeftOut
left_out_after (Ok r) old = old
left_out_after (Err (Run Full)) old = one_without_room old
left_out_after (Err (Run f)) old = old
left_out_after (Err f) old = one_refused old

-- why it was refused, where that is a matter of what waits for what
abbrev pub stuck_of : WaitFault → Option Stuck
stuck_of Itself = Some stuck.Itself
stuck_of Deadlock = Some stuck.Circle
stuck_of f = None

-- ---- why a run did not wait

-- Under the lock the worker saw all entries that there were, a legal history, and made none. After them this was the
-- reason to refuse the wait of what it ran, or there was none, where callers from this number on are lent to runs.
pub record WasLookedAt (s : Layout) (first : ℕ) (v : View) (c : Call) (why : Option Stuck) (w : View) : Type 0 where
  pub legal : IsLegal s (past_of w.seen)
  pub settles : Settles w.seen v w
  pub found : refusal_after s first w.seen w.who c ≡ why

-- So the wait was allowed, and there was no room for all of it by this caller, which is lent to runs.
pub record LackedRoom (s : Layout) (first : ℕ) (v : View) (c : Call) (w : View) : Type 0 where
  pub looked : WasLookedAt s first v c None w
  pub caller : Who
  pub lent : is_lent first caller ≡ true
  pub lacked : has_room_after s w.seen w.who caller c ≡ false

-- So the wait was allowed, and each caller that is lent to runs had an unended ticket.
pub record LackedCaller (s : Layout) (first : ℕ) (v : View) (c : Call) (w : View) : Type 0 where
  pub looked : WasLookedAt s first v c None w
  pub wait : AllLentWait s first (past_of w.seen)

-- What was found under the lock, where no wait began: `NoCaller` and `Full` say that there was no other reason.
abbrev pub TellsWhy : Layout → ℕ → View → Call → WaitFault → View → Type 0
TellsWhy s first v c NoCaller w = LackedCaller s first v c w
TellsWhy s first v c (Run Full) w = LackedRoom s first v c w
TellsWhy s first v c (Run f) w = Unit {0}
TellsWhy s first v c f w = WasLookedAt s first v c (stuck_of f) w

-- so it was found once the run was awake
abbrev pub TellsWhyAwake : Layout → ℕ → View → Call → WaitFault → View → Type 0
TellsWhyAwake s first v c f w = (awake : View) × IsAwake s v awake × TellsWhy s first awake c f w

-- A wait had no room, or a run that was asleep had none to wake.
abbrev pub HadNoRoom : Layout → ℕ → View → Call → View → Type 0
HadNoRoom s first v c w = Refused s v call.Wake Full w ⊎ TellsWhyAwake s first v c (Run Full) w

-- the call waits for the item that runs
abbrev pub is_for_itself : ItemId → Call → Bool
is_for_itself own (call.FlushItem i) = i.0 == own.0
is_for_itself own (call.CancelSync i) = i.0 == own.0
is_for_itself own c = false

-- The wait of this item's run was refused for this reason: it would wait for itself, and nothing was made; or so it was
-- found once the run was awake.
abbrev pub IsRefusedFor : Layout → ℕ → ItemId → View → Call → WaitFault → View → Type 0
IsRefusedFor s first own v c f w = ((is_for_itself own c ≡ true) × (w ≡ v)) ⊎ TellsWhyAwake s first v c f w

-- why a run did not wait, by what its wait returned
abbrev pub WhyNot : Layout → ℕ → ItemId → View → Call → WaitFault → View → Type 0
WhyNot s first own v c (Run Full) w = HadNoRoom s first v c w
WhyNot s first own v c (Run f) w = Unit {0}
WhyNot s first own v c f w = IsRefusedFor s first own v c f w

-- ---- under the lock

-- Why no caller is lent: all that are lent to runs wait, or the worker was given none of them.
abbrev pub NobodyLeft : Layout → Held → WaitFault → Type 0
NobodyLeft s h NoCaller = AllLentWait s h.first_lent (past_of h.history)
NobodyLeft s h (Run Closed) = SomeLentIsFree s h.first_lent (past_of h.history)
NobodyLeft s h f = ⊥

-- what is found of a wait that does not begin
abbrev pub IsFound : Layout → Held → Who → Call → WaitFault → Type 0
IsFound s h worker c NoCaller = (refusal_at s h worker c ≡ None) × NobodyLeft s h NoCaller
IsFound s h worker c (Run Closed) = (refusal_at s h worker c ≡ None) × NobodyLeft s h (Run Closed)
IsFound s h worker c (Run Full) = (refusal_at s h worker c ≡ None)
    × ((caller : Who) × (is_free h.first_lent (past_of h.history) caller ≡ true)
    × (has_room_at s h worker caller c ≡ false))
IsFound s h worker c (Run f) = Unit {0}
IsFound s h worker c f = refusal_at s h worker c ≡ stuck_of f

-- it breaks the run off
abbrev pub BreaksOff : WaitFault → Type 0
BreaksOff (Run f) = breaks_off f ≡ true
BreaksOff f = ⊥
