-- What a run of an item makes: what its actions make, in their order.
use Rattle.std.specs.Prelude.{◌≡◌, ◌⊎◌, ◌&&◌, ◌∷◌, true, None}
use Rattle.cmwq_cmd_run.specs.Common.{ℕ, List, [], MatchBool, MatchOption, slice_get, Call, Layout, has_numbers}
use Rattle.cmwq_cmd_run.specs.Common.{is_workers, View, Refused, Full, Behavior, MakesOne, Action, is_own, LeftOut}
use Rattle.cmwq_cmd_run.specs.Common.{no_waits, one_refused, one_without_room}
use Rattle.cmwq_model.specs.declared.reply.Reply.{Reply}
use Rattle.cmwq_rt.specs.Waiting.{HadNoRoom, HasWaited, IsAwake, WasLookedAt, is_for_itself, is_refusal, stuck_of}
use Rattle.cmwq_rt.specs.declared.wait_fault.WaitFault.{WaitFault}
use Rattle.cmwq_model.specs.declared.id.ItemId.{ItemId}
use Rattle.cmwq_model.specs.declared.call.Call.TheVariants as call
use Rattle.cmwq_json_script.specs.declared.action.Action.TheVariants as action

-- one entry was made by the call, or there was no room for it
abbrev pub MakesIfRoom : Layout → View → Call → View → Type 0
MakesIfRoom s v c w = MakesOne s v c w ⊎ Refused s v c Full w

-- It slept and woke, with a gate between; where there was no room for the sleep it made neither.
abbrev pub SleepsOnce : Layout → View → View → Type 0
SleepsOnce s v w = ((asleep : View) × MakesOne s v call.Sleep asleep × MakesIfRoom s asleep call.Wake w)
    ⊎ Refused s v call.Sleep Full w

-- It took a lock that nobody held, without an entry; or it slept, and woke when it had taken the lock.
abbrev pub TakesLock : Layout → View → View → Type 0
TakesLock s v w = (w ≡ v) ⊎ SleepsOnce s v w

-- The wait of an item's run was refused, where callers from this number on are lent to runs. There was a reason: it was
-- for the run itself, or it could never end, as was found under the lock; or it might have ended, and no caller was left
-- to be lent.
abbrev pub IsRefused : Layout → ℕ → ItemId → View → Call → View → Type 0
IsRefused s first item v c w = (f : WaitFault) × (is_refusal f ≡ true) × (((is_for_itself item c ≡ true) × (w ≡ v))
    ⊎ ((awake : View) × IsAwake s v awake × WasLookedAt s first awake c (stuck_of f) w))

-- A wait of a run that had left out so many, `old`, and then has left out `new`: by a caller that was lent to the run
-- the call was made while it slept; or it was refused; or there was no room for it. Callers from some number on are lent
-- to runs.
abbrev pub WaitsIfMay : Layout → ItemId → LeftOut → LeftOut → View → Call → View → Type 0
WaitsIfMay s item old new v c w = (first : ℕ) × (((r : Reply) × HasWaited s first v c r w × (new ≡ old))
    ⊎ (IsRefused s first item v c w × (new ≡ one_refused old))
    ⊎ (HadNoRoom s first v c w × (new ≡ one_without_room old)))

-- what a call of an item makes: its worker makes it, or the run waits
abbrev pub Calls : Layout → ItemId → LeftOut → LeftOut → View → Call → View → Type 0
Calls s item old new v c w =
    MatchBool (is_workers c) (MakesIfRoom s v c w × (new ≡ old)) (WaitsIfMay s item old new v c w)

-- One action of an item: a call that makes no sense of a run is left out. A gate is opened, and a lock is let go,
-- without an entry.
abbrev pub Acts : Layout → ItemId → Action → LeftOut → LeftOut → View → View → Type 0
Acts s item (action.Call c) old new v w =
    MatchBool (is_own c && has_numbers s c) (Calls s item old new v c w) ((w ≡ v) × (new ≡ old))
Acts s item (action.Open gate) old new v w = (w ≡ v) × (new ≡ old)
Acts s item (action.SleepAt gate) old new v w = SleepsOnce s v w × (new ≡ old)
Acts s item (action.Lock lock) old new v w = TakesLock s v w × (new ≡ old)
Acts s item (action.Unlock lock) old new v w = (w ≡ v) × (new ≡ old)

-- actions in turn, of a run that had left out so many waits, `old`, and then has left out `new`
abbrev pub ActInTurn : Layout → ItemId → List Action → LeftOut → LeftOut → View → View → Type 0
ActInTurn s item [] old new v w = (w ≡ v) × (new ≡ old)
ActInTurn s item (first ∷ rest) old new v w = (middle : LeftOut) × (next : View) × Acts s item first old middle v next
    × ActInTurn s item rest middle new next w

-- what the items of a script do, by their numbers
abbrev pub plays : List (List Action) → Layout → Behavior
plays does s item l v w =
    MatchOption (slice_get does item.0) ((w ≡ v) × (l ≡ no_waits))
    (λ actions. ActInTurn s item actions no_waits l v w)
