-- Waits that could never end, by the history alone, and which entries can make a deadlock of waits that were none.
use Rattle.std.specs.Prelude.{◌≡◌, ◌++◌, ◌∷◌, ◌<◌, Bool, Contains, List, None, Some, ℕ, false, true}
use Rattle.cmwq_model.specs.Prelude.{IsLegal, Layout, is_started, max_active, opening, still_open}
use Rattle.cmwq_model.specs.declared.call.Call.{Call}
use Rattle.cmwq_model.specs.declared.entry.Entry.{Entry}
use Rattle.cmwq_model.specs.declared.record.Queueing.{Queueing}
use Rattle.cmwq_model.specs.declared.reply.Reply.TheVariants as reply
use Rattle.cmwq_theory_steps.specs.Histories.{OfEachEntry}
use Rattle.cmwq_waits.specs.HeldUp.{AreWaiting, IsDeadlock, IsWaiting, awaits, members}
use Rattle.cmwq_waits.specs.Refused.{Refuses, refusal}
use Rattle.cmwq_waits.specs.declared.run_wait.RunWait.{RunWait}
use Rattle.cmwq_waits.specs.declared.waits.Stuck.{Stuck}
use Rattle.cmwq_waits_laws.specs.Lasting.{FinishAfterWaits, NoneLetsGo, scene_of}
use Rattle.cmwq_waits.specs.Allowed.{RefusesIn, WaitsWereAllowed}
use Rattle.cmwq_waits.specs.Begun.{wait_begun, waits_of}
use Rattle.cmwq_waiting.specs.Waits.{IsPair}

-- ---- which waits are refused

-- the function is the definition
abbrev pub RefusalsAreRefused : Type 0
RefusalsAreRefused = (first : ℕ) (s : Layout) (past : List Entry) (run : Queueing) (c : Call) → IsLegal s past
    → RefusesIn first s past run c (refusal s past (waits_of first past) run c)

-- If a wait is not refused, it is not refused either once its run has fallen asleep.
abbrev pub AllowedAsleepToo : Type 0
AllowedAsleepToo = (s : Layout) (past : List Entry) (e : Entry) (waits : List RunWait) (run : Queueing) (c : Call)
    → IsLegal s (e ∷ past) → e.reply ≡ reply.Slept → AreWaiting past waits → Contains (still_open past) run
    → Refuses s past waits run c None → Refuses s (e ∷ past) waits run c None

-- ---- a deadlock lasts

-- Each wait of a deadlock goes on for ever, if its runs finish only after their waits, and no entry lets them go.
abbrev pub DeadlocksLast : Type 0
DeadlocksLast = (first : ℕ) (s : Layout) (past later : List Entry) (p : ℕ → Bool) → IsLegal s (later ++ past)
    → IsDeadlock (scene_of s past) (waits_of first past) p → FinishAfterWaits (members p (waits_of first past)) later
    → NoneLetsGo s past (members p (waits_of first past)) later
    → AreWaiting (later ++ past) (members p (waits_of first past))

-- A wait is refused, and it is begun all the same: so it goes on for ever, if the runs that wait finish only after
-- their waits, and no later entry lets them go.
abbrev pub RefusedNeverEnd : Type 0
RefusedNeverEnd = (first : ℕ) (s : Layout) (past later : List Entry) (sleep call : Entry) (w : RunWait)
    (stuck : Stuck) → IsLegal s (later ++ call ∷ sleep ∷ past) → IsPair first past sleep call w
    → RefusesIn first s past w.run call.call (Some stuck)
    → FinishAfterWaits (waits_of first (call ∷ sleep ∷ past)) later
    → NoneLetsGo s (call ∷ sleep ∷ past) (waits_of first (call ∷ sleep ∷ past)) later
    → IsWaiting (later ++ call ∷ sleep ∷ past) w

-- ---- how a deadlock comes up

-- no set of waits, unless it is empty, is a deadlock
abbrev pub NoDeadlock : ℕ → Layout → List Entry → Type 0
NoDeadlock first s past = (p : ℕ → Bool) → IsDeadlock (scene_of s past) (waits_of first past) p → (w : RunWait)
    → Contains (waits_of first past) w → p w.run.number ≡ false

-- An entry may trap waits that go on already: if it makes a queue narrower on which one of them waits for something
-- that has not started, or if it queues what one of them waits for from then on.
pub data MayTrap (first : ℕ) (s : Layout) (past : List Entry) (e : Entry) : Type 0 where
  narrows : (w : RunWait) → Contains (waits_of first past) w → (x : Queueing) → Contains (still_open past) x
      → is_started past x.number ≡ false → awaits past w.ticket x ≡ true
      → max_active s (e ∷ past) x.place.queue.0 < max_active s past x.place.queue.0 → MayTrap first s past e
  queues : (w : RunWait) → Contains (waits_of first past) w → (x : Queueing) → opening past e ≡ Some x
      → awaits (e ∷ past) w.ticket x ≡ true → MayTrap first s past e

-- No other entry makes a deadlock, unless it begins a wait.
abbrev pub EntriesTrapNone : Type 0
EntriesTrapNone = (first : ℕ) (s : Layout) (past : List Entry) (e : Entry) → IsLegal s (e ∷ past)
    → wait_begun first past e ≡ None → (MayTrap first s past e → ⊥) → NoDeadlock first s past
    → NoDeadlock first s (e ∷ past)

-- Nor does a wait that begins and was not refused, unless its call queues what another wait waits for.
abbrev pub AllowedTrapNone : Type 0
AllowedTrapNone = (first : ℕ) (s : Layout) (past : List Entry) (sleep call : Entry) (w : RunWait)
    → IsLegal s (call ∷ sleep ∷ past) → IsPair first past sleep call w
    → RefusesIn first s past w.run call.call None → (MayTrap first s (sleep ∷ past) call → ⊥)
    → NoDeadlock first s past → NoDeadlock first s (call ∷ sleep ∷ past)

-- ---- the same, told entry by entry

-- No entry may trap waits. The program sees to that.
abbrev pub NoneMayTrap : ℕ → Layout → List Entry → Type 0
NoneMayTrap first s = OfEachEntry (λ past e. MayTrap first s past e → ⊥)

-- So no waits are a deadlock.
abbrev pub NoDeadlockComesUp : Type 0
NoDeadlockComesUp = (first : ℕ) (s : Layout) (past : List Entry) → IsLegal s past → WaitsWereAllowed first s past
    → NoneMayTrap first s past → NoDeadlock first s past
