-- Waits of a deadlock never end, and neither would a wait that is refused.
use Rattle.std.specs.Prelude.{◌≡◌, ◌<◌, ◌∷◌, ◌++◌, ◌||◌, ℕ, Bool, true, false, List, Some, Contains, length}
use Rattle.std.specs.List.{list_any}
use Rattle.cmwq_model.specs.Prelude.{IsLegal, Layout, finishes, is_started, is_unended, max_active, still_open}
use Rattle.cmwq_model.specs.Prelude.{ticket_in}
use Rattle.cmwq_model.specs.declared.call.Call.{Call}
use Rattle.cmwq_model.specs.declared.entry.Entry.{Entry}
use Rattle.cmwq_model.specs.declared.record.Queueing.{Queueing}
use Rattle.cmwq_model.specs.declared.reply.Reply.TheVariants as reply
use Rattle.cmwq_theory_steps.specs.Endings.{ending}
use Rattle.cmwq_theory_steps.specs.Histories.{OfEachEntry}
use Rattle.cmwq_waits.specs.HeldUp.{AreWaiting, IsDeadlock, IsWaiting, Scene, awaits, has_run_of, members}
use Rattle.cmwq_waits.specs.Looks.{IsSeen}
use Rattle.cmwq_waits.specs.Refused.{AreApart, Refuses}
use Rattle.cmwq_waits.specs.Registered.{registered}
use Rattle.cmwq_waits.specs.declared.run_wait.RunWait.{RunWait}
use Rattle.cmwq_waits.specs.declared.waits.Stuck.{Stuck}

-- ---- how a history goes on: what comes later has the newest entry first, as the past has

-- one of these waits for the queueing
abbrev pub is_awaited : List Entry → List RunWait → Queueing → Bool
is_awaited past waits x = list_any (λ (w : RunWait). awaits past w.ticket x) waits

-- An entry lets some waits go if it takes back or replaces something that has not started, which one of them waits for
-- or which is queued behind a run of theirs; or if it makes a queue wider on which one of them waits for something that
-- has not started.
pub data LetsGo (s : Layout) (past : List Entry) (e : Entry) (waits : List RunWait) : Type 0 where
  ends_unstarted : (x : Queueing) → ending past e ≡ Some x → is_started past x.number ≡ false
      → (is_awaited past waits x || has_run_of waits x.item.0) ≡ true → LetsGo s past e waits
  widens : (x : Queueing) → Contains (still_open past) x → is_started past x.number ≡ false
      → is_awaited past waits x ≡ true
      → max_active s past x.place.queue.0 < max_active s (e ∷ past) x.place.queue.0 → LetsGo s past e waits

abbrev pub NoneLetsGo : Layout → List Entry → List RunWait → List Entry → Type 0
NoneLetsGo s past waits later = OfEachEntry (λ before e. LetsGo s (before ++ past) e waits → ⊥) later

-- Each of these runs finishes only after its wait has ended.
abbrev pub FinishAfterWaits : List RunWait → List Entry → Type 0
FinishAfterWaits waits later =
    OfEachEntry (λ before e. (w : RunWait) → Contains waits w → finishes w.run.number e ≡ true
    → is_unended before w.ticket ≡ false) later

-- ---- a deadlock lasts

-- the scene in which a history ends
abbrev pub scene_of : Layout → List Entry → Scene
scene_of s past = record { layout = s; past = past; opened = still_open past }

-- Each wait of a deadlock goes on for ever, if its runs finish only after their waits, and no entry lets them go.
abbrev pub DeadlocksLast : Type 0
DeadlocksLast = (s : Layout) (past later : List Entry) (waits : List RunWait) (p : ℕ → Bool)
    → IsLegal s (later ++ past) → AreWaiting past waits → AreApart waits → IsDeadlock (scene_of s past) waits p
    → FinishAfterWaits (members p waits) later → NoneLetsGo s past (members p waits) later
    → AreWaiting (later ++ past) (members p waits)

-- ---- a wait that is refused would never end

-- A wait is refused, and an entry makes the call all the same: so the wait goes on for ever, if the runs that wait
-- finish only after their waits, and no later entry lets them go.
abbrev pub RefusedWaitsNeverEnd : Type 0
RefusedWaitsNeverEnd = (s : Layout) (past later : List Entry) (e : Entry) (waits : List RunWait) (w : RunWait)
    (stuck : Stuck) → IsLegal s (later ++ e ∷ past) → AreWaiting past waits → AreApart waits → IsSeen past w
    → Refuses s past waits w.run e.call (Some stuck) → ticket_in e (length past) ≡ Some w.ticket
    → FinishAfterWaits (registered waits (Some w)) later → NoneLetsGo s (e ∷ past) (registered waits (Some w)) later
    → IsWaiting (later ++ e ∷ past) w

-- A hub lets the run fall asleep before it makes the call: then the wait would be refused as well.
abbrev pub RefusedAsleepToo : Type 0
RefusedAsleepToo = (s : Layout) (past : List Entry) (e : Entry) (waits : List RunWait) (run : Queueing) (c : Call)
    (stuck : Stuck) → IsLegal s (e ∷ past) → e.reply ≡ reply.Slept → AreWaiting past waits
    → Contains (still_open past) run → Refuses s past waits run c (Some stuck)
    → Refuses s (e ∷ past) waits run c (Some stuck)
