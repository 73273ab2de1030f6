-- Waits that were allowed when they began.
use Rattle.std.specs.Prelude.{◌≡◌, ◌∷◌, List, None, Option, Some, ℕ, []}
use Rattle.cmwq_model.specs.Prelude.{Layout}
use Rattle.cmwq_model.specs.declared.call.Call.{Call}
use Rattle.cmwq_model.specs.declared.entry.Entry.{Entry}
use Rattle.cmwq_model.specs.declared.record.Queueing.{Queueing}
use Rattle.cmwq_theory_steps.specs.Histories.{OfEachEntry}
use Rattle.cmwq_waits.specs.Begun.{wait_begun, waits_of}
use Rattle.cmwq_waits.specs.Refused.{Refuses}
use Rattle.cmwq_waits.specs.declared.run_wait.RunWait.{RunWait}
use Rattle.cmwq_waits.specs.declared.waits.Stuck.{Stuck}

-- a wait of this run by this call is refused for this reason, or it is not
abbrev pub RefusesIn : ℕ → Layout → List Entry → Queueing → Call → Option Stuck → Type 0
RefusesIn first s past run c o = Refuses s past (waits_of first past) run c o

-- what lay before the last entry
abbrev pub before_last : List Entry → List Entry
before_last [] = []
before_last (e ∷ past) = past

-- A wait that this entry begins was not refused just before its run fell asleep.
abbrev pub BeginsAllowed : ℕ → Layout → List Entry → Entry → Type 0
BeginsAllowed first s past e = (w : RunWait) → wait_begun first past e ≡ Some w
    → RefusesIn first s (before_last past) w.run e.call None

-- Each wait that began was so. A hub sees to that.
abbrev pub WaitsWereAllowed : ℕ → Layout → List Entry → Type 0
WaitsWereAllowed first s = OfEachEntry (BeginsAllowed first s)
