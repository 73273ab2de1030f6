-- Laws of waits for runs: why a run that waits for its own end, and runs that wait for one another in a circle, would
-- never go on.
use Rattle.std.specs.Prelude.{◌≡◌, ◌<◌, ◌==◌, ◌&&◌, ◌∷◌, ◌++◌, ℕ, Bool, true, false, List, [], Some, option_map}
use Rattle.std.specs.List.{AllByRecursion, list_any}
use Rattle.cmwq_model.specs.declared.call.Call.{Call}
use Rattle.cmwq_model.specs.declared.call.Call.TheVariants as call
use Rattle.cmwq_model.specs.declared.entry.Entry.{Entry}
use Rattle.cmwq_model.specs.declared.record.Queueing.{Queueing}
use Rattle.cmwq_model.specs.declared.record.Start.{Start}
use Rattle.cmwq_model.specs.Prelude.{IsLegal, Layout, entry_at, finishes, is_done, is_end_of, item_run, queueing_at}
use Rattle.cmwq_theory_laws.specs.Headline.{is_waited_for}
use Rattle.cmwq_model.specs.declared.id.CallerId.{CallerId}
use Rattle.cmwq_chart.specs.CallerWaits.{waits_by}
use Rattle.cmwq_chart.specs.declared.waits.CallerWait.{CallerWait}
use Rattle.cmwq_output_laws.specs.BarLaws.{EndsBefore}

-- its item runs this queueing
abbrev pub IsRun : List Entry → Queueing → Type 0
IsRun past x = (queueing_at past x.number ≡ Some x)
    × (option_map (λ (start : Start). start.number) (item_run past x.item.0) ≡ Some x.number)

-- a wait that this call began, under this number, is for the run
abbrev pub is_for_run : Call → ℕ → Queueing → Bool
is_for_run (call.CancelSync i) t x = x.item.0 == i.0
is_for_run c t x = is_waited_for c t x

-- the wait with this number was begun by this call
abbrev pub IsBegun : List Entry → ℕ → Call → Type 0
IsBegun past t c = (begun : Entry) × (entry_at past t ≡ Some begun) × (begun.call ≡ c)

-- the entry ends the wait with this number
abbrev pub ends_wait : ℕ → Entry → Bool
ends_wait t e = is_end_of t e.call && is_done e.reply

-- ---- a wait that is for a run doesn't end while that goes on: not for its own run either

abbrev pub RunsHoldWaits : Type 0
RunsHoldWaits = (s : Layout) (past : List Entry) (e : Entry) (x : Queueing) (t : ℕ) (c : Call) → IsLegal s (e ∷ past)
    → IsRun past x → IsBegun past t c → is_for_run c t x ≡ true → ends_wait t e ≡ false

-- ---- runs that wait for one another, in a circle of any length, never finish, and their waits never end

-- a run, and its wait: the call that began it, and its number
pub record RunWait : Type 0 where
  pub run : Queueing
  pub call : Call
  pub ticket : ℕ

-- the run goes on, and its wait is for a run of these
pub record IsHeld (past : List Entry) (waits : List RunWait) (wait : RunWait) : Type 0 where
  pub runs : IsRun past wait.run
  pub begun : IsBegun past wait.ticket wait.call
  pub is_for : list_any (λ (other : RunWait). is_for_run wait.call wait.ticket other.run) waits ≡ true

abbrev pub AreStuck : List Entry → List RunWait → Type 0
AreStuck past waits = AllByRecursion (IsHeld past waits) waits

-- As a history goes on, newest entry first, each of the runs finishes only after its wait has ended.
abbrev pub FinishAfterWaits : List RunWait → List Entry → Type 0
FinishAfterWaits waits [] = Unit {0}
FinishAfterWaits waits (e ∷ later) = FinishAfterWaits waits later
    × AllByRecursion (λ (wait : RunWait). finishes wait.run.number e ≡ true
    → list_any (ends_wait wait.ticket) later ≡ true) waits

-- the run still goes on, and its wait has not ended
abbrev pub StillWaits : List Entry → List Entry → RunWait → Type 0
StillWaits past later wait = IsRun (later ++ past) wait.run × (list_any (ends_wait wait.ticket) later ≡ false)

abbrev pub CirclesNeverEnd : Type 0
CirclesNeverEnd = (s : Layout) (past later : List Entry) (waits : List RunWait) → IsLegal s (later ++ past)
    → AreStuck past waits → FinishAfterWaits waits later → AllByRecursion (StillWaits past later) waits

-- ---- of a caller's waits in one row of a chart, the one that begins first ends before the other begins

abbrev pub StandApart : CallerWait → CallerWait → Type 0
StandApart w v = w.row ≡ v.row → w.from < v.from → EndsBefore w.to v.from

abbrev pub WaitsOfARowAreApart : Type 0
WaitsOfARowAreApart = (past : List Entry) (c : CallerId)
    → AllByRecursion (λ w. AllByRecursion (StandApart w) (waits_by past c)) (waits_by past c)
