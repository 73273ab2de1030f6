-- What the reader's scripts are as plain values, and what they keep to.
use Rattle.std.specs.Prelude.{◌≡◌, ◌<◌, ◌≤◌, ◌+◌}
use Rattle.cmwq_json_script.specs.Common.{ℕ, Bool, true, false, length, List, map, string_bytes, All, AllByRecursion}
use Rattle.cmwq_json_script.specs.Common.{Call, Layout, is_layout, most_callers, has_numbers, IsScripted}
use Rattle.cmwq_model.specs.declared.call.Call.TheVariants as call
use Rattle.cmwq_json_script.specs.declared.action.Action.{Action}
use Rattle.cmwq_json_script.specs.declared.action.Action.TheVariants as action
use Rattle.cmwq_json_script.specs.declared.script.Script.{Script}
use Rattle.cmwq_json_script.specs.Limits.{callers_in, items_in}
use Rattle.cmwq_json_script.specs.Tops.{AreJournalSettings}
use Rattle.cmwq_json_script.specs.Runs.{Run}
use Rattle.cmwq_json_script.specs.Views.{actions_of}

abbrev pub run_of : Script → Run
run_of s =
    record {
      layout = s.shape;
      names = map string_bytes s.names.items;
      does = actions_of s.does;
      gates = map string_bytes s.gates.items;
      locks = map string_bytes s.locks.items;
      callers = actions_of s.callers;
      waits = s.waits;
      version = s.version;
      journal = s.journal;
    }

-- the calls that an item may make
abbrev pub is_own : Call → Bool
is_own (call.Queue i q c) = true
is_own (call.Delay i q c t) = true
is_own (call.Modify i q c t) = true
is_own (call.Cancel i) = true
is_own (call.FlushItem i) = true
is_own (call.FlushDelayed i) = true
is_own (call.CancelSync i) = true
is_own (call.Flush q) = true
is_own (call.Drain q) = true
is_own c = false

-- an action among so many gates and locks, of calls that are as they may be
abbrev pub IsActionOf : (Call → Type 0) → ℕ → ℕ → Action → Type 0
IsActionOf MayCall gates locks (action.Call c) = MayCall c
IsActionOf MayCall gates locks (action.Open gate) = gate < gates
IsActionOf MayCall gates locks (action.SleepAt gate) = gate < gates
IsActionOf MayCall gates locks (action.Lock lock) = lock < locks
IsActionOf MayCall gates locks (action.Unlock lock) = lock < locks

-- an action of an item, inside the layout
abbrev pub IsAction : Layout → ℕ → ℕ → Action → Type 0
IsAction layout = IsActionOf (λ c. (is_own c ≡ true) × (has_numbers layout c ≡ true))

-- an action of a caller, inside the layout
abbrev pub IsCallersAction : Layout → ℕ → ℕ → Action → Type 0
IsCallersAction layout = IsActionOf (IsScripted layout)

-- the actions of one caller
abbrev pub IsCallersScript : Layout → ℕ → ℕ → List Action → Type 0
IsCallersScript layout gates locks actions =
    AllByRecursion (IsCallersAction layout gates locks) actions × (length actions ≤ 1000)

-- a run inside the limits: what has to hold of the parts that are read, so that a script can be made of them
pub record IsRunWithin (run : Run) : Type 0 where
  pub allowed : is_layout run.layout ≡ true
  pub few_callers : length run.callers + run.waits ≤ callers_in run.version
  pub callers : length run.callers + run.waits ≡ run.layout.callers
  pub scripts : AllByRecursion (IsCallersScript run.layout (length run.gates) (length run.locks)) run.callers
  pub few_items : length run.does ≤ items_in run.version
  pub items : length run.does ≡ run.layout.items
  pub does : AllByRecursion (AllByRecursion (IsAction run.layout (length run.gates) (length run.locks))) run.does
  pub few_gates : length run.gates ≤ 16
  pub few_locks : length run.locks ≤ 16
  pub recorded : AreJournalSettings run.version run.journal

-- what a runner of the script needs
pub record MayRun (s : Script) : Type 0 where
  pub few_callers : length s.callers.items + s.waits ≤ most_callers
  pub callers : length s.callers.items + s.waits ≡ s.shape.callers
  pub scripts : All (λ actions.
      All (IsCallersAction s.shape (length s.gates.items) (length s.locks.items)) actions.items
      × (length actions.items ≤ 1000)) s.callers.items
  pub items : length s.does.items ≡ s.shape.items
  pub does : All (λ actions. All (IsAction s.shape (length s.gates.items) (length s.locks.items)) actions.items)
      s.does.items
  pub few_gates : length s.gates.items ≤ 16
  pub few_locks : length s.locks.items ≤ 16
  pub recorded : AreJournalSettings s.version s.journal
