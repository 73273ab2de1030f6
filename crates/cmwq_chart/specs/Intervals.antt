-- What is kept of a history while its entries come.
use Rattle.std.specs.Prelude.{◌≡◌, ◌≤◌, ◌+◌, ◌*◌, ℕ, if◌then◌else◌, List, [], length, map, filter, All}
use Rattle.cmwq_model.specs.declared.entry.Entry.{Entry}
use Rattle.cmwq_model.specs.declared.id.CallerId.{CallerId}
use Rattle.cmwq_model.specs.declared.id.WorkerId.{WorkerId}
use Rattle.cmwq_model.specs.Prelude.{Layout, workers}
use Rattle.cmwq_chart.specs.declared.callers.CallerIntervals.{CallerIntervals}
use Rattle.cmwq_chart.specs.declared.callers.CallerShapes.{CallerShapes}
use Rattle.cmwq_chart.specs.declared.intervals.Intervals.{Intervals}
use Rattle.cmwq_chart.specs.declared.workers.WorkerIntervals.{WorkerIntervals}
use Rattle.cmwq_chart.specs.Bars.{bars_in, AreFinishes}
use Rattle.cmwq_chart.specs.CallerWaits.{all_callers, caller_lanes_of, caller_waits_of, has_calls, wait_rows}
use Rattle.cmwq_chart.specs.CallerWaits.{wait_signs_by, wait_signs_of, waits_ended}
use Rattle.cmwq_chart.specs.Lanes.{has_entries}
use Rattle.cmwq_chart.specs.Signs.{signs_of}
use Rattle.cmwq_chart.specs.Sleeps.{asleep_since, sleeps_ended}

-- a table has a row for each of these things, in their order, of which this is kept
pub record AreRows {X Y : Type 0} (owner : Y → X) (IsKept : Y → Type 0) (xs : List X) (rows : List Y) : Type 0 where
  pub owners : map owner rows ≡ xs
  pub kept : All IsKept rows

-- ---- of each worker of a layout, in their order
pub record IsWorkerKept (past : List Entry) (own : WorkerIntervals) : Type 0 where
  pub used : own.has_entries ≡ has_entries past own.worker
  pub sleeps : own.sleeps.items ≡ sleeps_ended past own.worker
  pub since : own.since ≡ asleep_since past own.worker

abbrev pub worker_in : WorkerIntervals → WorkerId
worker_in own = own.worker

abbrev pub AreWorkersKept : Layout → List Entry → List WorkerIntervals → Type 0
AreWorkersKept s past rows = AreRows worker_in (IsWorkerKept past) (workers s) rows

-- a worker's number in that order, where each pool has n workers
abbrev pub worker_number : ℕ → WorkerId → ℕ
worker_number n w = 2 * n * w.pool.cpu.0 + (if w.pool.high then n else 0) + w.index

abbrev pub lanes_in : List WorkerIntervals → List WorkerId
lanes_in rows = map worker_in (filter (λ (own : WorkerIntervals). own.has_entries) rows)

-- ---- of each caller of a layout, in their order
pub record IsCallerKept (past : List Entry) (own : CallerIntervals) : Type 0 where
  pub used : own.has_entries ≡ has_calls past own.caller
  pub rows : own.rows.items ≡ wait_rows past own.caller
  pub few : length own.rows.items ≤ length past
  pub waits : own.waits.items ≡ waits_ended past own.caller
  pub signs : own.signs.items ≡ wait_signs_by past own.caller

abbrev pub caller_in : CallerIntervals → CallerId
caller_in own = own.caller

abbrev pub AreCallersKept : Layout → List Entry → List CallerIntervals → Type 0
AreCallersKept s past rows = AreRows caller_in (IsCallerKept past) (all_callers s) rows

abbrev pub callers_in : List CallerIntervals → List CallerId
callers_in rows = map caller_in (filter (λ (own : CallerIntervals). own.has_entries) rows)

-- ---- of the history
pub record AreIntervals (s : Layout) (past : List Entry) (kept : Intervals) : Type 0 where
  pub shape : kept.shape ≡ s
  pub short : length past ≤ 1073741824
  pub callers : AreCallersKept s past kept.callers.items
  pub workers_are : AreWorkersKept s past kept.workers.items
  pub bars : kept.bars.items ≡ bars_in [] past
  pub finishes : AreFinishes past kept.finishes.items
  pub signs : kept.signs.items ≡ signs_of past

-- ---- what is shown of these callers
pub record AreCallerShapes (past : List Entry) (cs : List CallerId) (shapes : CallerShapes) : Type 0 where
  pub lanes : shapes.lanes.items ≡ caller_lanes_of past cs
  pub waits : shapes.waits.items ≡ caller_waits_of past cs
  pub signs : shapes.signs.items ≡ wait_signs_of past cs
