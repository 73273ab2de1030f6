-- The rows of queues and of shapes. Numbers beyond those of a row are 0.
use Rattle.std.specs.Prelude.{ℕ, ◌+◌, ◌*◌, if◌then◌else◌, List, [], ◌∷◌, ◌++◌, codes, Option, Some, None}
use Rattle.cmwq_model.specs.declared.id.Who.{Who}
use Rattle.cmwq_model.specs.declared.id.Who.TheVariants.{Caller, Worker}
use Rattle.cmwq_model.specs.declared.id.WorkerId.{WorkerId}
use Rattle.cmwq_model.specs.declared.shape.QueueShape.{QueueShape}
use Rattle.cmwq_chart.specs.declared.bars.Bar.{Bar}
use Rattle.cmwq_chart.specs.declared.levels.Level.{Level}
use Rattle.cmwq_chart.specs.declared.sleeps.Sleep.{Sleep}
use Rattle.cmwq_chart.specs.declared.waits.CallerWait.{CallerWait}

-- ---- callers by their numbers, and workers beyond those

abbrev pub worker_number : WorkerId → ℕ
worker_number w = 256 + 128 * w.pool.cpu.0 + (if w.pool.high then 64 else 0) + w.index

abbrev pub who_number : Who → ℕ
who_number (Caller c) = c.0
who_number (Worker w) = worker_number w

-- the entry that ends something, which is never the first, or 0 if it goes on
abbrev pub end_number : Option ℕ → ℕ
end_number None = 0
end_number (Some last) = last

-- ---- what the rows are, with a hole for each number

abbrev pub three : List ℕ
three = codes "$ $ $\n"

abbrev pub four : List ℕ
four = codes "$ $ $ $\n"

abbrev pub six : List ℕ
six = codes "$ $ $ $ $ $\n"

-- ---- the numbers

abbrev pub queue_numbers : QueueShape → List ℕ
queue_numbers q = q.max_active ∷ (if q.high then 1 else 0) ∷ (if q.intensive then 1 else 0)
    ∷ (if q.freezable then 1 else 0) ∷ 0 ∷ 0 ∷ []

abbrev pub wait_numbers : CallerWait → List ℕ
wait_numbers wait = wait.caller.0 ∷ wait.row ∷ wait.from ∷ end_number wait.to ∷ 0 ∷ 0 ∷ []

-- a run's item is that of the entry that opened its queueing, whose number it is
abbrev pub run_numbers : Bar → List ℕ
run_numbers bar = worker_number bar.worker ∷ bar.number ∷ bar.from ∷ end_number bar.to ∷ 0 ∷ 0 ∷ []

abbrev pub sleep_numbers : Sleep → List ℕ
sleep_numbers sleep = worker_number sleep.worker ∷ sleep.from ∷ end_number sleep.to ∷ 0 ∷ 0 ∷ 0 ∷ []

abbrev pub level_numbers : Level → List ℕ
level_numbers level =
    level.place.queue.0 ∷ level.place.cpu.0 ∷ level.from ∷ level.height.open_count ∷ level.height.active_count
    ∷ level.height.width ∷ []
