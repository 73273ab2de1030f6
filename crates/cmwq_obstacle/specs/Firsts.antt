-- For each queue and CPU the first item whose queueing has not started and is active there.
use Rattle.std.specs.Prelude.{◌≡◌, ◌<◌, ◌+◌, ◌*◌, ℕ, List, find, length, Option, None, slice_index_or}
use Rattle.std.specs.Prelude.{Some, if◌then◌else◌, option_and_then}
use Rattle.std.specs.List.{range_with_len}
use Rattle.cmwq_model.specs.Prelude.{Layout, is_active, most_cpus, unstarted_queueing}
use Rattle.cmwq_model.specs.declared.entry.Entry.{Entry}
use Rattle.cmwq_model.specs.declared.record.Place.{Place}
use Rattle.cmwq_model.specs.declared.record.Queueing.{Queueing}
use Rattle.cmwq_obstacle.specs.Obstacles.{is_listed_there}

-- a place that the shape has
pub record IsPlaceThere (s : Layout) (place : Place) : Type 0 where
  pub queue : place.queue.0 < length s.queues
  pub cpu : place.cpu.0 < s.cpus

-- where what the item has queued is active
abbrev pub active_place : Layout → List Entry → Queueing → Option Place
active_place s past x = if is_active s past x then Some x.place else None

abbrev pub listed_at : Layout → List Entry → ℕ → Option Place
listed_at s past i = option_and_then (active_place s past) (unstarted_queueing past i)

-- ---- the table: for each queue as many rows as a shape may have CPUs

abbrev pub row_of : Place → ℕ
row_of place = most_cpus * place.queue.0 + place.cpu.0

abbrev pub first_at : List (Option ℕ) → Place → Option ℕ
first_at rows place = slice_index_or rows (row_of place) None

-- of these items
pub record AreFirstsOf (s : Layout) (past : List Entry) (items : List ℕ) (rows : List (Option ℕ)) : Type 0 where
  pub many : length rows ≡ most_cpus * length s.queues
  pub each : (place : Place) → IsPlaceThere s place
      → first_at rows place ≡ find (is_listed_there s past place) items

-- of all
abbrev pub AreFirsts : Layout → List Entry → List (Option ℕ) → Type 0
AreFirsts s past rows = AreFirstsOf s past (range_with_len 0 s.items) rows
