-- What becomes of whether an item runs and waits.
use Rattle.std.specs.Prelude.{◌==◌, if◌then◌else◌}
use Rattle.cmwq_core.specs.Common.{ℕ, true, false, Option, Some, None, is_some, Queueing, Reply, number_finished}
use Rattle.cmwq_core.specs.Common.{Flight}
use Rattle.cmwq_core.specs.declared.marks.Standing.{Standing}

abbrev pub flight_standing : Flight → Standing
flight_standing f = record { runs = is_some f.run; waits = is_some f.unstarted }

-- by a queueing that ends, one that starts, and one that is opened
abbrev pub ended_at : Reply → Option Queueing → ℕ → Standing → Standing
ended_at r None i a = a
ended_at r (Some x) i a =
    if x.item.0 == i
    then (if is_some (number_finished r) then record a { runs = false } else record a { waits = false }) else a

abbrev pub started_at : Option Queueing → ℕ → Standing → Standing
started_at None i a = a
started_at (Some x) i a = if x.item.0 == i then record { runs = a.waits; waits = false } else a

abbrev pub opened_at : Option Queueing → ℕ → Standing → Standing
opened_at None i a = a
opened_at (Some x) i a = if x.item.0 == i then record a { waits = true } else a
