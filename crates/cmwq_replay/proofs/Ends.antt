-- How a run ends, from what its parts promise.
use Rattle.std.proofs.Common.{◌≡◌, List, ℕ, Option, None, Some, Ok}
use Rattle.std.specs.Prelude.{IfSome}
use Rattle.std.specs.Io.KnownBytes.{Appends}
use Rattle.serde_json.specs.Data.{Data}
use Rattle.cmwq_json.specs.Inputs.{IsJson}
use Rattle.cmwq_replay.specs.Scenarios.{PlanWithNames, scenario_of}
use Rattle.cmwq_replay.specs.Replay.{ReplayEnds, table_text}

-- the table of the scenario that was read is written
pub ends_done : (left old new : Option (List ℕ)) (d : Data) (p : PlanWithNames) → IfSome left (λ text. IsJson text d)
    → scenario_of d ≡ Ok p → Appends old new (table_text p) → IfSome left (λ text. ReplayEnds text old new (Ok tt))
ends_done None old new d p read said written = tt
ends_done (Some text) old new d p read said written = (p, (d, read, said), written)
