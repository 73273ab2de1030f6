-- What a run of `replay` reads, writes and answers.
use Rattle.std.specs.Prelude.{ℕ, List, Result, Ok, Err, Option, ⊤}
use Rattle.std.specs.Io.KnownBytes.{Keeps, Appends}
use Rattle.cmwq_io.specs.Moves.{AppendsFront}
use Rattle.cmwq_sim.specs.Lines.{scenario_lines}
use Rattle.cmwq_sim.specs.Text.{lines_text}
use Rattle.cmwq_json.specs.declared.fault.Fault.{Fault}
use Rattle.cmwq_json.specs.declared.fault.Fault.TheVariants as fault
use Rattle.cmwq_json.specs.Inputs.{Says, IsNoJson, IsLong}
use Rattle.cmwq_json.specs.Statuses.{fault_status}
use Rattle.cmwq_replay.specs.Scenarios.{PlanWithNames, scenario_of}

-- the table of a scenario: the text of its lines, with the names of its items
abbrev pub table_text : PlanWithNames → List ℕ
table_text p = lines_text p.names (scenario_lines p.plan)

-- It writes the table of the scenario that its input says, or a fault stopped it. Only a fault of writing comes after
-- the first byte is written.
abbrev pub ReplayEnds : List ℕ → Option (List ℕ) → Option (List ℕ) → Result ⊤ Fault → Type 0
ReplayEnds text old new (Ok r) = (p : PlanWithNames) × Says scenario_of text (Ok p) × Appends old new (table_text p)
ReplayEnds text old new (Err fault.WriteFault) = (p : PlanWithNames) × Says scenario_of text (Ok p)
    × AppendsFront old new (table_text p)
ReplayEnds text old new (Err (fault.Member r)) = Says scenario_of text (Err r) × Keeps old new
ReplayEnds text old new (Err fault.NotJson) = IsNoJson text × Keeps old new
ReplayEnds text old new (Err fault.TooLong) = IsLong text × Keeps old new
ReplayEnds text old new (Err fault.NoMemory) = Keeps old new
ReplayEnds text old new (Err fault.ReadFault) = Keeps old new

-- the exit status: 0 done
abbrev pub replay_status : Result ⊤ Fault → ℕ
replay_status (Ok r) = 0
replay_status (Err e) = fault_status e
