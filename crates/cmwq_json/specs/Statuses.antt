-- The exit status of a run over a JSON input that failed: 1 refused input, 4 no memory, 5 a fault of reading or
-- writing.
use Rattle.std.specs.Prelude.{ℕ}
use Rattle.cmwq_json.specs.declared.fault.Fault.{Fault}
use Rattle.cmwq_json.specs.declared.fault.Fault.TheVariants as fault

abbrev pub fault_status : Fault → ℕ
fault_status fault.NoMemory = 4
fault_status fault.ReadFault = 5
fault_status fault.WriteFault = 5
fault_status fault.TooLong = 1
fault_status fault.NotJson = 1
fault_status (fault.Member r) = 1
