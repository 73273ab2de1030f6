-- The gates and the locks that actions have named so far. The two have name spaces of their own.
use Rattle.cmwq_text.specs.Words.{◌>>=◌}
use Rattle.cmwq_json_script.specs.Common.{ℕ, [], Option, Some, Data}
use Rattle.cmwq_json_script.specs.declared.used.Used.{Used}
use Rattle.cmwq_json_script.specs.Numbering.{number_said}

abbrev pub none_used : Used
none_used = record { gates = []; locks = [] }

-- the gate that is named, and what is used then
abbrev pub gate_said : Used → Data → Option (ℕ × Used)
gate_said used d = do
  gate ← number_said used.gates d
  Some (gate.0, record used { gates = gate.1 })

abbrev pub lock_said : Used → Data → Option (ℕ × Used)
lock_said used d = do
  lock ← number_said used.locks d
  Some (lock.0, record used { locks = lock.1 })
