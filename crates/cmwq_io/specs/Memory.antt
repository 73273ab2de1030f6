-- What a clause reads of bytes in memory that serve as a source or a sink.
use Rattle.std.specs.Prelude.{ℕ, List, Option}
use Rattle.cmwq_io.specs.declared.trouble.Trouble.{Trouble}
use Rattle.cmwq_io.specs.declared.memory.Memory.{Memory}

abbrev pub bytes_of : {T : Type 0} → Memory T → T
bytes_of m = m.bytes

abbrev pub memory_troubles : {T : Type 0} → Memory T → ℕ
memory_troubles m = m.troubles

abbrev pub memory_outcomes : {T : Type 0} → Memory T → List (Option Trouble)
memory_outcomes m = m.outcomes
