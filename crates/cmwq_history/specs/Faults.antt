-- What a fault of reading or writing says at the end of a run.
use Rattle.std.specs.Prelude.{ℕ, Result, IsErrOf}
use Rattle.cmwq_io.specs.Counts.{Rises}
use Rattle.cmwq_base.specs.declared.refusal.Refusal.{Refusal}
use Rattle.cmwq_base.specs.declared.refusal.Refusal.TheVariants as refusal

-- if it ended by a fault of reading, the input has failed since it began, and if by one of writing, the output
abbrev pub FaultsAreTrue : {T I O : Type 0} → Result T Refusal → (I → ℕ) → I → I → (O → ℕ) → O → O → Type 0
FaultsAreTrue ended read input read_input written output written_output =
    (IsErrOf ended refusal.ReadFault → Rises (read input) (read read_input))
    × (IsErrOf ended refusal.WriteFault → Rises (written output) (written written_output))
