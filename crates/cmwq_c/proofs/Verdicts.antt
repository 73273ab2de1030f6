-- How a run of `check` ended, from its status.
use Rattle.cmwq_c.specs.Common.{Result, Err, arith, Illegal, history_file_of, CheckEnds, check_status}
use Rattle.std.proofs.Common.{◌≡◌, ℕ, List, [], Option, None, Some, Ok}
use Rattle.cmwq_base.specs.declared.refusal.Refusal.{Refusal}
use Rattle.cmwq_base.specs.declared.refusal.Refusal.TheVariants as refusal
use Rattle.cmwq_c.specs.Verdicts.{Judges}

pub legal_end : (text line : List ℕ) (ended : Result (Option Illegal) Refusal)
    → CheckEnds text (Some []) (Some line) ended → 0 ≡ check_status ended → Judges text None line
legal_end text line (Ok None) ends is = ends
legal_end text line (Ok (Some i)) ends is = absurd (omega (arith, is))
legal_end text line (Err refusal.NoMemory) ends is = absurd (omega (arith, is))
legal_end text line (Err refusal.ReadFault) ends is = absurd (omega (arith, is))
legal_end text line (Err refusal.WriteFault) ends is = absurd (omega (arith, is))
legal_end text line (Err refusal.TooLong) ends is = absurd (omega (arith, is))
legal_end text line (Err (refusal.BadLine n)) ends is = absurd (omega (arith, is))
legal_end text line (Err (refusal.BadShape n)) ends is = absurd (omega (arith, is))
legal_end text line (Err (refusal.NoSuchId n)) ends is = absurd (omega (arith, is))

pub illegal_end : (text line : List ℕ) (ended : Result (Option Illegal) Refusal)
    → CheckEnds text (Some []) (Some line) ended → 3 ≡ check_status ended → (i : Illegal) × Judges text (Some i) line
illegal_end text line (Ok None) ends is = absurd (omega (arith, is))
illegal_end text line (Ok (Some i)) ends is = (i, ends)
illegal_end text line (Err refusal.NoMemory) ends is = absurd (omega (arith, is))
illegal_end text line (Err refusal.ReadFault) ends is = absurd (omega (arith, is))
illegal_end text line (Err refusal.WriteFault) ends is = absurd (omega (arith, is))
illegal_end text line (Err refusal.TooLong) ends is = absurd (omega (arith, is))
illegal_end text line (Err (refusal.BadLine n)) ends is = absurd (omega (arith, is))
illegal_end text line (Err (refusal.BadShape n)) ends is = absurd (omega (arith, is))
illegal_end text line (Err (refusal.NoSuchId n)) ends is = absurd (omega (arith, is))

pub refused_end : (text line : List ℕ) (ended : Result (Option Illegal) Refusal)
    → CheckEnds text (Some []) (Some line) ended → 1 ≡ check_status ended
    → (e : Refusal) × (history_file_of text ≡ Err e)
refused_end text line (Ok None) ends is = absurd (omega (arith, is))
refused_end text line (Ok (Some i)) ends is = absurd (omega (arith, is))
refused_end text line (Err refusal.NoMemory) ends is = absurd (omega (arith, is))
refused_end text line (Err refusal.ReadFault) ends is = absurd (omega (arith, is))
refused_end text line (Err refusal.WriteFault) ends is = absurd (omega (arith, is))
refused_end text line (Err refusal.TooLong) ends is = (refusal.TooLong, ends.0)
refused_end text line (Err (refusal.BadLine n)) ends is = (refusal.BadLine n, ends.0)
refused_end text line (Err (refusal.BadShape n)) ends is = (refusal.BadShape n, ends.0)
refused_end text line (Err (refusal.NoSuchId n)) ends is = (refusal.NoSuchId n, ends.0)
