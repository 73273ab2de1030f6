use Rattle.std.proofs.Common.{arith}
use Rattle.cmwq_pool.proofs.Noting.{length-notes_of}
use Rattle.cmwq_pool.proofs.notes.Notes.copy_from.Goals as goal

pub copy_from_slice-requires : goal.copy_from_slice-requires
copy_from_slice-requires c = grind (arith, length-notes_of)

pub copy_from_slice-requires-2 : goal.copy_from_slice-requires-2
copy_from_slice-requires-2 c = grind (arith, length-notes_of)
