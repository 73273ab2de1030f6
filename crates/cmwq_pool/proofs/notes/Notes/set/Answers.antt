use Rattle.std.proofs.Common.{arith}
use Rattle.cmwq_pool.proofs.Noting.{note_within, notes_set}
use Rattle.cmwq_pool.proofs.notes.Notes.set.Goals as goal

pub index_mut-requires : goal.index_mut-requires
index_mut-requires c = grind (arith, note_within)

pub index_mut-requires-2 : goal.index_mut-requires-2
index_mut-requires-2 c = grind (arith, note_within)

pub returns : goal.returns
returns c = grind (arith, note_within, notes_set)
