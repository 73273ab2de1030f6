use Rattle.std.proofs.Common.{ap, arith, length}
use Rattle.cmwq_pool.proofs.Noting.{length-notes_of}
use Rattle.cmwq_pool.proofs.notes.Notes.len.Goals as goal

pub returns : goal.returns
returns c =
    omega (
      arith,
      c.len.ensures,
      c.self.inside.numbers.ok.0,
      length-notes_of c.self.inside.numbers.items c.self.inside.intensive.items c.self.invariant,
      ap length c.self.view_is,
    )
