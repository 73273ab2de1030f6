use Rattle.std.proofs.Common.{◌<◌, ◌∙◌, length, false, arith}
use Rattle.std.proofs.lemmas.List.{get_or_default}
use Rattle.cmwq_pool.proofs.Noting.{noted, note_within}
use Rattle.cmwq_pool.proofs.notes.Notes.get.Goals as goal

pub index-requires : goal.index-requires
index-requires c = grind (arith, note_within)

pub index-requires-2 : goal.index-requires-2
index-requires-2 c = grind (arith, note_within)

pub returns : goal.returns
returns c =
    let s = c.self.inside in
    let low : c.args.item < length s.numbers.items =
    note_within s.numbers.items s.intensive.items c.args.item c.self.invariant
    (rw (← c.self.view_is) at c.requires) in
    rw (← c.self.view_is) (noted s.numbers.items s.intensive.items c.args.item c.self.invariant low _
    (c.index.ensures ∙ get_or_default s.numbers.items c.args.item _ 0 low)
    (c.index-2.ensures ∙ get_or_default s.intensive.items c.args.item _ false (omega (arith, low, c.self.invariant))))
