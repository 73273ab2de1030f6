use Rattle.std.proofs.Common.{◌<◌, arith, length}
use Rattle.cmwq_pool.proofs.Seeing.{there, may_be_listed, item_added}
use Rattle.cmwq_pool.proofs.Tasks.{in_no_list}
use Rattle.cmwq_pool.specs.declared.note.Note.{Note}
use Rattle.cmwq_pool.proofs.pools.Pools.add.Goals as goal

pub set-requires : goal.set-requires
set-requires c =
    let s = c.self.inside in
    let less : c.args.pool < length s.workers.items =
    there s.lists s.notes s.workers.items c.args.self.now c.args.pool c.self.view_is c.requires.pool in
    let may =
    may_be_listed s.lists s.notes s.workers.items c.args.item.0 c.args.self.now c.args.pool c.self.view_is less
    c.self.invariant.many c.requires.free in
    let low : c.args.item.0 < s.lists.items = may.0 in
    omega (arith, low, c.from.ensures, c.self.invariant.noted)

pub push_back-requires-clause-list : goal.push_back-requires-clause-list
push_back-requires-clause-list c = grind (arith, there)

pub push_back-requires-clause-item : goal.push_back-requires-clause-item
push_back-requires-clause-item c =
    let s = c.self.inside in
    let less : c.args.pool < length s.workers.items =
    there s.lists s.notes s.workers.items c.args.self.now c.args.pool c.self.view_is c.requires.pool in
    let may =
    may_be_listed s.lists s.notes s.workers.items c.args.item.0 c.args.self.now c.args.pool c.self.view_is less
    c.self.invariant.many c.requires.free in
    let low : c.args.item.0 < s.lists.items = may.0 in
    omega (arith, low, c.from-2.ensures)

pub push_back-requires-clause-free : goal.push_back-requires-clause-free
push_back-requires-clause-free c =
    let s = c.self.inside in
    let less : c.args.pool < length s.workers.items =
    there s.lists s.notes s.workers.items c.args.self.now c.args.pool c.self.view_is c.requires.pool in
    let may =
    may_be_listed s.lists s.notes s.workers.items c.args.item.0 c.args.self.now c.args.pool c.self.view_is less
    c.self.invariant.many c.requires.free in
    rw c.from-2.ensures (in_no_list s.lists.lists c.args.item.0 may.1)

pub returns : goal.returns
returns c =
    let s = c.self.inside in
    let less : c.args.pool < length s.workers.items =
    there s.lists s.notes s.workers.items c.args.self.now c.args.pool c.self.view_is c.requires.pool in
    let may =
    may_be_listed s.lists s.notes s.workers.items c.args.item.0 c.args.self.now c.args.pool c.self.view_is less
    c.self.invariant.many c.requires.free in
    let low : c.args.item.0 < length s.notes = let known : c.args.item.0 < s.lists.items = may.0 in
    omega (arith, known, c.self.invariant.noted) in
    let note : Note = record { number = c.args.number; intensive = c.args.intensive } in
    rw (c.push_back.ensures, c.set.ensures, c.from-2.ensures, c.from.ensures, ← c.self.view_is)
    (item_added s.lists s.notes s.workers.items c.args.pool less c.args.item.0 note c.self.invariant.many low may.1)
