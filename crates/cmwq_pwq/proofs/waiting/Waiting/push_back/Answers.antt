use Rattle.cmwq_pwq.proofs.Kept.{free_item, of_no_item, of_no_pwq, pushed_kept, pushed_seen}
use Rattle.cmwq_pwq.proofs.waiting.Waiting.push_back.Goals as goal

pub push_back-requires-clause-free : goal.push_back-requires-clause-free
push_back-requires-clause-free c =
    let s = c.self.inside in
    let r = rw (← c.self.view_is) at c.requires in
    rw c.from.ensures
    (of_no_item s.rows s.all s.pwqs c.self.invariant c.args.queueing.item.0
    (free_item s.rows s.all s.pwqs c.self.invariant c.args.queueing.item.0 r.free))

pub push_back-requires-2-clause-free : goal.push_back-requires-2-clause-free
push_back-requires-2-clause-free c =
    let s = c.self.inside in
    let r = rw (← c.self.view_is) at c.requires in
    rw c.from-2.ensures
    (of_no_pwq s.rows s.all s.pwqs c.self.invariant c.args.queueing.item.0
    (free_item s.rows s.all s.pwqs c.self.invariant c.args.queueing.item.0 r.free))

pub invariant_of-self : goal.invariant_of-self
invariant_of-self c =
    let s = c.self.inside in let x = c.args.queueing in
    let r = rw (← c.self.view_is) at c.requires in
    let lacks = free_item s.rows s.all s.pwqs c.self.invariant x.item.0 r.free in
    rw (c.push_back.ensures, c.push_back-2.ensures, c.place_of.ensures, c.put.ensures, c.from.ensures, c.from-2.ensures)
    (pushed_kept s.rows s.all s.pwqs c.self.invariant x r.item lacks r.cpu r.place)

pub returns : goal.returns
returns c =
    let s = c.self.inside in let x = c.args.queueing in
    let r = rw (← c.self.view_is) at c.requires in
    let lacks = free_item s.rows s.all s.pwqs c.self.invariant x.item.0 r.free in
    rw (
      c.push_back.ensures,
      c.push_back-2.ensures,
      c.place_of.ensures,
      c.put.ensures,
      c.from.ensures,
      c.from-2.ensures,
      ← c.self.view_is,
    ) (pushed_seen s.rows s.all s.pwqs c.self.invariant x r.item lacks)
