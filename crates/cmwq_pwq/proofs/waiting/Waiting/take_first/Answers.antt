use Rattle.cmwq_pwq.specs.Common.{◌≡◌, ◌∙◌, Some, None, sym}
use Rattle.std.specs.Prelude.{slice_get}
use Rattle.cmwq_list.specs.Lists.{list_at}
use Rattle.cmwq_pwq.specs.Pwqs.{place_of}
use Rattle.cmwq_pwq.specs.Waiting.{row_of}
use Rattle.cmwq_pwq.proofs.Kept.{first_row, first_taken, none_there}
use Rattle.cmwq_pwq.proofs.waiting.Waiting.take_first.Goals as goal

pub returns-in_err-item-clause-none : goal.returns-in_err-item-clause-none
returns-in_err-item-clause-none c =
    let s = c.self.inside in let q = c.args.place.queue.0 in let k = c.args.place.cpu.0 in
    let r = rw (← c.self.view_is) at c.requires in
    let e : slice_get (list_at s.pwqs.lists (place_of q k)) 0 ≡ None =
    rw c.place_of.ensures at (sym c.first.ensures ∙ c.in_err-item.was) in
    rw (c.from_residual.ensures, ← c.self.view_is) (none_there s.rows s.all s.pwqs c.self.invariant q k r.cpu r.place e)

pub at-queueing-requires : goal.at-queueing-requires
at-queueing-requires c =
    let s = c.self.inside in let q = c.args.place.queue.0 in let k = c.args.place.cpu.0 in
    let r = rw (← c.self.view_is) at c.requires in
    let e : slice_get (list_at s.pwqs.lists (place_of q k)) 0 ≡ Some c.in_ok-item.item =
    rw c.place_of.ensures at (sym c.first.ensures ∙ c.in_ok-item.was) in
    let row = first_row s.rows s.all s.pwqs c.self.invariant q k r.cpu r.place c.in_ok-item.item e in
    row.inside

pub unlink-requires : goal.unlink-requires
unlink-requires c =
    let s = c.self.inside in let q = c.args.place.queue.0 in let k = c.args.place.cpu.0 in
    let r = rw (← c.self.view_is) at c.requires in
    let e : slice_get (list_at s.pwqs.lists (place_of q k)) 0 ≡ Some c.in_ok-item.item =
    rw c.place_of.ensures at (sym c.first.ensures ∙ c.in_ok-item.was) in
    let row = first_row s.rows s.all s.pwqs c.self.invariant q k r.cpu r.place c.in_ok-item.item e in
    let read : c.at-queueing.result ≡ row_of s.rows c.in_ok-item.item = c.at-queueing.ensures in
    rw (← c.self.view_is, read, row.item) row.inside

pub returns-clause-taken : goal.returns-clause-taken
returns-clause-taken c =
    let s = c.self.inside in let q = c.args.place.queue.0 in let k = c.args.place.cpu.0 in
    let r = rw (← c.self.view_is) at c.requires in
    let e : slice_get (list_at s.pwqs.lists (place_of q k)) 0 ≡ Some c.in_ok-item.item =
    rw c.place_of.ensures at (sym c.first.ensures ∙ c.in_ok-item.was) in
    let row = first_row s.rows s.all s.pwqs c.self.invariant q k r.cpu r.place c.in_ok-item.item e in
    let read : c.at-queueing.result ≡ row_of s.rows c.in_ok-item.item = c.at-queueing.ensures in
    rw (← c.self.view_is, read)
    (first_taken s.rows s.all s.pwqs c.self.invariant q k r.cpu r.place c.in_ok-item.item
    c.unlink.new.self.queueings e (rw (← c.self.view_is, read) at c.unlink.ensures.by_index))
