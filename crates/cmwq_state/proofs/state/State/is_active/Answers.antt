use Rattle.cmwq_state.specs.Common.{◌∙◌, ap, not, layout_of, past_of, list_any, has_number, still_open}
use Rattle.cmwq_state.specs.Common.{open_there, is_active}
use Rattle.std.proofs.Math.Bool.{not-not}
use Rattle.cmwq_lemmas.proofs.Members.{contained_in}
use Rattle.cmwq_state.proofs.PwqsItems.{number_of_item}
use Rattle.cmwq_state.proofs.PwqsSteps.{waits_by_number}
use Rattle.cmwq_state.proofs.state.State.is_active.Goals as goal

pub waits-requires-clause-item : goal.waits-requires-clause-item
waits-requires-clause-item c = let b = c.self.inside in
    let s = layout_of b.counts b.queues.items in let past = past_of b.entries in let x = c.args.queueing in
    let here = contained_in (still_open past) x (rw (← c.self.view_is) at c.requires) in
    rw c.self.invariant.parts_are.pwqs.items (open_there s past x c.self.invariant.legal here).item

pub waits-requires-clause-number : goal.waits-requires-clause-number
waits-requires-clause-number c = let b = c.self.inside in
    let s = layout_of b.counts b.queues.items in let past = past_of b.entries in let x = c.args.queueing in
    let here = contained_in (still_open past) x (rw (← c.self.view_is) at c.requires) in
    rw c.self.invariant.parts_are.pwqs.waiting (number_of_item s past x here)

pub returns : goal.returns
returns c = let b = c.self.inside in
    let s = layout_of b.counts b.queues.items in let past = past_of b.entries in let x = c.args.queueing in
    let here = contained_in (still_open past) x (rw (← c.self.view_is) at c.requires) in
    rw (← c.self.view_is) (ap not (c.waits.ensures ∙ (ap (list_any (has_number x.number)) c.self.invariant.parts_are.pwqs.waiting
    ∙ waits_by_number s past x here)) ∙ not-not (is_active s past x))
