use Rattle.std.proofs.Common.{eq-eqb, ⊎_elim}
use Rattle.std.specs.Prelude.{◌≡◌}
use Rattle.cmwq_state.specs.Common.{◌∙◌, ◌&&◌, ap, arith, sym, layout_of, length, past_of, unended_flushes_stand}
use Rattle.cmwq_model.specs.Prelude.{is_within, serving_from}
use Rattle.cmwq_flush.specs.FlushBook.{is_waited_for}
use Rattle.cmwq_flush.specs.FlushBooks.{book_in}
use Rattle.cmwq_refinement.proofs.FlushReads.{flushes_wait_for_next, flushes_wait_within}
use Rattle.cmwq_state.proofs.Ends.{none_served_yet}
use Rattle.cmwq_state.proofs.state.State.flush_is_held_up.Goals as goal

-- it would be the next ticket
pub returns-then-ticket-number : goal.returns-then-ticket-number
returns-then-ticket-number c =
    let past = past_of c.args.self.now.entries in
    let q = c.args.queue.0 in let t = c.args.ticket in let x = c.args.queueing in
    let on_q = eq-eqb x.place.queue.0 q c.if-queueing-queue.true in
    let next : t.number ≡ length past = c.if-ticket-number.true ∙ c.number.ensures in
    rw (none_served_yet past q t.number (omega (arith, next)), on_q)
    (eq-eqb t.number c.number.result c.if-ticket-number.true)

pub returns-else-ticket-number : goal.returns-else-ticket-number
returns-else-ticket-number c = let b = c.self.inside in
    let s = layout_of b.counts b.queues.items in let past = past_of b.entries in
    let q = c.args.queue.0 in let t = c.args.ticket in let x = c.args.queueing in let k = book_in b.books.books q in
    let here = rw (← c.self.view_is) at c.requires.queue in
    let opened = rw (← c.self.view_is) at c.requires.open in
    let later = rw (← c.self.view_is) at c.number.ensures in
    let is = c.self.invariant.parts_are.books.each q here in
    let on_q = eq-eqb x.place.queue.0 q c.if-queueing-queue.true in
    let unended =
    ⊎_elim (λ stands. stands) (λ next. absurd (c.if-ticket-number.false (next ∙ sym later)))
    (rw (← c.self.view_is) at c.requires.unended) in
    let stands = unended_flushes_stand s past q k t is unended c.requires.flush in
    let within = is_within (serving_from past q t.number) x.number in
    let same : is_waited_for k t.number x.number ≡ within =
    ⊎_elim (λ open_x. flushes_wait_within s past q k t.number x is stands open_x on_q)
    (λ next. ap (is_waited_for k t.number) next
    ∙ (flushes_wait_for_next s past q k t.number is stands ∙ ap (is_within (serving_from past q t.number)) (sym next)))
    opened in
    rw (← c.self.view_is) (c.is_waited_for.ensures ∙ (same ∙ ap (λ is_of. is_of && within) (sym on_q)))
