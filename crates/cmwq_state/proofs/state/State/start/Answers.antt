use Rattle.cmwq_model.specs.Prelude.{layout_of}
use Rattle.cmwq_state.proofs.First.{book_made}
use Rattle.cmwq_state.proofs.state.State.start.Goals as goal

pub invariant_of-result : goal.invariant_of-result
invariant_of-result c =
    let s = layout_of c.args.counts c.args.queues.now in
    let items = c.in_ok-of_items in let flushes = c.in_ok-of_flushes in let queues = c.in_ok-of_queues in
    let books = flushes.ensures.books in
    rw (c.new-entries.ensures, queues.ensures.queues)
    (book_made s c.args.room items.of_items.pools flushes.of_flushes.books items.of_items.timers
    items.of_items.serials.items items.of_items.flights flushes.of_flushes.tickets queues.of_queues.gone.items
    queues.of_queues.pwqs queues.of_queues.most.items
    c.requires.inside c.requires.few items.ensures.pools books items.ensures.timers items.ensures.serials
    items.ensures.flights flushes.ensures.tickets queues.ensures.gone queues.ensures.pwqs queues.ensures.most)
