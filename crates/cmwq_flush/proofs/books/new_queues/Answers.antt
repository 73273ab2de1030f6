use Rattle.cmwq_flush.specs.Common.{◌≡◌, [], All-push, arith}
use Rattle.std.proofs.lemmas.List.{length_push}
use Rattle.cmwq_flush.specs.declared.flushes.Flushes.{Flushes}
use Rattle.cmwq_flush.specs.FlushBook.{new_book}
use Rattle.cmwq_flush.specs.Queues.{IsQueueRight, book_by}
use Rattle.cmwq_flush.proofs.Queues.{books_at_first}
use Rattle.cmwq_flush.proofs.books.new_queues.Goals as goal

pub loop-index-preserved : goal.loop-index-preserved
loop-index-preserved c =
    let i = c.loop-index.invariant in
    let pushed = c.push_reserved.ensures in
    let longer = length_push c.loop-index.made.items c.in_ok-new.field-0 in
    record {
      size = rw pushed.items (omega arith);
      room = rw pushed.capacity i.room;
      each = λ items. rw pushed.items
          (All-push (λ (f : Flushes). IsQueueRight items [] [] f × (book_by items [] [] f ≡ new_book items))
          c.loop-index.made.items c.in_ok-new.field-0 (i.each items) (c.in_ok-new.ensures items));
    }

pub returns : goal.returns
returns c =
    λ items. books_at_first items c.args.queues c.loop-index.made.items (let size = c.loop-index.invariant.size in
    omega arith) (c.loop-index.invariant.each items)
