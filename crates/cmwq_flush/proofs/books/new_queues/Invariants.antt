use Rattle.cmwq_flush.specs.Common.{◌≡◌, ◌≤◌, ℕ, [], length, All}
use Rattle.std.specs.Prelude.{vec_capacity}
use Rattle.cmwq_flush.specs.FlushBook.{new_book}
use Rattle.cmwq_flush.specs.Queues.{IsQueueRight, book_by}
use Rattle.cmwq_flush.proofs.books.new_queues.Given as goal

abbrev pub invariant-loop-index : goal.invariant-loop-index
invariant-loop-index l = record {
  size : length l.made.items ≡ l.index;
  room : l.queues ≤ vec_capacity l.made;
  each : (items : ℕ) → All (λ f. IsQueueRight items [] [] f × (book_by items [] [] f ≡ new_book items)) l.made.items;
}
