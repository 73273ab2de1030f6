-- What is kept of queues, and a copy of it.
use Rattle.std.proofs.Common.{ap₂}
use Rattle.cmwq_flush.specs.Common.{◌≡◌, ℕ, ◌<◌, List, [], ◌∷◌, ◌++◌, length, get_or, suc, take, refl, ◌∙◌}
use Rattle.cmwq_flush.specs.Common.{arith, sym}
use Rattle.std.proofs.Common.{drop}
use Rattle.std.proofs.Math.Seq.{take-append_seam}
use Rattle.std.proofs.lemmas.List.FromFn.{length-map-range_with_len}
use Rattle.cmwq_flush.specs.declared.flushes.Flushes.{Flushes}
use Rattle.cmwq_flush.specs.declared.openings.Row.{Row}
use Rattle.cmwq_flush.specs.Rows.{rows_at}
use Rattle.cmwq_flush.specs.Openings.{numbers_of_nodes, opened_by}
use Rattle.cmwq_flush.specs.Overflow.{tickets_at}
use Rattle.cmwq_flush.specs.FlushBook.{FlushBook}
use Rattle.cmwq_flush.specs.Colouring.{book_of}
use Rattle.cmwq_flush.specs.Queues.{AreKeptAs, AreQueuesRight, HaveFewServed, HaveServedRoom, IsKeptAs, IsQueueRight}
use Rattle.cmwq_flush.specs.Queues.{book_by, books_by}

pub opened-length : (lists : List (List ℕ)) (rows : List Row) (items : ℕ) → length (opened_by lists rows items) ≡ items
opened-length lists rows items = length-map-range_with_len (numbers_of_nodes lists rows) 0 items

-- what is written back of a whole table
pub written_whole : (n : ℕ) (new old : List Flushes) → n ≡ length new → take n (new ++ drop (length new) old) ≡ new
written_whole n new old e = rw e (take-append_seam new (drop (length new) old))

book_kept : (items : ℕ) (rows : List Row) (overflow : List ℕ) (f g : Flushes) → IsKeptAs f g
    → book_by items rows overflow f ≡ book_by items rows overflow g
book_kept items rows overflow f g k = ap₂ (λ n served. book_of items n rows served overflow) k.next k.served

pub books_kept : (items : ℕ) (rows : List (List Row)) (overflow : List (List ℕ)) (fs gs : List Flushes)
    → AreKeptAs fs gs → books_by items rows overflow fs ≡ books_by items rows overflow gs
books_kept items rows overflow [] [] k = refl
books_kept items rows overflow [] (g ∷ gs) k = let e = k.0 in absurd (omega arith)
books_kept items rows overflow (f ∷ fs) [] k = let e = k.0 in absurd (omega arith)
books_kept items [] overflow (f ∷ fs) (g ∷ gs) k = refl
books_kept items (r ∷ rows) [] (f ∷ fs) (g ∷ gs) k = refl
books_kept items (r ∷ rows) (o ∷ overflow) (f ∷ fs) (g ∷ gs) k =
    let e = k.0 in
    ap₂ (λ (b : FlushBook) (bs : List FlushBook). b ∷ bs) (book_kept items r o f g (k.1 0 f g (omega arith)))
    (books_kept items rows overflow fs gs (omega arith, λ q d e low. k.1 (suc q) d e (omega arith)))

queue_kept : (items : ℕ) (rows : List Row) (overflow : List ℕ) (f g : Flushes) → IsKeptAs f g
    → IsQueueRight items rows overflow g → IsQueueRight items rows overflow f
queue_kept items rows overflow f g k is = record {
  right = rw (book_kept items rows overflow f g k, k.colours) is.right;
  tally = rw k.counts is.tally;
  served_room = k.served_room;
}

pub queues_kept : (items : ℕ) (rows : List (List Row)) (overflow : List (List ℕ)) (fs gs : List Flushes)
    → AreKeptAs fs gs → AreQueuesRight items rows overflow gs → AreQueuesRight items rows overflow fs
queues_kept items rows overflow fs gs k are = record {
  many = are.many ∙ sym k.0;
  lists = are.lists ∙ sym k.0;
  each = λ q d low. let e = k.0 in
      let there : q < length gs = omega arith in
      queue_kept items (rows_at rows q) (tickets_at overflow q) (get_or fs q d) (get_or gs q d) (k.1 q d d there)
      (are.each q d there);
}

pub few_served : (items : ℕ) (rows : List (List Row)) (overflow : List (List ℕ)) (fs : List Flushes)
    → AreQueuesRight items rows overflow fs → HaveFewServed fs
few_served items rows overflow fs are q d low = (are.each q d low).right.orderly.few

pub served_room : (items : ℕ) (rows : List (List Row)) (overflow : List (List ℕ)) (fs : List Flushes)
    → AreQueuesRight items rows overflow fs → HaveServedRoom fs
served_room items rows overflow fs are q d low = (are.each q d low).served_room
