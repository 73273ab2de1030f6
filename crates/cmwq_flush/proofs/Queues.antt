-- What each call keeps of one queue, and of all.
use Rattle.std.proofs.Common.{ap₂}
use Rattle.cmwq_flush.specs.Common.{◌≡◌, ℕ, ◌+◌, ◌-◌, ◌<◌, ◌≤◌, List, [], ◌∷◌, ◌++◌, length, get_or, set, zero, suc}
use Rattle.cmwq_flush.specs.Common.{replicate, sym, ap, refl, ◌∙◌, arith, ⊎_elim, remove, slice_index, All, AllPairs}
use Rattle.cmwq_flush.specs.Common.{Contains, ◌↔◌, cases_eq, cases_lt, map_push, get_or_default, get_or-set_same}
use Rattle.cmwq_flush.specs.Common.{get_or-set_other, get_or_past, All-head, All-tail, All-cons}
use Rattle.std.specs.List.{sum_by}
use Rattle.std.proofs.lemmas.List.Sums.{sum_by-cons}
use Rattle.std.proofs.lemmas.List.{length-set, length-replicate, get_or-replicate, set-get_or}
use Rattle.cmwq_flush.specs.declared.flushes.Flushes.{Flushes}
use Rattle.cmwq_flush.specs.declared.openings.Row.{Row}
use Rattle.cmwq_flush.specs.Rows.{ComesBefore, number_of_row, row_numbers, rows_at, without_row}
use Rattle.cmwq_flush.specs.Overflow.{tickets_at}
use Rattle.cmwq_flush.specs.FlushBook.{FlushBook, flushes_with_open, flushes_without_open, new_book}
use Rattle.cmwq_flush.specs.Queues.{IsQueueRight, AreQueuesRight, book_by, books_by}
use Rattle.cmwq_flush.specs.FlushBooks.{book_in, overflow_count}
use Rattle.cmwq_flush.proofs.Search.{remove_at}
use Rattle.cmwq_flush.proofs.Counts.{IsTally-push, IsTally-remove}
use Rattle.cmwq_flush.proofs.Rightness.{right_opened, right_ended, numbers_of-without}

module _ (items : ℕ) (rows : List Row) (overflow : List ℕ) (f : Flushes) (is : IsQueueRight items rows overflow f) where
  -- a queueing is opened
  pub queue_opened : (n c : ℕ) → f.next ≤ n → c ≡ get_or f.colours (length f.served.items) 0
      → IsQueueRight items (rows ++ record { number = n; colour = c } ∷ []) overflow
      (record f { next = n + 1; counts = set f.counts c (slice_index f.counts c + 1) })
  queue_opened n c later current = record {
    right = right_opened (book_by items rows overflow f) rows f.colours (record { number = n; colour = c })
        (row_numbers (rows ++ record { number = n; colour = c } ∷ [])) later current is.right;
    tally = IsTally-push rows f.counts (record { number = n; colour = c }) (λ k d lt. let older =
        is.right.orderly.older k d lt in omega arith) low is.tally;
    served_room = is.served_room;
  }
    where
      low : c < 16
      low = let few = is.right.orderly.few in
          rw current
          (is.right.colouring.below (length f.served.items) 0 (let sixteen = is.right.colouring.sixteen in omega arith))

  -- one ends
  pub queue_ended : (n c : ℕ) → Contains rows (record { number = n; colour = c })
      → IsQueueRight items (without_row n rows) overflow
      (record f { counts = set f.counts c (slice_index f.counts c - 1) })
  queue_ended n c found = record {
    right = right_ended (book_by items rows overflow f) rows f.colours n (row_numbers (without_row n rows)) is.right;
    tally = rw (← left)
        (IsTally-remove rows f.counts found.0 (record { number = n; colour = c }) found.1 (sym found.2) is.tally);
    served_room = is.served_room;
  }
    where
      left : remove rows found.0 ≡ without_row n rows
      left = remove_at number_of_row rows n is.tally.rising found.0 (
        found.1,
        λ d. ap number_of_row (get_or_default rows found.0 d (record { number = n; colour = c }) found.1 ∙ found.2),
      )

pub opened_book : (items : ℕ) (rows : List Row) (overflow : List ℕ) (f : Flushes) (n c : ℕ)
    → book_by items (rows ++ record { number = n; colour = c } ∷ []) overflow
    (record f { next = n + 1; counts = set f.counts c (slice_index f.counts c + 1) })
    ≡ flushes_with_open (book_by items rows overflow f) n
opened_book items rows overflow f n c =
    ap (λ (ns : List ℕ). let b : FlushBook = record (book_by items rows overflow f) { next = n + 1; opened = ns } in b)
    (map_push number_of_row rows (record { number = n; colour = c }))

pub ended_book : (items : ℕ) (rows : List Row) (overflow : List ℕ) (f : Flushes) (n c : ℕ)
    → book_by items (without_row n rows) overflow (record f { counts = set f.counts c (slice_index f.counts c - 1) })
    ≡ flushes_without_open (book_by items rows overflow f) n
ended_book items rows overflow f n c =
    ap (λ (ns : List ℕ). let b : FlushBook = record (book_by items rows overflow f) { opened = ns } in b)
    (numbers_of-without n rows)

-- ---- of all queues

pub books-length : (items : ℕ) (rows : List (List Row)) (overflow : List (List ℕ)) (fs : List Flushes)
    → length rows ≡ length fs → length overflow ≡ length fs → length (books_by items rows overflow fs) ≡ length fs
books-length items rows overflow [] e h = refl
books-length items [] overflow (f ∷ fs) e h = absurd (omega arith)
books-length items (r ∷ rows) [] (f ∷ fs) e h = absurd (omega arith)
books-length items (r ∷ rows) (o ∷ overflow) (f ∷ fs) e h =
    ap suc (books-length items rows overflow fs (omega arith) (omega arith))

pub book_at : (items : ℕ) (rows : List (List Row)) (overflow : List (List ℕ)) (fs : List Flushes) (q : ℕ) (d : Flushes)
    → length rows ≡ length fs → length overflow ≡ length fs → q < length fs
    → book_in (books_by items rows overflow fs) q
    ≡ book_by items (rows_at rows q) (tickets_at overflow q) (get_or fs q d)
book_at items rows overflow [] q d e h lt = absurd (omega arith)
book_at items [] overflow (f ∷ fs) q d e h lt = absurd (omega arith)
book_at items (r ∷ rows) [] (f ∷ fs) q d e h lt = absurd (omega arith)
book_at items (r ∷ rows) (o ∷ overflow) (f ∷ fs) zero d e h lt = refl
book_at items (r ∷ rows) (o ∷ overflow) (f ∷ fs) (suc q) d e h lt =
    book_at items rows overflow fs q d (omega arith) (omega arith) (omega arith)

pub books_set : (items : ℕ) (rows : List (List Row)) (overflow : List (List ℕ)) (fs : List Flushes) (q : ℕ)
    (r : List Row) (o : List ℕ) (f : Flushes) → length rows ≡ length fs → length overflow ≡ length fs
    → books_by items (set rows q r) (set overflow q o) (set fs q f)
    ≡ set (books_by items rows overflow fs) q (book_by items r o f)
books_set items rows overflow [] q r o f e h = refl
books_set items [] overflow (g ∷ fs) q r o f e h = absurd (omega arith)
books_set items (s ∷ rows) [] (g ∷ fs) q r o f e h = absurd (omega arith)
books_set items (s ∷ rows) (p ∷ overflow) (g ∷ fs) zero r o f e h = refl
books_set items (s ∷ rows) (p ∷ overflow) (g ∷ fs) (suc q) r o f e h =
    ap (λ bs. book_by items s p g ∷ bs) (books_set items rows overflow fs q r o f (omega arith) (omega arith))

module _ (items : ℕ) (rows : List (List Row)) (overflow : List (List ℕ)) (fs : List Flushes)
    (are : AreQueuesRight items rows overflow fs) where
  pub queues_set : (q : ℕ) (r : List Row) (o : List ℕ) (f : Flushes) → IsQueueRight items r o f
      → AreQueuesRight items (set rows q r) (set overflow q o) (set fs q f)
  queues_set q r o f is = record {
    many = length-set rows q r ∙ are.many ∙ sym (length-set fs q f);
    lists = length-set overflow q o ∙ are.lists ∙ sym (length-set fs q f);
    each = λ p d lt. let inside : p < length fs = let size = length-set fs q f in omega arith in
        let many = are.many in let lists = are.lists in
        ⊎_elim (λ (same : p ≡ q). rw (
          same,
          get_or-set_same rows q r [] (omega arith),
          get_or-set_same overflow q o [] (omega arith),
          get_or-set_same fs q f d (omega arith),
        ) is)
        (λ (differs : p ≡ q → ⊥). rw (
          get_or-set_other rows q p r [] differs,
          get_or-set_other overflow q p o [] differs,
          get_or-set_other fs q p f d differs,
        ) (are.each p d inside)) (cases_eq p q);
  }

-- ---- one of them, as it is read and changed

module _ (items : ℕ) (rows : List (List Row)) (overflow : List (List ℕ)) (fs : List Flushes)
    (are : AreQueuesRight items rows overflow fs) (q i : ℕ) (there : q < length (books_by items rows overflow fs))
    (at : i ≡ q) where
  pub found_inside : i < length fs
  found_inside = let size = books-length items rows overflow fs are.many are.lists in omega arith

  pub overflow_there : q < length overflow
  overflow_there = let inside = found_inside in let lists = are.lists in omega arith

  module _ (v : Flushes) (is_v : v ≡ get_or fs i v) where
    found_at : v ≡ get_or fs q v
    found_at = is_v ∙ ap (λ k. get_or fs k v) at

    pub found_right : IsQueueRight items (rows_at rows q) (tickets_at overflow q) v
    found_right = rw found_at (are.each q v (let inside = found_inside in omega arith))

    pub found_book : book_in (books_by items rows overflow fs) q
        ≡ book_by items (rows_at rows q) (tickets_at overflow q) v
    found_book = book_at items rows overflow fs q v are.many are.lists (let inside = found_inside in omega arith)
        ∙ ap (book_by items (rows_at rows q) (tickets_at overflow q)) (sym found_at)

  -- its flushes change, those in overflow too
  module _ (o : List ℕ) (new : Flushes) where
    pub changed_right : IsQueueRight items (rows_at rows q) o new
        → AreQueuesRight items rows (set overflow q o) (set fs i new)
    changed_right is = let kept = set-get_or rows q [] in
        rw (at, ← kept) (queues_set items rows overflow fs are q (rows_at rows q) o new is)

    pub changed_books : (b : FlushBook) → book_by items (rows_at rows q) o new ≡ b
        → books_by items rows (set overflow q o) (set fs i new) ≡ set (books_by items rows overflow fs) q b
    changed_books b e =
        ap₂ (λ k rs. books_by items rs (set overflow q o) (set fs k new)) at (sym (set-get_or rows q []))
        ∙ books_set items rows overflow fs q (rows_at rows q) o new are.many are.lists
        ∙ ap (set (books_by items rows overflow fs) q) e

  -- what is open changes
  module _ (r : List Row) (new : Flushes) where
    pub both_right : IsQueueRight items r (tickets_at overflow q) new
        → AreQueuesRight items (set rows q r) overflow (set fs i new)
    both_right is = let kept = set-get_or overflow q [] in
        rw (at, ← kept) (queues_set items rows overflow fs are q r (tickets_at overflow q) new is)

    pub both_books : (b : FlushBook) → book_by items r (tickets_at overflow q) new ≡ b
        → books_by items (set rows q r) overflow (set fs i new) ≡ set (books_by items rows overflow fs) q b
    both_books b e = ap₂ (λ k os. books_by items (set rows q r) os (set fs k new)) at (sym (set-get_or overflow q []))
        ∙ books_set items rows overflow fs q r (tickets_at overflow q) new are.many are.lists
        ∙ ap (set (books_by items rows overflow fs) q) e

  pub rows_there : q < length rows
  rows_there = let inside = found_inside in let many = are.many in omega arith

-- ---- what comes after all that were opened

pub next_before : (items n : ℕ) (rows : List (List Row)) (overflow : List (List ℕ)) (fs : List Flushes)
    → length rows ≡ length fs → length overflow ≡ length fs
    → All (λ b. b.next ≤ n) (books_by items rows overflow fs) ↔ All (λ f. f.next ≤ n) fs
next_before items n rows overflow [] e h = ((λ all k d lt. absurd (omega arith)), (λ all k d lt. absurd (omega arith)))
next_before items n [] overflow (f ∷ fs) e h = absurd (omega arith)
next_before items n (r ∷ rows) [] (f ∷ fs) e h = absurd (omega arith)
next_before items n (r ∷ rows) (o ∷ overflow) (f ∷ fs) e h =
    let later = next_before items n rows overflow fs (omega arith) (omega arith) in
    let IsBefore : FlushBook → Type 0 = λ b. b.next ≤ n in
    let IsEarly : Flushes → Type 0 = λ g. g.next ≤ n in (
      (λ all. All-cons IsEarly f fs (All-head IsBefore (book_by items r o f) (books_by items rows overflow fs) all)
          (later.0 (All-tail IsBefore (book_by items r o f) (books_by items rows overflow fs) all))),
      (λ all. All-cons IsBefore (book_by items r o f) (books_by items rows overflow fs) (All-head IsEarly f fs all)
          (later.1 (All-tail IsEarly f fs all))),
    )

pub rows_before : (items n : ℕ) (rows : List (List Row)) (overflow : List (List ℕ)) (fs : List Flushes) (any : Flushes)
    → AreQueuesRight items rows overflow fs → All (λ b. b.next ≤ n) (books_by items rows overflow fs) → (q : ℕ)
    → All (λ r. r.number < n) (rows_at rows q)
rows_before items n rows overflow fs any are before q = λ k d lt. ⊎_elim (λ (inside : q < length rows).
    let many = are.many in
    let older = (are.each q any (omega arith)).right.orderly.older k d lt in
    let early = (next_before items n rows overflow fs are.many are.lists).0 before q any (omega arith) in omega arith)
    (λ (past : length rows ≤ q).
    let none : rows_at rows q ≡ [] = get_or_past rows q [] past in absurd (let size = ap length none in omega arith))
    (cases_lt q (length rows))

-- ---- at first

pub books_at_first : (items n : ℕ) (fs : List Flushes) → n ≡ length fs
    → All (λ f. IsQueueRight items [] [] f × (book_by items [] [] f ≡ new_book items)) fs
    → AreQueuesRight items (replicate n []) (replicate n []) fs
    × (books_by items (replicate n []) (replicate n []) fs ≡ replicate n (new_book items))
books_at_first items n fs size all = (
  record {
    many = length-replicate n [] ∙ size;
    lists = length-replicate n [] ∙ size;
    each = λ q d lt. rw (
      get_or-replicate {A = List Row} n q [] [] (omega arith),
      get_or-replicate {A = List ℕ} n q [] [] (omega arith),
    ) (all q d lt).0;
  },
  same n fs size (λ k d lt. (all k d lt).1),
)
  where
    same : (m : ℕ) (gs : List Flushes) → m ≡ length gs → All (λ f. book_by items [] [] f ≡ new_book items) gs
        → books_by items (replicate m []) (replicate m []) gs ≡ replicate m (new_book items)
    same zero [] e h = refl
    same zero (g ∷ gs) e h = absurd (omega arith)
    same (suc m) [] e h = absurd (omega arith)
    same (suc m) (g ∷ gs) e h =
        ap₂ (λ (b : FlushBook) (bs : List FlushBook). b ∷ bs)
        (All-head (λ f. book_by items [] [] f ≡ new_book items) g gs h)
        (same m gs (omega arith) (All-tail (λ f. book_by items [] [] f ≡ new_book items) g gs h))

-- ---- what is open of a queue

pub opened_of : (items : ℕ) (rows : List (List Row)) (overflow : List (List ℕ)) (fs : List Flushes) (q : ℕ)
    → length rows ≡ length fs → length overflow ≡ length fs → (book_in (books_by items rows overflow fs) q).opened
    ≡ row_numbers (rows_at rows q)
opened_of items [] overflow [] q e h = refl
opened_of items (r ∷ rows) overflow [] q e h = absurd (omega arith)
opened_of items [] overflow (f ∷ fs) q e h = absurd (omega arith)
opened_of items (r ∷ rows) [] (f ∷ fs) q e h = absurd (omega arith)
opened_of items (r ∷ rows) (o ∷ overflow) (f ∷ fs) zero e h = refl
opened_of items (r ∷ rows) (o ∷ overflow) (f ∷ fs) (suc q) e h =
    opened_of items rows overflow fs q (omega arith) (omega arith)

pub rows_rise : (items : ℕ) (rows : List (List Row)) (overflow : List (List ℕ)) (fs : List Flushes)
    → AreQueuesRight items rows overflow fs → (q : ℕ) → AllPairs ComesBefore (rows_at rows q)
rows_rise items rows overflow [] are q = let many = are.many in
    rw (get_or_past rows q [] (omega arith)) (λ i j d before within. absurd (omega arith))
rows_rise items rows overflow (f ∷ fs) are q =
    ⊎_elim (λ (inside : q < length rows). let many = are.many in (are.each q f (omega arith)).tally.rising)
    (λ (past : length rows ≤ q). rw (get_or_past rows q [] past) (λ i j d before within. absurd (omega arith)))
    (cases_lt q (length rows))

pub items_of : (items : ℕ) (rows : List (List Row)) (overflow : List (List ℕ)) (fs : List Flushes) (q : ℕ)
    → length rows ≡ length fs → length overflow ≡ length fs → q < length fs
    → (book_in (books_by items rows overflow fs) q).items ≡ items
items_of items rows overflow [] q e h lt = absurd (omega arith)
items_of items rows overflow (f ∷ fs) q e h lt =
    ap (λ (b : FlushBook). b.items) (book_at items rows overflow (f ∷ fs) q f e h lt)

-- how many flushes are in overflow
pub overflow_counted : (items : ℕ) (rows : List (List Row)) (overflow : List (List ℕ)) (fs : List Flushes)
    → length rows ≡ length fs → length overflow ≡ length fs → overflow_count (books_by items rows overflow fs)
    ≡ sum_by length overflow
overflow_counted items rows [] [] e h = refl
overflow_counted items rows (o ∷ overflow) [] e h = absurd (omega arith)
overflow_counted items [] overflow (f ∷ fs) e h = absurd (omega arith)
overflow_counted items (r ∷ rows) [] (f ∷ fs) e h = absurd (omega arith)
overflow_counted items (r ∷ rows) (o ∷ overflow) (f ∷ fs) e h =
    sum_by-cons (λ (b : FlushBook). length b.overflow) (book_by items r o f) (books_by items rows overflow fs)
    ∙ ap (λ n. length o + n) (overflow_counted items rows overflow fs (omega arith) (omega arith))
    ∙ sym (sum_by-cons length o overflow)
