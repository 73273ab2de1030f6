-- What is kept true of the rows and the counts, as tickets come and go.
use Rattle.cmwq_ticket.specs.Common.{◌≡◌, ℕ, ◌+◌, ◌-◌, ◌<◌, ◌≤◌, Bool, true, not, List, [], ◌∷◌, ◌++◌, length, get_or}
use Rattle.cmwq_ticket.specs.Common.{filter, find, count_by, All, AllPairs, IsTrue, Option, Some, None, is_some, refl}
use Rattle.cmwq_ticket.specs.Common.{sym, ap, ◌∙◌, arith, ⊎_elim, replicate, sum_by, zero, suc, mul-zero, nat_lt}
use Rattle.cmwq_ticket.specs.Common.{slice_set, slice_index, list_all, and_parts, ltb-true, cases_lt, nat_tests}
use Rattle.cmwq_ticket.specs.Common.{length-append, length-set, length-replicate, get_or_past, get_or_read_under}
use Rattle.cmwq_ticket.specs.Common.{sum_by-replicate, sum_by-set, sum_by-cons, sum_by-le, Call, Ticket, cancels_sync}
use Rattle.cmwq_ticket.specs.Common.{drains, destroys, is_cancel_sync_of, is_destroy_of, is_drain_of}
use Rattle.std.proofs.lemmas.List.Elements.{All-filter, All-push, All-replicate, All-set}
use Rattle.std.proofs.Common.{subst}
use Rattle.cmwq_ticket.specs.Common.{cases_eq, get_or-set_other, get_or-set_same}
use Rattle.cmwq_ticket.specs.Waits.{AreOfCaller}
use Rattle.cmwq_model.specs.declared.call.Call.TheVariants as call
use Rattle.cmwq_ticket.specs.Counts.{TicketCounts, AreExact, AreSized, HasCount, HaveRoom, is_counted, counts_with}
use Rattle.cmwq_ticket.specs.Counts.{counts_without, no_counts, IsExact}
use Rattle.cmwq_ticket.specs.Rows.{TicketBook, TicketRows, tickets_of_caller, rows_with, rows_without, ticket_of_caller}
use Rattle.cmwq_ticket.specs.Rows.{is_row_crowded, is_numbered, is_other_ticket, comes_before, may_give, count}
use Rattle.cmwq_ticket.specs.Rows.{IsOlderTicket, IsRow}
use Rattle.cmwq_ticket.specs.Upkeep.{AreKept}
use Rattle.cmwq_ticket.proofs.RowSteps.{IsRow-push, IsRow-filter, count_by-other}
use Rattle.cmwq_ticket.proofs.Counting.{given_uncounted, ended_uncounted, given_counted, counted_some, ended_counted}
use Rattle.cmwq_ticket.proofs.Counting.{counts_below}

-- ---- the counts keep their places

set_size : (counts : List ℕ) (k x n : ℕ) → length counts ≡ n → length (slice_set counts k x) ≡ n
set_size counts k x n size = length-set counts k x ∙ size

AreSized-raised : (items queues : ℕ) (c : Call) (a : TicketCounts) → AreSized items queues a
    → AreSized items queues (counts_with c a)
AreSized-raised items queues (call.CancelSync j) a is =
    record { cancels = set_size a.cancels j.0 _ items is.cancels; destroys = is.destroys; drains = is.drains }
AreSized-raised items queues (call.Drain q) a is =
    record { cancels = is.cancels; destroys = is.destroys; drains = set_size a.drains q.0 _ queues is.drains }
AreSized-raised items queues (call.Destroy q) a is =
    record {
      cancels = is.cancels;
      destroys = set_size a.destroys q.0 _ queues is.destroys;
      drains =
          set_size a.drains q.0 _ queues is.drains;
    }
AreSized-raised items queues c a is = is

AreSized-lowered : (items queues : ℕ) (c : Call) (a : TicketCounts) → AreSized items queues a
    → AreSized items queues (counts_without c a)
AreSized-lowered items queues (call.CancelSync j) a is =
    record { cancels = set_size a.cancels j.0 _ items is.cancels; destroys = is.destroys; drains = is.drains }
AreSized-lowered items queues (call.Drain q) a is =
    record { cancels = is.cancels; destroys = is.destroys; drains = set_size a.drains q.0 _ queues is.drains }
AreSized-lowered items queues (call.Destroy q) a is =
    record {
      cancels = is.cancels;
      destroys = set_size a.destroys q.0 _ queues is.destroys;
      drains =
          set_size a.drains q.0 _ queues is.drains;
    }
AreSized-lowered items queues c a is = is

-- ---- a ticket is given

module _ (items queues : ℕ) (a : TicketCounts) (rows : TicketRows) (exact : AreExact a rows)
    (sized : AreSized items queues a) where
  pub AreExact-given : (t : Ticket) (c : Call) → t.call ≡ c → t.caller.0 < length rows
      → is_counted items queues c ≡ true → AreExact (counts_with c a) (rows_with rows t)
  AreExact-given t (call.CancelSync j) is there counted = record {
    cancels =
        given_counted is_cancel_sync_of a.cancels rows exact.cancels t j.0 there (λ i. ap (cancels_sync i) is)
        (let lt = ltb-true j.0 items counted in let size = sized.cancels in omega arith);
    destroys = given_uncounted is_destroy_of a.destroys rows exact.destroys t there (λ i. ap (destroys i) is);
    drains = given_uncounted is_drain_of a.drains rows exact.drains t there (λ i. ap (drains i) is);
  }
  AreExact-given t (call.Drain q) is there counted = record {
    cancels = given_uncounted is_cancel_sync_of a.cancels rows exact.cancels t there (λ i. ap (cancels_sync i) is);
    destroys = given_uncounted is_destroy_of a.destroys rows exact.destroys t there (λ i. ap (destroys i) is);
    drains = given_counted is_drain_of a.drains rows exact.drains t q.0 there (λ i. ap (drains i) is)
        (let lt = ltb-true q.0 queues counted in let size = sized.drains in omega arith);
  }
  AreExact-given t (call.Destroy q) is there counted = record {
    cancels = given_uncounted is_cancel_sync_of a.cancels rows exact.cancels t there (λ i. ap (cancels_sync i) is);
    destroys =
        given_counted is_destroy_of a.destroys rows exact.destroys t q.0 there (λ i. ap (destroys i) is)
        (let lt = ltb-true q.0 queues counted in let size = sized.destroys in omega arith);
    drains = given_counted is_drain_of a.drains rows exact.drains t q.0 there (λ i. ap (drains i) is)
        (let lt = ltb-true q.0 queues counted in let size = sized.drains in omega arith);
  }
  AreExact-given t c is there counted = record {
    cancels = given_uncounted is_cancel_sync_of a.cancels rows exact.cancels t there (λ i. ap (cancels_sync i) is);
    destroys = given_uncounted is_destroy_of a.destroys rows exact.destroys t there (λ i. ap (destroys i) is);
    drains = given_uncounted is_drain_of a.drains rows exact.drains t there (λ i. ap (drains i) is);
  }

pub HaveRoom-few : (a : TicketCounts) (rows : TicketRows) → AreExact a rows → length rows < 256 → All IsRow rows
    → HaveRoom a
HaveRoom-few a rows exact few are = record {
  cancels = counts_below is_cancel_sync_of a.cancels rows exact.cancels few are;
  destroys = counts_below is_destroy_of a.destroys rows exact.destroys few are;
  drains = counts_below is_drain_of a.drains rows exact.drains few are;
}

-- ---- a ticket is ended

module _ (a : TicketCounts) (rows : TicketRows) (exact : AreExact a rows) (c n : ℕ) (t : Ticket)
    (there : c < length rows) (rise : AllPairs IsOlderTicket (tickets_of_caller rows c))
    (found : ticket_of_caller rows c n ≡ Some t) where
  pub HasCount-found : (k : Call) → t.call ≡ k → HasCount k a
  HasCount-found (call.CancelSync j) is =
      counted_some is_cancel_sync_of a.cancels rows exact.cancels c n t j.0 there rise found
      (λ i. ap (cancels_sync i) is)
  HasCount-found (call.Drain q) is =
      counted_some is_drain_of a.drains rows exact.drains c n t q.0 there rise found (λ i. ap (drains i) is)
  HasCount-found (call.Destroy q) is = (
    counted_some is_destroy_of a.destroys rows exact.destroys c n t q.0 there rise found (λ i. ap (destroys i) is),
    counted_some is_drain_of a.drains rows exact.drains c n t q.0 there rise found (λ i. ap (drains i) is),
  )
  HasCount-found k is = tt

  pub AreExact-ended : (k : Call) → t.call ≡ k → AreExact (counts_without k a) (rows_without rows c n)
  AreExact-ended (call.CancelSync j) is = record {
    cancels =
        ended_counted is_cancel_sync_of a.cancels rows exact.cancels c n t j.0 there rise found
        (λ i. ap (cancels_sync i) is);
    destroys =
        ended_uncounted is_destroy_of a.destroys rows exact.destroys c n t there rise found (λ i. ap (destroys i) is);
    drains = ended_uncounted is_drain_of a.drains rows exact.drains c n t there rise found (λ i. ap (drains i) is);
  }
  AreExact-ended (call.Drain q) is = record {
    cancels =
        ended_uncounted is_cancel_sync_of a.cancels rows exact.cancels c n t there rise found
        (λ i. ap (cancels_sync i) is);
    destroys =
        ended_uncounted is_destroy_of a.destroys rows exact.destroys c n t there rise found (λ i. ap (destroys i) is);
    drains = ended_counted is_drain_of a.drains rows exact.drains c n t q.0 there rise found (λ i. ap (drains i) is);
  }
  AreExact-ended (call.Destroy q) is = record {
    cancels =
        ended_uncounted is_cancel_sync_of a.cancels rows exact.cancels c n t there rise found
        (λ i. ap (cancels_sync i) is);
    destroys =
        ended_counted is_destroy_of a.destroys rows exact.destroys c n t q.0 there rise found (λ i. ap (destroys i) is);
    drains = ended_counted is_drain_of a.drains rows exact.drains c n t q.0 there rise found (λ i. ap (drains i) is);
  }
  AreExact-ended k is = record {
    cancels =
        ended_uncounted is_cancel_sync_of a.cancels rows exact.cancels c n t there rise found
        (λ i. ap (cancels_sync i) is);
    destroys =
        ended_uncounted is_destroy_of a.destroys rows exact.destroys c n t there rise found (λ i. ap (destroys i) is);
    drains = ended_uncounted is_drain_of a.drains rows exact.drains c n t there rise found (λ i. ap (drains i) is);
  }

-- ---- all of it

count_given : (rows : TicketRows) (t : Ticket) → t.caller.0 < length rows → count (rows_with rows t) ≡ count rows + 1
count_given rows t there =
    let row = tickets_of_caller rows t.caller.0 in
    let changed = sum_by-set length rows t.caller.0 (row ++ t ∷ []) [] there in
    let more = length-append row (t ∷ []) in
    omega arith

pub count_ended : (rows : TicketRows) (c n : ℕ) (t : Ticket) → c < length rows
    → AllPairs IsOlderTicket (tickets_of_caller rows c) → ticket_of_caller rows c n ≡ Some t
    → count (rows_without rows c n) + 1 ≡ count rows
count_ended rows c n t there rise found =
    let row = tickets_of_caller rows c in
    let rest = filter (is_other_ticket n) row in
    let changed = sum_by-set length rows c rest [] there in
    let IsAny : Ticket → Bool = λ u. true in
    let less = count_by-other IsAny n t row rise found in
    let short = all_count rest in
    let long = all_count row in
    omega arith
  where
    all_count : (xs : List Ticket) → count_by (λ u. true) xs ≡ length xs
    all_count [] = refl
    all_count (x ∷ xs) = let one = sum_by-cons (λ (u : Ticket). 1) x xs in let rest = all_count xs in omega arith

-- a caller that has a ticket is there
caller_there : (rows : TicketRows) (c n : ℕ) → IsTrue (is_some (ticket_of_caller rows c n)) → c < length rows
caller_there rows c n some = ⊎_elim (λ (lt : c < length rows). lt) (λ (past : length rows ≤ c).
    let none : ticket_of_caller rows c n ≡ None = ap (find (is_numbered n)) (get_or_past rows c [] past) in
    let empty = rw none at some in
    cc) (cases_lt c (length rows))

-- the ticket that was found is that of the caller
pub record IsFound (rows : TicketRows) (c n : ℕ) (row : List Ticket) (t : Ticket) : Type 0 where
  pub there : c < length rows
  pub row_is : row ≡ tickets_of_caller rows c
  pub found : ticket_of_caller rows c n ≡ Some t

pub found_in_row : (rows : TicketRows) (c n : ℕ) (place : ℕ) (row : List Ticket) (r : Option Ticket) (t : Ticket)
    → IsTrue (is_some (ticket_of_caller rows c n)) → place ≡ c → row ≡ get_or rows place row
    → r ≡ find (is_numbered n) row → r ≡ Some t → IsFound rows c n row t
found_in_row rows c n place row r t some at is by gives =
    let there = caller_there rows c n some in
    let row_is = get_or_read_under rows c (length rows) row [] (rw at at is) there refl in
    record { there = there; row_is = row_is; found = ap (find (is_numbered n)) (sym row_is) ∙ sym by ∙ gives }

pub few_of_all : (rows : TicketRows) → length rows < 256 → All IsRow rows → count rows < 65535
few_of_all rows few are = let all = sum_by-le length 64 rows (λ j e less. (are j e less).few) in omega arith

-- may_give, part by part
pub record MayBeGiven (b : TicketBook) (t : Ticket) : Type 0 where
  pub there : t.caller.0 < length b.rows
  pub room : length (tickets_of_caller b.rows t.caller.0) < 64
  pub before : list_all (comes_before t) (tickets_of_caller b.rows t.caller.0) ≡ true
  pub counted : is_counted b.items b.queues t.call ≡ true

pub may_give_parts : (b : TicketBook) (t : Ticket) → may_give b t ≡ true → MayBeGiven b t
may_give_parts b t may =
    let rows = b.rows in
    let outer = and_parts _ (is_counted b.items b.queues t.call) may in
    let middle = and_parts _ (list_all (comes_before t) (tickets_of_caller rows t.caller.0)) outer.0 in
    let inner = and_parts (nat_lt t.caller.0 (length rows)) (not (is_row_crowded rows t.caller.0)) middle.0 in
    record {
      there = ltb-true t.caller.0 (length rows) inner.0;
      room = let free = inner.1 in grind (arith, nat_tests);
      before = middle.1;
      counted = outer.1;
    }

-- one row changes, and has its caller's tickets alone
own_set : (rows : TicketRows) (k : ℕ) (row : List Ticket) → k < length rows → AreOfCaller k row
    → ((c : ℕ) → AreOfCaller c (tickets_of_caller rows c)) → (c : ℕ)
    → AreOfCaller c (tickets_of_caller (slice_set rows k row) c)
own_set rows k row there new own c = ⊎_elim
    (λ same. let F : ℕ → Type 0 = λ i. AreOfCaller i (tickets_of_caller (slice_set rows k row) i) in
    let G : List Ticket → Type 0 = λ xs. AreOfCaller k xs in
    subst F (sym same) (subst G (sym (get_or-set_same rows k row [] there)) new))
    (λ differs. let G : List Ticket → Type 0 = λ xs. AreOfCaller c xs in
    subst G (sym (get_or-set_other rows k c row [] differs)) (own c))
    (cases_eq c k)

pub AreKept-given : (items queues : ℕ) (a : TicketCounts) (rows : TicketRows) (len : ℕ) (t : Ticket) (place : ℕ)
    (row : List Ticket) (b : TicketCounts) → AreKept items queues rows a len
    → may_give (record { items = items; queues = queues; rows = rows }) t ≡ true → place ≡ t.caller.0
    → row ≡ tickets_of_caller rows t.caller.0 ++ t ∷ [] → b ≡ counts_with t.call a
    → AreKept items queues (slice_set rows place row) b (len + 1)
AreKept-given items queues a rows len t place row b kept may at is now =
    let parts = may_give_parts (record { items = items; queues = queues; rows = rows }) t may in
    rw (at, is, now) (record {
      few = let same = length-set rows t.caller.0 (tickets_of_caller rows t.caller.0 ++ t ∷ []) in let few = kept.few in
          omega arith;
      in_order =
          All-set IsRow rows t.caller.0 _
          (IsRow-push (tickets_of_caller rows t.caller.0) t parts.before parts.room
          (kept.in_order t.caller.0 [] parts.there)) kept.in_order;
      own = own_set rows t.caller.0 (tickets_of_caller rows t.caller.0 ++ t ∷ []) parts.there
          (All-push (λ (u : Ticket). u.caller.0 ≡ t.caller.0) (tickets_of_caller rows t.caller.0) t
          (kept.own t.caller.0) refl) kept.own;
      sized = AreSized-raised items queues t.call a kept.sized;
      exact = AreExact-given items queues a rows kept.exact kept.sized t t.call refl parts.there parts.counted;
      all = let more = count_given rows t parts.there in let was = kept.all in omega arith;
    })

pub AreKept-ended : (items queues : ℕ) (a : TicketCounts) (rows : TicketRows) (len c n : ℕ) (t : Ticket) (place : ℕ)
    (row : List Ticket) (b : TicketCounts) → AreKept items queues rows a len → c < length rows
    → ticket_of_caller rows c n ≡ Some t → place ≡ c → row ≡ filter (is_other_ticket n) (tickets_of_caller rows c)
    → b ≡ counts_without t.call a → AreKept items queues (slice_set rows place row) b (len - 1)
AreKept-ended items queues a rows len c n t place row b kept there found at is now =
    let rise = (kept.in_order c [] there).rising in
    rw (at, is, now) (record {
      few = let same = length-set rows c (filter (is_other_ticket n) (tickets_of_caller rows c)) in let few =
          kept.few in omega arith;
      in_order =
          All-set IsRow rows c _
          (IsRow-filter (is_other_ticket n) (tickets_of_caller rows c) (kept.in_order c [] there)) kept.in_order;
      own = own_set rows c (filter (is_other_ticket n) (tickets_of_caller rows c)) there
          (All-filter (is_other_ticket n) (λ (u : Ticket). u.caller.0 ≡ c) (tickets_of_caller rows c) (kept.own c))
          kept.own;
      sized = AreSized-lowered items queues t.call a kept.sized;
      exact = AreExact-ended a rows kept.exact c n t there rise found t.call refl;
      all = let less = count_ended rows c n t there rise found in let was = kept.all in omega arith;
    })

-- ---- at first

zero_rows : (f : List Ticket → ℕ) → f [] ≡ 0 → (n : ℕ) → sum_by f (replicate n []) ≡ 0
zero_rows f none n = sum_by-replicate f n [] ∙ (rw none (mul-zero n))

zero_counts : (n i : ℕ) → slice_index (replicate n 0) i ≡ 0
zero_counts zero i = refl
zero_counts (suc n) zero = refl
zero_counts (suc n) (suc i) = zero_counts n i

zero_exact : (p : ℕ → Ticket → Bool) (n callers : ℕ) → IsExact p (replicate n 0) (replicate callers [])
zero_exact p n callers i = zero_counts n i ∙ sym (zero_rows (count_by (p i)) refl callers)

none_at_first : (n c : ℕ) → tickets_of_caller (replicate n []) c ≡ []
none_at_first zero c = refl
none_at_first (suc n) zero = refl
none_at_first (suc n) (suc c) = none_at_first n c

pub AreKept-new : (callers items queues : ℕ) (rows : TicketRows) (a : TicketCounts) → callers < 256
    → rows ≡ replicate callers [] → a ≡ no_counts items queues → AreKept items queues rows a 0
AreKept-new callers items queues rows a few is none = rw (is, none) (record {
  few = let size : length (replicate {A = List Ticket} callers []) ≡ callers = length-replicate callers [] in
      omega arith;
  in_order =
      All-replicate IsRow callers [] (record { rising = λ i j e before less. absurd (omega arith); few = omega arith });
  own = λ c. rw (none_at_first callers c) (λ j d less. absurd (omega arith));
  sized = record {
    cancels = length-replicate {A = ℕ} items 0;
    destroys = length-replicate {A = ℕ} queues 0;
    drains =
        length-replicate {A = ℕ} queues 0;
  };
  exact = record {
    cancels = zero_exact is_cancel_sync_of items callers;
    destroys =
        zero_exact is_destroy_of queues callers;
    drains = zero_exact is_drain_of queues callers;
  };
  all = sym (zero_rows length refl callers);
})
