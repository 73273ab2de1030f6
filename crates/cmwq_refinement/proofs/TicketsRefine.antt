-- The tickets of callers, entry by entry: they are those of the longer history, each call may be made, and what they
-- answer.
use Rattle.cmwq_refinement.specs.Common.{◌≡◌, ◌<◌, ◌≤◌, ℕ, true, List, [], ◌∷◌, length, filter, find, Option, Some}
use Rattle.cmwq_refinement.specs.Common.{None, is_some, option_to_list, nat_le, refl, sym, ap, ◌∙◌, arith, list_all}
use Rattle.cmwq_refinement.specs.Common.{AllByRecursion, eqb-true, eq-eqb, nat_tests, length-map-range_with_len}
use Rattle.cmwq_refinement.specs.Common.{length-filter, Call, Entry, Ticket, Layout, has_numbers, tickets}
use Rattle.cmwq_refinement.specs.Common.{unended_tickets, is_unended, is_held_by, is_crowded, is_ticket, ticket_of}
use Rattle.cmwq_refinement.specs.Common.{is_cancelling, is_draining, is_being_destroyed, is_cancel_sync_of, is_drain_of}
use Rattle.cmwq_refinement.specs.Common.{is_destroy_of, IsLegal, is_kept, ticket_ended, filter_same, unended_go_on}
use Rattle.cmwq_refinement.specs.Common.{is_numbered, comes_before, any_ticket, may_give, new_tickets, count}
use Rattle.cmwq_refinement.proofs.Numbers.{In, all_in, all_kept, fewer_kept, filter_all, filter_in, find_is, in_right}
use Rattle.cmwq_refinement.proofs.Numbers.{number_of_ticket, of_in, option_in, rises_filter, rows_alike, ticket_given}
use Rattle.cmwq_ticket.specs.Counts.{is_counted}
use Rattle.cmwq_ticket.specs.Rows as row
use Rattle.cmwq_ticket.specs.Rows.{is_other_ticket}
use Rattle.cmwq_refinement.specs.Tickets.{the_caller, tickets_held, ticket_rows_of, tickets_in, tickets_of}
use Rattle.cmwq_refinement.specs.Tickets.{tickets_after_end, tickets_after_giving, tickets_after, MayEndTicket}
use Rattle.cmwq_refinement.specs.Tickets.{MayGiveTicket, MayApplyToTickets}
use Rattle.cmwq_refinement.proofs.Settled.{numbers_fit}
use Rattle.cmwq_refinement.proofs.TicketSteps.{ticket_step, ends_one, ends_none, ends_only, ticket_in_is, unended_rise}
use Rattle.cmwq_refinement.proofs.TicketSteps.{unended_below}
use Rattle.cmwq_refinement.proofs.TicketLimits.{callers_there, given_free}
use Rattle.cmwq_refinement.proofs.TicketRows.{row_is, rows_after, rows_ended, rows_any, rows_find, rows_count}

-- ---- the callers are there

unended_there : (s : Layout) (past : List Entry) → IsLegal s past
    → AllByRecursion (λ t. t.caller.0 < s.callers) (unended_tickets past)
unended_there s past legal =
    all_kept (λ t. t.caller.0 < s.callers) (is_unended past) (tickets past) (callers_there s past legal)

given_there : (s : Layout) (past : List Entry) (e : Entry) (t : Ticket) → IsLegal s (e ∷ past)
    → ticket_given past e ≡ Some t → t.caller.0 < s.callers
given_there s past e t legal h =
    of_in (λ u. u.caller.0 < s.callers) (unended_tickets (e ∷ past)) t (unended_there s (e ∷ past) legal)
    (rw (unended_go_on s past e legal)
    (in_right (filter (is_kept e) (unended_tickets past)) (option_to_list (ticket_given past e)) t
    (option_in (ticket_given past e) t h)))

-- ---- the rows go on

after_ended : (s : Layout) (past : List Entry) (e : Entry) → IsLegal s past
    → tickets_after_end (ticket_ended past e) (tickets_of s past)
    ≡ tickets_in s (ticket_rows_of s.callers (filter (is_kept e) (unended_tickets past)))
after_ended s past e legal = elim (ticket_step past e) [
  | ends_none is all ↦ rw (is, filter_all (is_kept e) (unended_tickets past) all) refl
  | ends_one u is here it ↦
      rw (
        is,
        filter_same (is_kept e) (is_other_ticket u.number) (unended_tickets past)
            (all_in (λ t. is_kept e t ≡ is_other_ticket u.number t) (unended_tickets past) (ends_only past e u here it)),
      )
      (ap (tickets_in s)
      (rows_ended s.callers (unended_tickets past) u (unended_rise past) here
      (of_in (λ t. t.caller.0 < s.callers) (unended_tickets past) u (unended_there s past legal) here)))
]

pub tickets_refine : (s : Layout) (past : List Entry) (e : Entry) → IsLegal s (e ∷ past)
    → tickets_after past e (tickets_of s past) ≡ tickets_of s (e ∷ past)
unfolding IsLegal
tickets_refine s past e legal = ap (tickets_after_giving (ticket_given past e)) (after_ended s past e legal.2)
    ∙ rows_after s (filter (is_kept e) (unended_tickets past)) (ticket_given past e)
    (λ t h. given_there s past e t legal h)
    ∙ ap (λ ts. tickets_in s (ticket_rows_of s.callers ts)) (sym (unended_go_on s past e legal))

pub no_tickets_at_first : (s : Layout) → tickets_of s [] ≡ new_tickets s.callers s.items (length s.queues)
unfolding tickets
no_tickets_at_first s = ap (tickets_in s) (rows_alike (tickets_held []) [] s.callers (λ c. refl))

-- ---- each call may be made

-- an unended ticket stands in its caller's row
stands_in_row : (s : Layout) (past : List Entry) (t : Ticket) → IsLegal s past → In t (unended_tickets past)
    → row.ticket_of_caller (tickets_of s past).rows t.caller.0 t.number ≡ Some t
stands_in_row s past t legal here =
    let held = tickets_held (unended_tickets past) t.caller.0 in
    let less = of_in (λ u. u.caller.0 < s.callers) (unended_tickets past) t (unended_there s past legal) here in
    let mine =
    filter_in (is_held_by (the_caller t.caller.0)) (unended_tickets past) t here
    (eq-eqb t.caller.0 t.caller.0 refl) in
    ap (find (is_numbered t.number)) (row_is s.callers (unended_tickets past) t.caller.0 less)
    ∙ find_is number_of_ticket (is_numbered t.number) held t
    (rises_filter number_of_ticket (is_held_by (the_caller t.caller.0)) (unended_tickets past) (unended_rise past))
    mine (eq-eqb t.number t.number refl)
    (all_in (λ u. is_numbered t.number u ≡ true → t.number ≤ u.number) held
    (λ u i h. omega (arith, eqb-true u.number t.number h)))

may_end : (s : Layout) (past : List Entry) (e : Entry) → IsLegal s past
    → MayEndTicket (ticket_ended past e) (tickets_of s past)
may_end s past e legal = elim (ticket_step past e) [
  | ends_none is all ↦ rw is tt
  | ends_one u is here it ↦ rw is (ap is_some (stands_in_row s past u legal here))
]

-- a call that fits a layout has its count
fits_counted : (s : Layout) (c : Call) → has_numbers s c ≡ true → is_counted s.items (length s.queues) c ≡ true
fits_counted s c fits = grind arith

all_before : (t : Ticket) (ts : List Ticket) → AllByRecursion (λ u. u.number < t.number) ts
    → list_all (comes_before t) ts ≡ true
all_before t [] h = refl
all_before t (u ∷ ts) h = grind (arith, nat_tests, all_before t ts)

rows_may_give : (s : Layout) (past : List Entry) (e : Entry) (t : Ticket) → IsLegal s (e ∷ past)
    → ticket_given past e ≡ Some t
    → may_give (tickets_in s (ticket_rows_of s.callers (filter (is_kept e) (unended_tickets past)))) t ≡ true
rows_may_give s past e t legal h =
    let is = ticket_in_is e (length past) t h in
    let kept : List Ticket = filter (is_kept e) (unended_tickets past) in
    let held = is_held_by (the_caller t.caller.0) in
    let there = given_there s past e t legal h in
    let below =
    all_kept (λ u. u.number < length past) held kept
    (all_kept (λ u. u.number < length past) (is_kept e) (unended_tickets past) (unended_below past)) in
    let older = all_before t (tickets_held kept t.caller.0) (rw is.number below) in
    let few : length (tickets_held kept t.caller.0) < 64 =
    omega (
      arith,
      given_free s past e t legal h,
      length-filter held kept,
      fewer_kept held (is_kept e) (unended_tickets past),
    ) in
    let counted = fits_counted s t.call (ap (has_numbers s) is.call ∙ numbers_fit s past e legal) in
    grind (
      arith,
      nat_tests,
      there,
      row_is s.callers kept t.caller.0 there,
      length-map-range_with_len (tickets_held kept) 0 s.callers,
      older,
      few,
      counted,
    )

pub entries_apply_to_tickets : (s : Layout) (past : List Entry) (e : Entry) → IsLegal s (e ∷ past)
    → MayApplyToTickets past e (tickets_of s past)
unfolding IsLegal
entries_apply_to_tickets s past e legal = record {
  ended = may_end s past e legal.2;
  given = rw (after_ended s past e legal.2) (by (ticket_given past e) refl);
}
  where
    by : (o : Option Ticket) → ticket_given past e ≡ o
        → MayGiveTicket o (tickets_in s (ticket_rows_of s.callers (filter (is_kept e) (unended_tickets past))))
    by None h = tt
    by (Some t) h = rows_may_give s past e t legal h

-- ---- what is read

pub rows_for_callers : (s : Layout) (past : List Entry) → length (tickets_of s past).rows ≡ s.callers
rows_for_callers s past = length-map-range_with_len (tickets_held (unended_tickets past)) 0 s.callers

pub crowded_alike : (s : Layout) (past : List Entry) (c : ℕ) → c < s.callers
    → row.is_row_crowded (tickets_of s past).rows c ≡ is_crowded past (the_caller c)
crowded_alike s past c less =
    ap (nat_le 64) (ap length (row_is s.callers (unended_tickets past) c less)
    ∙ length-filter (is_held_by (the_caller c)) (unended_tickets past))

pub tickets_found_alike : (s : Layout) (past : List Entry) (c n : ℕ) → c < s.callers
    → row.ticket_of_caller (tickets_of s past).rows c n ≡ ticket_of past (the_caller c) n
tickets_found_alike s past c n less = ap (find (is_numbered n)) (row_is s.callers (unended_tickets past) c less)
    ∙ find_kept (unended_tickets past)
  where
    find_kept : (ts : List Ticket) → find (is_numbered n) (filter (is_held_by (the_caller c)) ts)
        ≡ find (is_ticket (the_caller c) n) ts
    find_kept [] = refl
    find_kept (t ∷ ts) = grind (arith, find_kept ts)

pub tickets_of_any_caller : (s : Layout) (past : List Entry) (n : ℕ) → IsLegal s past
    → any_ticket (tickets_of s past).rows n ≡ find (is_numbered n) (unended_tickets past)
tickets_of_any_caller s past n legal =
    rows_find s.callers (unended_tickets past) (unended_there s past legal) n (unended_rise past)

pub cancelling_alike : (s : Layout) (past : List Entry) (i : ℕ) → IsLegal s past
    → row.any_cancels (tickets_of s past).rows i ≡ is_cancelling past i
cancelling_alike s past i legal =
    rows_any s.callers (unended_tickets past) (unended_there s past legal) (is_cancel_sync_of i)

pub draining_alike : (s : Layout) (past : List Entry) (q : ℕ) → IsLegal s past
    → row.any_drains (tickets_of s past).rows q ≡ is_draining past q
draining_alike s past q legal = rows_any s.callers (unended_tickets past) (unended_there s past legal) (is_drain_of q)

pub destroyed_alike : (s : Layout) (past : List Entry) (q : ℕ) → IsLegal s past
    → row.any_destroys (tickets_of s past).rows q ≡ is_being_destroyed past q
destroyed_alike s past q legal =
    rows_any s.callers (unended_tickets past) (unended_there s past legal) (is_destroy_of q)

pub all_tickets_are_counted : (s : Layout) (past : List Entry) → IsLegal s past
    → count (tickets_of s past).rows ≡ length (unended_tickets past)
all_tickets_are_counted s past legal = rows_count s.callers (unended_tickets past) (unended_there s past legal)
