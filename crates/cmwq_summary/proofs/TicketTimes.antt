-- When the unended tickets were given goes on as tickets come and go.
use Rattle.std.proofs.Common.{◌≡◌, ℕ, zero, suc, ◌<◌, Bool, true, false, cond, not, ◌&&◌, List, [], ◌∷◌, ◌++◌, length}
use Rattle.std.proofs.Common.{map, filter, find, set, replicate, Option, Some, None, is_some, nat_le, nat_lt, refl, sym}
use Rattle.std.proofs.Common.{ap, ap₂, ◌∙◌, subst, arith}
use Rattle.std.proofs.Math.ListN.{get_or-map}
use Rattle.std.proofs.lemmas.List.{map-set, map-append, length-map}
use Rattle.std.proofs.lemmas.Bool.{eqb-true}
use Rattle.std.proofs.lemmas.Bool.Decides.{nat_tests}
use Rattle.std.specs.Prelude.{option_map, slice_get}
use Rattle.std.specs.Option.{option_map_or}
use Rattle.cmwq_model.specs.declared.entry.Entry.{Entry}
use Rattle.cmwq_model.specs.declared.record.Ticket.{Ticket}
use Rattle.cmwq_model.specs.Prelude.{Layout, is_held_by, ticket_in, unended_tickets, IsLegal}
use Rattle.cmwq_lemmas.proofs.Members.{In, of_in, in_filter, option_in, found}
use Rattle.cmwq_ticket.specs.Rows.{TicketBook, TicketRows, is_numbered, is_other_ticket, is_row_crowded}
use Rattle.cmwq_ticket.specs.Rows.{tickets_of_caller, comes_before}
use Rattle.cmwq_ticket.specs.Counts.{is_counted}
use Rattle.std.specs.List.{AllByRecursion, list_all, range_with_len}
use Rattle.cmwq_theory_steps.specs.TicketSteps.{is_ended_by, ticket_ended}
use Rattle.cmwq_theory_steps.proofs.TicketSteps.{one_ticket_ends}
use Rattle.cmwq_refinement.specs.ByNumber.{ticket_given}
use Rattle.cmwq_refinement.specs.Tickets.{the_caller, tickets_held, tickets_of, tickets_after_end, tickets_after_giving}
use Rattle.cmwq_refinement.specs.Tickets.{MayEndTicket, MayGiveTicket}
use Rattle.cmwq_refinement.proofs.TicketRows.{row_is}
use Rattle.cmwq_refinement.proofs.TicketSteps.{ticket_in_is, unended_below}
use Rattle.cmwq_refinement.proofs.TicketsRefine.{entries_apply_to_tickets, no_tickets_at_first, rows_for_callers}
use Rattle.cmwq_refinement.proofs.TicketsRefine.{tickets_refine}
use Rattle.cmwq_summary.specs.declared.span.Span.{Span}
use Rattle.cmwq_summary.specs.declared.givings.Giving.{Giving}
use Rattle.cmwq_summary.specs.declared.span.TheConstants.{NO_TIME}
use Rattle.cmwq_summary.specs.Figures.{caller_number}
use Rattle.cmwq_summary.specs.Spans.{behind, moment, since, stretch}
use Rattle.cmwq_summary.specs.Givings.{GivingRows, HasRoomForGiving, giving_at, giving_of, givings_of, givings_to}
use Rattle.cmwq_summary.specs.Givings.{is_giving, is_other_giving, since_giving, waited_till_end}
use Rattle.cmwq_summary.specs.Givings.{waits_since, with_giving, without_giving}
use Rattle.cmwq_summary.specs.TicketWaits.{ended_wait, oldest_ticket, unended_wait}
use Rattle.cmwq_summary.proofs.Moments.{moment_now, moment_stays}

-- ---- rows of tickets, and of their givings

held_same : (past : List Entry) (e : Entry) (p : Ticket → Bool) (ts : List Ticket)
    → AllByRecursion (λ t. t.number < length past) ts → map (giving_of (e ∷ past)) (filter p ts)
    ≡ map (giving_of past) (filter p ts)
held_same past e p [] h = refl
held_same past e p (t ∷ ts) h =
    by (p t) (ap (giving_at t.number) (moment_stays past e t.number h.0)) (held_same past e p ts h.1)
  where
    by : (b : Bool) → giving_of (e ∷ past) t ≡ giving_of past t → map (giving_of (e ∷ past)) (filter p ts)
        ≡ map (giving_of past) (filter p ts)
        → map (giving_of (e ∷ past)) (cond b (t ∷ filter p ts) (filter p ts))
        ≡ map (giving_of past) (cond b (t ∷ filter p ts) (filter p ts))
    by true same rest = ap₂ (λ (g : Giving) gs. g ∷ gs) same rest
    by false same rest = rest

rows_same : (past : List Entry) (e : Entry) (ts : List Ticket) (cs : List ℕ)
    → AllByRecursion (λ t. t.number < length past) ts → map (map (giving_of (e ∷ past))) (map (tickets_held ts) cs)
    ≡ map (map (giving_of past)) (map (tickets_held ts) cs)
rows_same past e ts [] h = refl
rows_same past e ts (c ∷ cs) h =
    ap₂ (λ (r : List Giving) rs. r ∷ rs) (held_same past e (is_held_by (the_caller c)) ts h) (rows_same past e ts cs h)

module _ (past : List Entry) where
  found_map : (n : ℕ) (ts : List Ticket) → find (is_giving n) (map (giving_of past) ts)
      ≡ option_map (giving_of past) (find (is_numbered n) ts)
  found_map n [] = refl
  found_map n (t ∷ ts) = by (is_numbered n t) (found_map n ts)
    where
      by : (b : Bool) → find (is_giving n) (map (giving_of past) ts)
          ≡ option_map (giving_of past) (find (is_numbered n) ts)
          → cond b (Some (giving_of past t)) (find (is_giving n) (map (giving_of past) ts))
          ≡ option_map (giving_of past) (cond b (Some t) (find (is_numbered n) ts))
      by true rest = refl
      by false rest = rest

  kept_map : (n : ℕ) (ts : List Ticket) → filter (is_other_giving n) (map (giving_of past) ts)
      ≡ map (giving_of past) (filter (is_other_ticket n) ts)
  kept_map n [] = refl
  kept_map n (t ∷ ts) = by (is_other_ticket n t) (kept_map n ts)
    where
      by : (b : Bool) → filter (is_other_giving n) (map (giving_of past) ts)
          ≡ map (giving_of past) (filter (is_other_ticket n) ts)
          → cond b (giving_of past t ∷ filter (is_other_giving n) (map (giving_of past) ts))
          (filter (is_other_giving n) (map (giving_of past) ts))
          ≡ map (giving_of past) (cond b (t ∷ filter (is_other_ticket n) ts) (filter (is_other_ticket n) ts))
      by true rest = ap (λ gs. giving_of past t ∷ gs) rest
      by false rest = rest

  row_map : (rows : TicketRows) (c : ℕ) → givings_to (map (map (giving_of past)) rows) c
      ≡ map (giving_of past) (tickets_of_caller rows c)
  row_map rows c = get_or-map (map (giving_of past)) rows c []

  after_end : (o : Option Ticket) (b : TicketBook) → map (map (giving_of past)) (tickets_after_end o b).rows
      ≡ without_giving (map (map (giving_of past)) b.rows) o
  after_end None b = refl
  after_end (Some t) b =
      map-set (map (giving_of past)) b.rows t.caller.0
      (filter (is_other_ticket t.number) (tickets_of_caller b.rows t.caller.0))
      ∙ ap (set (map (map (giving_of past)) b.rows) t.caller.0)
      (sym (ap (filter (is_other_giving t.number)) (row_map b.rows t.caller.0)
      ∙ kept_map t.number (tickets_of_caller b.rows t.caller.0)))

  after_giving : (o : Option Ticket) (b : TicketBook) (g : Giving) → ((t : Ticket) → o ≡ Some t → giving_of past t ≡ g)
      → map (map (giving_of past)) (tickets_after_giving o b).rows
      ≡ with_giving (map (map (giving_of past)) b.rows) (option_map caller_number o) g
  after_giving None b g is = refl
  after_giving (Some t) b g is =
      map-set (map (giving_of past)) b.rows t.caller.0 (tickets_of_caller b.rows t.caller.0 ++ t ∷ [])
      ∙ ap (set (map (map (giving_of past)) b.rows) t.caller.0)
      (map-append (giving_of past) (tickets_of_caller b.rows t.caller.0) (t ∷ [])
      ∙ ap₂ (λ (gs : List Giving) (x : Giving). gs ++ x ∷ []) (sym (row_map b.rows t.caller.0)) (is t refl))

  first_map : (p : Ticket → Bool) (ts : List Ticket) → slice_get (map (giving_of past) (filter p ts)) 0
      ≡ option_map (giving_of past) (find p ts)
  first_map p [] = refl
  first_map p (t ∷ ts) = by (p t) (first_map p ts)
    where
      by : (b : Bool) → slice_get (map (giving_of past) (filter p ts)) 0 ≡ option_map (giving_of past) (find p ts)
          → slice_get (map (giving_of past) (cond b (t ∷ filter p ts) (filter p ts))) 0
          ≡ option_map (giving_of past) (cond b (Some t) (find p ts))
      by true rest = refl
      by false rest = rest

-- ---- at first, and after an entry

empty_rows : (past : List Entry) (n : ℕ) → map (map (giving_of past)) (replicate n []) ≡ replicate n []
empty_rows past zero = refl
empty_rows past (suc n) = ap (λ (rows : GivingRows). [] ∷ rows) (empty_rows past n)

pub none_given : (s : Layout) → givings_of s [] ≡ replicate s.callers []
none_given s = ap (λ (b : TicketBook). map (map (giving_of [])) b.rows) (no_tickets_at_first s)
    ∙ empty_rows [] s.callers

module _ (s : Layout) (past : List Entry) (e : Entry) (legal : IsLegal s (e ∷ past)) where
  given_now : (t : Ticket) → ticket_in e (length past) ≡ Some t
      → giving_of (e ∷ past) t ≡ giving_at (length past) (behind (e ∷ past))
  given_now t is =
      let number = (ticket_in_is e (length past) t is).number in
      ap (λ n. giving_at n (moment (e ∷ past) n)) number ∙ ap (giving_at (length past)) (moment_now past e)

  pub givings_go_on : with_giving (without_giving (givings_of s past) (ticket_ended past e))
      (option_map caller_number (ticket_in e (length past))) (giving_at (length past) (behind (e ∷ past)))
      ≡ givings_of s (e ∷ past)
  givings_go_on =
      let book = tickets_of s past in
      let same : map (map (giving_of (e ∷ past))) book.rows ≡ givings_of s past =
      rows_same past e (unended_tickets past) (range_with_len 0 s.callers) (unended_below past) in
      sym (ap (λ (b : TicketBook). map (map (giving_of (e ∷ past))) b.rows) (sym (tickets_refine s past e legal))
      ∙ after_giving (e ∷ past) (ticket_given past e) (tickets_after_end (ticket_ended past e) book)
      (giving_at (length past) (behind (e ∷ past))) given_now
      ∙ ap (λ (rs : GivingRows). with_giving rs (option_map caller_number (ticket_in e (length past)))
      (giving_at (length past) (behind (e ∷ past)))) (after_end (e ∷ past) (ticket_ended past e) book
      ∙ ap (λ (rs : GivingRows). without_giving rs (ticket_ended past e)) same))

  -- a caller has room for what it is given
  pub givings_fit : HasRoomForGiving (without_giving (givings_of s past) (ticket_ended past e))
      (option_map caller_number (ticket_in e (length past)))
  givings_fit =
      subst (λ (rs : GivingRows). HasRoomForGiving rs (option_map caller_number (ticket_in e (length past))))
      (after_end past (ticket_ended past e) (tickets_of s past))
      (by (ticket_given past e) (entries_apply_to_tickets s past e legal).given)
    where
      book : TicketBook
      book = tickets_after_end (ticket_ended past e) (tickets_of s past)

      rows : TicketRows
      rows = book.rows

      second : (a b c d : Bool) → (a && not b && c && d) ≡ true → b ≡ false
      second true true c d h = cc
      second false true c d h = cc
      second a false c d h = refl

      by : (o : Option Ticket) → MayGiveTicket o book
          → HasRoomForGiving (map (map (giving_of past)) rows) (option_map caller_number o)
      by None may = tt
      by (Some t) may =
          let row = tickets_of_caller rows t.caller.0 in
          let free : nat_le 64 (length row) ≡ false =
          second (nat_lt t.caller.0 (length rows)) (is_row_crowded rows t.caller.0) (list_all (comes_before t) row)
          (is_counted book.items book.queues t.call) may in
          let few : length row < 64 = grind (arith, nat_tests) in
          let long : length (map (giving_of past) row) ≡ length row = simp length-map in
          subst (λ (gs : List Giving). length gs < 64) (sym (row_map past rows t.caller.0)) (omega arith)

  -- ---- how long the ticket waited that is ended

  ended_below : (t : Ticket) → ticket_ended past e ≡ Some t → t.number < length past
  ended_below t is =
      let here : In t (filter (is_ended_by e) (unended_tickets past)) =
      subst (In t) (sym (one_ticket_ends past e)) (option_in (ticket_ended past e) t is) in
      of_in (λ u. u.number < length past) (unended_tickets past) t (unended_below past)
      (in_filter (is_ended_by e) (unended_tickets past) t here).0

  pub ended_waits_are : waited_till_end (givings_of s past) (ticket_ended past e) (behind (e ∷ past)) ≡ ended_wait past e
  ended_waits_are = by (ticket_ended past e) refl (entries_apply_to_tickets s past e legal).ended
    where
      to : Span
      to = behind (e ∷ past)

      by : (o : Option Ticket) → ticket_ended past e ≡ o → MayEndTicket o (tickets_of s past)
          → waited_till_end (givings_of s past) o to
          ≡ option_map_or (λ (t : Ticket). since (e ∷ past) t.number) o NO_TIME
      by None none may = refl
      by (Some t) ended may =
          ap (λ (gs : List Giving). since_giving (find (is_giving t.number) gs) to)
          (row_map past (tickets_of s past).rows t.caller.0)
          ∙ ap (λ (o : Option Giving). since_giving o to) (found_map past t.number row)
          ∙ one (find (is_numbered t.number) row) refl may
          ∙ ap (λ m. stretch m to) (sym (moment_stays past e t.number (ended_below t ended)))
        where
          row : List Ticket
          row = tickets_of_caller (tickets_of s past).rows t.caller.0

          one : (o : Option Ticket) → find (is_numbered t.number) row ≡ o → is_some o ≡ true
              → since_giving (option_map (giving_of past) o) to ≡ stretch (moment past t.number) to
          one None none some = cc
          one (Some u) is some =
              ap (λ n. stretch (moment past n) to)
              (eqb-true u.number t.number (found (is_numbered t.number) row u is).1)

-- ---- how long the oldest ticket of a caller waits

pub givings_many : (s : Layout) (past : List Entry) → length (givings_of s past) ≡ s.callers
givings_many s past = simp length-map (simp length-map at (rows_for_callers s past))

pub unended_waits_are : (s : Layout) (past : List Entry) (c : ℕ) → c < s.callers
    → waits_since (givings_of s past) c (behind past) ≡ unended_wait past c
unended_waits_are s past c less =
    ap (λ (gs : List Giving). since_giving (slice_get gs 0) (behind past))
    (row_map past (tickets_of s past).rows c
    ∙ ap (map (giving_of past)) (row_is s.callers (unended_tickets past) c less))
    ∙ ap (λ (o : Option Giving). since_giving o (behind past))
    (first_map past (is_held_by (the_caller c)) (unended_tickets past)) ∙ by (oldest_ticket past c)
  where
    by : (o : Option Ticket) → since_giving (option_map (giving_of past) o) (behind past)
        ≡ option_map_or (λ (t : Ticket). since past t.number) o NO_TIME
    by None = refl
    by (Some t) = refl
