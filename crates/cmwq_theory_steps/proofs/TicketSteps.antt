-- The unended tickets after one more entry, and which flushes it serves.
use Rattle.cmwq_theory_steps.specs.Common.{and_parts, ◌≡◌, ◌<◌, ◌≤◌, ◌+◌, ◌==◌, ℕ, Bool, true, false, cond, ◌&&◌, ◌||◌}
use Rattle.cmwq_theory_steps.specs.Common.{not, List, [], ◌∷◌, ◌++◌, length, filter, find, count_by, Option, Some, None}
use Rattle.cmwq_theory_steps.specs.Common.{option_to_list, nat_lt, refl, sym, ap, ap₂, ◌∙◌, subst, arith, if◌then◌else◌}
use Rattle.cmwq_theory_steps.specs.Common.{AllByRecursion, list_any, eq-eqb, nat_tests, filter-append}
use Rattle.cmwq_theory_steps.specs.Common.{sum_by-filter_both, Who, Caller, Call, Reply, Entry, Ticket, Layout}
use Rattle.cmwq_theory_steps.specs.Common.{same_who, ticket_in, tickets, is_end_of, is_done, ends, is_unended}
use Rattle.cmwq_theory_steps.specs.Common.{unended_tickets, is_flush_of, is_held_by, is_ticket, is_older_flush}
use Rattle.cmwq_theory_steps.specs.Common.{serving_from, IsLegal, All_map, All_each, count_by-none, find_none}
use Rattle.cmwq_theory_steps.proofs.Lemmas.{and_false, count_append, count_by-fewer, count_by-same, count_by-wider}
use Rattle.cmwq_theory_steps.proofs.Lemmas.{fewer_kept, filter_all, filter_none, filter_one, filter_same, filter_twice}
use Rattle.cmwq_model.specs.declared.call.Call.TheVariants as call
use Rattle.cmwq_model.specs.declared.reply.Reply.TheVariants as reply
use Rattle.cmwq_theory_steps.specs.Histories.{one}
use Rattle.cmwq_theory_steps.specs.TicketSteps.{passes, is_kept, ticket_asked, ticket_ended, is_ended_by, moves_up}
use Rattle.cmwq_theory_steps.specs.TicketSteps.{is_moving}
use Rattle.cmwq_theory_steps.proofs.Activated.{find_holds}
use Rattle.cmwq_theory_steps.proofs.Given.{IsGiven, tickets_given, unended_given, ticket_is}
use Rattle.cmwq_theory_steps.proofs.Causes.{cause_of}
use Rattle.cmwq_theory_steps.proofs.Reasons.{done_reason}
use Rattle.cmwq_theory_steps.proofs.Options.{count_option}
use Rattle.cmwq_lemmas.proofs.Lists.{of_option}

-- ---- what is given is not ended yet

pub ticket_number : (e : Entry) (n : ℕ) (t : Ticket) → ticket_in e n ≡ Some t → t.number ≡ n
ticket_number e n t h = grind arith

pub is_done_reply : (r : Reply) → is_done r ≡ true → r ≡ reply.Done
is_done_reply r h = grind arith

-- what an entry ends is older than the entry
ends_older : (s : Layout) (past : List Entry) (e : Entry) (t : Ticket) → IsLegal s (e ∷ past) → length past ≤ t.number
    → ends t e ≡ false
ends_older s past e t legal less = grind (arith, older)
  where
    older : is_end_of t.number e.call ≡ true → is_done e.reply ≡ true → t.number < length past
    older end done =
        let r = done_reason s past e.who e.call e.reply (cause_of s past e legal) (is_done_reply e.reply done) in
        let k = ticket_is past e.who r.number r.ticket r.stands in
        let call = r.is_end in
        subst (λ n. n < length past) (k.number ∙ grind (arith, nat_tests)) k.given.older

not_ended_yet : (s : Layout) (past : List Entry) (t : Ticket) → IsLegal s past → length past ≤ t.number
    → list_any (ends t) past ≡ false
unfolding IsLegal
not_ended_yet s [] t legal less = refl
not_ended_yet s (e ∷ past) t legal less =
    ap₂ (λ a b. a || b) (ends_older s past e t legal (omega arith)) (not_ended_yet s past t legal.2 (omega arith))

-- ---- the unended tickets

pub unended_go_on : (s : Layout) (past : List Entry) (e : Entry) → IsLegal s (e ∷ past)
    → unended_tickets (e ∷ past) ≡ filter (is_kept e) (unended_tickets past)
    ++ option_to_list (ticket_in e (length past))
unfolding tickets IsLegal
unended_go_on s past e legal =
    let not_yet : (t : Ticket) → ticket_in e (length past) ≡ Some t → is_unended (e ∷ past) t ≡ true
    = λ t h. let number = ticket_number e (length past) t h in
    ap₂ (λ a b. not (a || b)) (ends_older s past e t legal (omega arith))
    (not_ended_yet s past t legal.2 (omega arith)) in
    filter-append (is_unended (e ∷ past)) (tickets past) (option_to_list (ticket_in e (length past)))
    ∙ ap₂ (λ xs ys. xs ++ ys)
    (filter_same (is_unended (e ∷ past)) (λ t. is_unended past t && is_kept e t) (tickets past)
    (All_each _ (tickets past) (λ t. grind arith))
    ∙ sym (filter_twice (is_kept e) (is_unended past) (tickets past)))
    (filter_all (is_unended (e ∷ past)) (option_to_list (ticket_in e (length past)))
    (of_option _ (ticket_in e (length past)) not_yet))

-- ---- one ticket at most ends

abbrev has_number : ℕ → Ticket → Bool
has_number n t = t.number == n

few_numbered : (past : List Entry) (n : ℕ) → count_by (has_number n) (tickets past) ≤ 1
unfolding tickets
few_numbered [] n = omega arith
few_numbered (e ∷ past) n =
    let none : length past ≤ n → count_by (has_number n) (tickets past) ≡ 0
    = λ young. count_by-none (has_number n) (tickets past)
    (All_map (IsGiven past) (λ t. has_number n t ≡ false) (tickets past) (λ t given. let older = given.older in
    grind (arith, nat_tests)) (tickets_given past)) in
    let other : n < length past → count_by (has_number n) (option_to_list (ticket_in e (length past))) ≡ 0
    = λ older. count_by-none (has_number n) _
    (of_option _ (ticket_in e (length past)) (λ t h. let number = ticket_number e (length past) t h in
    grind (arith, nat_tests))) in
    let sum = count_append (has_number n) (tickets past) (option_to_list (ticket_in e (length past))) in
    grind (arith, few_numbered past n, count_option (has_number n) (ticket_in e (length past)))

few_unended : (past : List Entry) (n : ℕ) → count_by (has_number n) (unended_tickets past) ≤ 1
few_unended past n = omega (arith, fewer_kept (has_number n) (is_unended past) (tickets past), few_numbered past n)

abbrev is_asked : Who → Call → Ticket → Bool
is_asked who c t = same_who who (Caller t.caller) && is_end_of t.number c

asked_is : (past : List Entry) (who : Who) (c : Call) → filter (is_asked who c) (unended_tickets past)
    ≡ option_to_list (ticket_asked past who c)
asked_is past who (call.End n) =
    filter_same (is_asked who (call.End n)) (is_ticket who n) (unended_tickets past)
    (All_each _ (unended_tickets past) (λ t. grind (arith, nat_tests)))
    ∙ filter_one (is_ticket who n) (unended_tickets past)
    (omega (
      arith,
      count_by-wider (is_ticket who n) (has_number n) (unended_tickets past)
          (All_each _ (unended_tickets past) (λ t h. (and_parts (has_number n t) (is_held_by who t) h).0)),
      few_unended past n,
    ))
asked_is past who c =
    filter_none (is_asked who c) (unended_tickets past)
    (All_each _ (unended_tickets past) (λ t. and_false (same_who who (Caller t.caller))))

pub one_ticket_ends : (past : List Entry) (e : Entry) → filter (is_ended_by e) (unended_tickets past)
    ≡ option_to_list (ticket_ended past e)
one_ticket_ends past e = at (is_done e.reply) refl
  where
    at : (b : Bool) → is_done e.reply ≡ b → filter (is_ended_by e) (unended_tickets past)
        ≡ option_to_list (if b then ticket_asked past e.who e.call else None)
    at true h =
        filter_same (is_ended_by e) (is_asked e.who e.call) (unended_tickets past)
        (All_each _ (unended_tickets past) (λ t. grind arith)) ∙ asked_is past e.who e.call
    at false h =
        filter_none (is_ended_by e) (unended_tickets past) (All_each _ (unended_tickets past) (λ t. grind arith))

-- ---- counts of tickets

pub tickets_go_on : (s : Layout) (past : List Entry) (e : Entry) (p : Ticket → Bool) → IsLegal s (e ∷ past)
    → count_by p (unended_tickets (e ∷ past)) + one (passes p (ticket_ended past e))
    ≡ count_by p (unended_tickets past) + one (passes p (ticket_in e (length past)))
tickets_go_on s past e p legal = omega (
  arith,
  count_append p (filter (is_kept e) (unended_tickets past)) (option_to_list (ticket_in e (length past))),
  ap (count_by p) (unended_go_on s past e legal),
  sum_by-filter_both (is_kept e) (is_ended_by e) (λ t. grind arith) (λ t. cond (p t) 1 0) (unended_tickets past),
  ap (count_by p) (one_ticket_ends past e) ∙ count_option p (ticket_ended past e),
  count_option p (ticket_in e (length past)),
)

-- ---- flushes that are served

pub served_stay : (past : List Entry) (e : Entry) (q n b : ℕ) → serving_from past q n ≡ Some b
    → serving_from (e ∷ past) q n ≡ Some b
unfolding serving_from
served_stay past e q n b h = grind arith

-- of the tickets after the entry those older than n are those that were and aren't ended
older_after : (s : Layout) (past : List Entry) (e : Entry) (q n : ℕ) → IsLegal s (e ∷ past) → n ≤ length past
    → count_by (is_older_flush q n) (unended_tickets (e ∷ past)) + one
    (passes (is_older_flush q n) (ticket_ended past e)) ≡ count_by (is_older_flush q n) (unended_tickets past)
older_after s past e q n legal less =
    let young =
    of_option (λ t. is_older_flush q n t ≡ false) (ticket_in e (length past)) (λ t h. let number =
    ticket_number e (length past) t h in grind (arith, nat_tests)) in
    omega (
      arith,
      tickets_go_on s past e (is_older_flush q n) legal,
      count_option (is_older_flush q n) (ticket_in e (length past)),
      count_by-none (is_older_flush q n) _ young,
    )

-- what isn't served though it stands has 15 older ones
overflowed : (past : List Entry) (q n : ℕ) → n < length past → serving_from past q n ≡ None
    → 15 ≤ count_by (is_older_flush q n) (unended_tickets past)
unfolding serving_from
overflowed [] q n less h = absurd (omega arith)
overflowed (e ∷ past) q n less h = grind (arith, nat_tests)

pub overflowed_move_up : (s : Layout) (past : List Entry) (e : Entry) (q n : ℕ) → IsLegal s (e ∷ past) → n < length past
    → serving_from past q n ≡ None
    → serving_from (e ∷ past) q n ≡ (if moves_up past e q n then Some (length past) else None)
unfolding serving_from
overflowed_move_up s past e q n legal less h =
    let sum = older_after s past e q n legal (omega arith) in
    let many = overflowed past q n less h in
    grind (arith, nat_tests)

-- what is still to come isn't served
pub not_served_yet : (past : List Entry) (q n : ℕ) → length past ≤ n → serving_from past q n ≡ None
unfolding serving_from
not_served_yet [] q n less = refl
not_served_yet (e ∷ past) q n less = grind (arith, nat_tests, not_served_yet past q n (omega arith))

pub begun_are_served : (s : Layout) (past : List Entry) (e : Entry) (q : ℕ) (t : Ticket) → IsLegal s (e ∷ past)
    → ticket_in e (length past) ≡ Some t
    → serving_from (e ∷ past) q t.number
    ≡ (if nat_lt (count_by (is_flush_of q) (unended_tickets past)) 15 then Some (length past) else None)
unfolding serving_from
begun_are_served s past e q t legal h =
    let number = ticket_number e (length past) t h in
    let not_yet = not_served_yet past q (length past) (omega arith) in
    let none : ticket_ended past e ≡ None = grind arith in
    let after = older_after s past e q (length past) legal (omega arith) in
    let all =
    count_by-same (is_older_flush q (length past)) (is_flush_of q) (unended_tickets past)
    (All_map (IsGiven past) _ (unended_tickets past) (λ u given. let older = given.older in
    grind (arith, nat_tests)) (unended_given past)) in
    grind (arith, nat_tests)

-- ---- one flush moves up at most

abbrev IsFewer : List Entry → ℕ → Ticket → Type 0
IsFewer past q t = (n : ℕ) → is_flush_of q t ≡ true → t.number < n
    → count_by (is_older_flush q t.number) (unended_tickets past) < count_by (is_older_flush q n) (unended_tickets past)

all_fewer : (past : List Entry) (q : ℕ) → AllByRecursion (IsFewer past q) (unended_tickets past)
all_fewer past q =
    All_map _ (IsFewer past q) (unended_tickets past)
    (λ t fewer n flush less.
    omega (
      arith,
      fewer (is_older_flush q t.number) (is_older_flush q n) (λ u h. grind (arith, nat_tests))
          (grind (arith, nat_tests)) (grind (arith, nat_tests)),
    )) (count_by-fewer (unended_tickets past))

-- what moves up has 15 older ones, so two such are one
moving_same : (past : List Entry) (e : Entry) (q : ℕ) (t u : Ticket) → IsFewer past q t → IsFewer past q u
    → is_moving past e q t ≡ true → is_moving past e q u ≡ true → t.number ≡ u.number
moving_same past e q t u ft fu ht hu =
    let later = ft u.number in
    let earlier = fu t.number in
    grind (arith, nat_tests)

pub one_moves_up : (past : List Entry) (e : Entry) (q : ℕ) → count_by (is_moving past e q) (unended_tickets past) ≤ 1
one_moves_up past e q = at (find (is_moving past e q) (unended_tickets past)) refl
  where
    at : (o : Option Ticket) → find (is_moving past e q) (unended_tickets past) ≡ o
        → count_by (is_moving past e q) (unended_tickets past) ≤ 1
    at None h =
        omega (
          arith,
          count_by-none (is_moving past e q) (unended_tickets past)
              (find_none (is_moving past e q) (unended_tickets past) h),
        )
    at (Some t) h =
        let f = find_holds (IsFewer past q) (is_moving past e q) (unended_tickets past) t (all_fewer past q) h in
        let same : AllByRecursion (λ u. is_moving past e q u ≡ true → has_number t.number u ≡ true)
        (unended_tickets past) =
        All_map (IsFewer past q) _ (unended_tickets past)
        (λ u fu hu. eq-eqb u.number t.number (moving_same past e q u t fu f.holds hu f.passes))
        (all_fewer past q) in
        omega (
          arith,
          count_by-wider (is_moving past e q) (has_number t.number) (unended_tickets past) same,
          few_unended past t.number,
        )
