-- The rows that a list of tickets makes, as tickets come and go, and what is found in them.
use Rattle.cmwq_refinement.specs.Common.{◌≡◌, ◌≢◌, ◌<◌, ℕ, Bool, true, false, ◌&&◌, List, [], ◌∷◌, ◌++◌, length, map}
use Rattle.cmwq_refinement.specs.Common.{filter, find, count_by, Option, Some, None, option_to_list, append-nil, refl}
use Rattle.cmwq_refinement.specs.Common.{sym, ap, ◌∙◌, arith, inl, inr, ⊎_elim, flat_map, range_with_len, list_any}
use Rattle.cmwq_refinement.specs.Common.{AllByRecursion, eqb-true, eq-eqb, ne_eqb, nat_tests, filter-append}
use Rattle.cmwq_refinement.specs.Common.{get_or-map-range_with_len, length-filter, Ticket, is_held_by, find_none}
use Rattle.cmwq_refinement.specs.Common.{filter_twice, filter_same, none_found, TicketRows, tickets_of_caller}
use Rattle.cmwq_refinement.specs.Common.{is_numbered, rows_with, rows_without, Layout, count, sum_by, sum_by-cons}
use Rattle.cmwq_refinement.proofs.Numbers.{In, RisesBy, all_in, any_in, counted_by_number, filter_in, found, in_any}
use Rattle.cmwq_refinement.proofs.Numbers.{in_append, in_filter, in_left, in_range, in_right, list_any-append}
use Rattle.cmwq_refinement.proofs.Numbers.{number_of_ticket, of_in, rises_unique, same_bools}
use Rattle.cmwq_ticket.specs.Rows.{is_other_ticket}
use Rattle.cmwq_refinement.specs.Tickets.{the_caller, tickets_held, ticket_rows_of, tickets_in, tickets_after_giving}
use Rattle.cmwq_refinement.proofs.TimerSteps.{set_row}

pub row_is : (n : ℕ) (ts : List Ticket) (c : ℕ) → c < n → tickets_of_caller (ticket_rows_of n ts) c ≡ tickets_held ts c
row_is n ts c less = get_or-map-range_with_len (tickets_held ts) 0 n c c [] less (omega arith)

-- ---- a ticket is given

rows_given : (n : ℕ) (ts : List Ticket) (t : Ticket) → t.caller.0 < n
    → rows_with (ticket_rows_of n ts) t ≡ ticket_rows_of n (ts ++ t ∷ [])
rows_given n ts t less =
    sym (set_row (tickets_held ts) (tickets_held (ts ++ t ∷ [])) n t.caller.0
    (tickets_of_caller (ticket_rows_of n ts) t.caller.0 ++ t ∷ [])
    (rw (filter-append, eq-eqb t.caller.0 t.caller.0 refl, row_is n ts t.caller.0 less) refl)
    (λ c differs. rw (filter-append, ne_eqb t.caller.0 c (λ same. differs (sym same)), append-nil) refl))

pub rows_after : (s : Layout) (ts : List Ticket) (o : Option Ticket)
    → ((t : Ticket) → o ≡ Some t → t.caller.0 < s.callers)
    → tickets_after_giving o (tickets_in s (ticket_rows_of s.callers ts))
    ≡ tickets_in s (ticket_rows_of s.callers (ts ++ option_to_list o))
rows_after s ts None there = rw append-nil refl
rows_after s ts (Some t) there = ap (tickets_in s) (rows_given s.callers ts t (there t refl))

-- ---- a ticket is ended

filter_swapped : {X : Type 0} (p q : X → Bool) (xs : List X) → filter p (filter q xs) ≡ filter q (filter p xs)
filter_swapped p q [] = refl
filter_swapped p q (x ∷ xs) = grind (arith, filter_swapped p q xs)

pub rows_ended : (n : ℕ) (ts : List Ticket) (u : Ticket) → RisesBy number_of_ticket ts → In u ts → u.caller.0 < n
    → rows_without (ticket_rows_of n ts) u.caller.0 u.number ≡ ticket_rows_of n (filter (is_other_ticket u.number) ts)
rows_ended n ts u rise there less =
    sym (set_row (tickets_held ts) (tickets_held (filter (is_other_ticket u.number) ts)) n u.caller.0
    (filter (is_other_ticket u.number) (tickets_of_caller (ticket_rows_of n ts) u.caller.0))
    (filter_swapped (is_held_by (the_caller u.caller.0)) (is_other_ticket u.number) ts
    ∙ ap (filter (is_other_ticket u.number)) (sym (row_is n ts u.caller.0 less))) others)
  where
    -- a ticket of another caller has another number
    others : (c : ℕ) → c ≢ u.caller.0 → tickets_held (filter (is_other_ticket u.number) ts) c ≡ tickets_held ts c
    others c differs = filter_twice (is_held_by (the_caller c)) (is_other_ticket u.number) ts
        ∙ filter_same (λ t. is_other_ticket u.number t && is_held_by (the_caller c) t) (is_held_by (the_caller c)) ts
        (all_in _ ts (λ t i. grind (arith, nat_tests, rises_unique number_of_ticket ts t u rise i there)))

-- ---- what stands in the rows is what stands in the list

pub rows_in : (ts : List Ticket) (t : Ticket) (cs : List ℕ)
    → In t (flat_map (λ (r : List Ticket). r) (map (tickets_held ts) cs)) → In t ts
rows_in ts t [] i = absurd i
rows_in ts t (c ∷ cs) i =
    ⊎_elim (λ k. (in_filter (is_held_by (the_caller c)) ts t k).0) (λ k. rows_in ts t cs k)
    (in_append (tickets_held ts c) _ t i)

in_rows_of : (ts : List Ticket) (t : Ticket) (cs : List ℕ) → In t ts → In t.caller.0 cs
    → In t (flat_map (λ (r : List Ticket). r) (map (tickets_held ts) cs))
in_rows_of ts t [] i k = absurd k
in_rows_of ts t (c ∷ cs) i k =
    ⊎_elim (λ e.
    in_left (tickets_held ts c) _ t (filter_in (is_held_by (the_caller c)) ts t i (eq-eqb t.caller.0 c (sym e))))
    (λ l. in_right (tickets_held ts c) _ t (in_rows_of ts t cs i l)) k

pub in_rows : (n : ℕ) (ts : List Ticket) (t : Ticket) → In t ts → t.caller.0 < n
    → In t (flat_map (λ (r : List Ticket). r) (ticket_rows_of n ts))
in_rows n ts t i less = in_rows_of ts t (range_with_len 0 n) i (in_range 0 n t.caller.0 (omega arith) (omega arith))

-- one that is the only one to pass is found
only_found : {X : Type 0} (p : X → Bool) (xs : List X) (x : X) → In x xs → p x ≡ true
    → ((y : X) → In y xs → p y ≡ true → y ≡ x) → find p xs ≡ Some x
only_found p [] x i h only = absurd i
only_found {X} p (y ∷ ys) x i h only =
    grind (arith, only_found p ys x, only y (inl refl), λ (z : X) (k : In z ys). only z (inr k))

-- some ticket of some row passes
any_of_rows : (p : Ticket → Bool) (rows : TicketRows)
    → list_any (list_any p) rows ≡ list_any p (flat_map (λ (r : List Ticket). r) rows)
any_of_rows p [] = refl
any_of_rows p (r ∷ rows) =
    grind (arith, any_of_rows p rows, list_any-append p r (flat_map (λ (x : List Ticket). x) rows))

module _ (n : ℕ) (ts : List Ticket) (there : AllByRecursion (λ t. t.caller.0 < n) ts) where
  abbrev all_rows : List Ticket
  all_rows = flat_map (λ (r : List Ticket). r) (ticket_rows_of n ts)

  pub rows_any : (p : Ticket → Bool) → list_any (list_any p) (ticket_rows_of n ts) ≡ list_any p ts
  rows_any p = any_of_rows p (ticket_rows_of n ts) ∙ same_bools (list_any p all_rows) (list_any p ts)
      (λ h. let k = in_any p all_rows h in any_in p ts k.0 (rows_in ts k.0 (range_with_len 0 n) k.1) k.2)
      (λ h. let k = in_any p ts h in
      any_in p all_rows k.0 (in_rows n ts k.0 k.1 (of_in (λ t. t.caller.0 < n) ts k.0 there k.1)) k.2)

  -- a ticket is found by its number in the rows as in the list
  pub rows_find : (m : ℕ) → RisesBy number_of_ticket ts → find (is_numbered m) all_rows ≡ find (is_numbered m) ts
  rows_find m rise = by (find (is_numbered m) ts) refl
    where
      by : (o : Option Ticket) → find (is_numbered m) ts ≡ o → find (is_numbered m) all_rows ≡ o
      by None is = none_found (is_numbered m) all_rows (all_in (λ t. is_numbered m t ≡ false) all_rows
          (λ t i. of_in (λ u. is_numbered m u ≡ false) ts t (find_none (is_numbered m) ts is)
          (rows_in ts t (range_with_len 0 n) i)))
      by (Some t) is =
          let k = found (is_numbered m) ts t is in
          only_found (is_numbered m) all_rows t (in_rows n ts t k.0 (of_in (λ x. x.caller.0 < n) ts t there k.0)) k.1
          (λ y i h. rises_unique number_of_ticket ts y t rise (rows_in ts y (range_with_len 0 n) i) k.0
          (eqb-true y.number m h ∙ sym (eqb-true t.number m k.1)))

-- ---- how many there are

lengths_summed : (ts : List Ticket) (cs : List ℕ)
    → count (map (tickets_held ts) cs) ≡ sum_by (λ c. count_by (is_held_by (the_caller c)) ts) cs
lengths_summed ts [] = refl
lengths_summed ts (c ∷ cs) =
    omega (
      arith,
      lengths_summed ts cs,
      sum_by-cons length (tickets_held ts c) (map (tickets_held ts) cs),
      sum_by-cons (λ d. count_by (is_held_by (the_caller d)) ts) c cs,
      length-filter (is_held_by (the_caller c)) ts,
    )

pub rows_count : (n : ℕ) (ts : List Ticket) → AllByRecursion (λ t. t.caller.0 < n) ts
    → count (ticket_rows_of n ts) ≡ length ts
rows_count n ts there = lengths_summed ts (range_with_len 0 n)
    ∙ counted_by_number (λ (t : Ticket). t.caller.0) n ts there
