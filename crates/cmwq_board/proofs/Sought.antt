-- What is sought among the tickets that were left.
use Rattle.std.specs.Prelude.{◌≡◌, ◌<◌, ◌≤◌, ◌+◌, ◌-◌, ◌&&◌, ◌==◌, ℕ, Bool, true, false, not, List, length, find}
use Rattle.std.specs.Prelude.{is_some, ◌∷◌, [], Contains, Option, Some, None, drop, option_to_list, slice_get, suc}
use Rattle.std.specs.Prelude.{zero}
use Rattle.std.specs.List.{range_with_len}
use Rattle.std.proofs.Common.{true≢false, refl, sym, ap, ap₂, ◌∙◌, arith, add-one, inl, inr, length-append}
use Rattle.std.proofs.lemmas.List.Sums.{count_by-le-length}
use Rattle.std.proofs.lemmas.Option.{same_Some}
use Rattle.cmwq_model.specs.Tickets.{is_unended, ticket_in, tickets}
use Rattle.cmwq_refinement.proofs.Numbers.{filter_shorter}
use Rattle.std.proofs.lemmas.Bool.{and_parts, eq-eqb, eqb-true}
use Rattle.cmwq_core.specs.History.{is_done_waiting}
use Rattle.cmwq_model.specs.Prelude.{is_held_by, is_ticket, ticket_of, unended_tickets}
use Rattle.cmwq_model.specs.declared.call.Call.{Call}
use Rattle.cmwq_model.specs.declared.entry.Entry.{Entry}
use Rattle.cmwq_model.specs.declared.id.Who.TheVariants.{Caller}
use Rattle.cmwq_model.specs.declared.record.Ticket.{Ticket}
use Rattle.cmwq_lemmas.proofs.Lists.{find_none}
use Rattle.cmwq_refinement.specs.Tickets.{the_caller, tickets_held}
use Rattle.cmwq_refinement.proofs.Numbers.{In, all_in, contained_in, filter_in, find_is, found, in_contained, in_filter}
use Rattle.cmwq_refinement.proofs.Numbers.{in_range, number_of_ticket, of_in, range_below}
use Rattle.cmwq_refinement.proofs.TicketSteps.{unended_rise}
use Rattle.cmwq_board.specs.Boarded.{Boarded, layout_of, past_of_board}
use Rattle.cmwq_board.specs.Left.{is_free, is_sought}
use Rattle.cmwq_board.specs.Lent.{HasLeft, MayBecome, is_of_drain, unended_drains, waits_by}
use Rattle.cmwq_board.specs.Waits.{caller_at, has_sought, lending_at, place_with, places, sought_at}
use Rattle.cmwq_board.specs.declared.left.Sought.{Sought}
use Rattle.cmwq_board.specs.declared.left.Sought.TheVariants.{Any, Ready, For}
use Rattle.cmwq_board.specs.declared.lending.Lending.{Lending}
use Rattle.cmwq_board.specs.declared.lending.Lending.TheVariants.{Free, Waits}

-- ---- an unended ticket is found under its number

pub unended_found : (past : List Entry) (t : Ticket) → In t (unended_tickets past)
    → ticket_of past (Caller t.caller) t.number ≡ Some t
unended_found past t i =
    find_is number_of_ticket (is_ticket (Caller t.caller) t.number) (unended_tickets past) t (unended_rise past) i
    (ap₂ (λ x y. x && y) (eq-eqb t.number t.number refl) (eq-eqb t.caller.0 t.caller.0 refl))
    (all_in (λ u. is_ticket (Caller t.caller) t.number u ≡ true → t.number ≤ u.number) (unended_tickets past)
    (λ u j passes. least u (and_parts (u.number == t.number) (u.caller.0 == t.caller.0) passes).0))
  where
    least : (u : Ticket) → (u.number == t.number) ≡ true → t.number ≤ u.number
    least u same = let e = eqb-true u.number t.number same in omega (arith, e)

-- ---- from one ticket of a caller to the next

pub drop_get : {X : Type 0} (xs : List X) (k : ℕ) (x : X) → slice_get xs k ≡ Some x → drop k xs ≡ x ∷ drop (k + 1) xs
drop_get [] k x is = cc
drop_get (y ∷ ys) zero x is = ap (λ z. z ∷ ys) (same_Some y x is)
drop_get (y ∷ ys) (suc k) x is = rw (add-one (suc k)) (drop_get ys k x is ∙ rw (add-one k) refl)

pub drop_none : {X : Type 0} (xs : List X) (k : ℕ) → slice_get xs k ≡ None → drop k xs ≡ []
drop_none [] zero is = refl
drop_none [] (suc k) is = refl
drop_none (y ∷ ys) zero is = cc
drop_none (y ∷ ys) (suc k) is = drop_none ys k is

pub find_first : {X : Type 0} (p : X → Bool) (xs : List X) (k : ℕ) (x : X) → slice_get xs k ≡ Some x → p x ≡ true
    → find p (drop k xs) ≡ Some x
find_first p xs k x is passes = ap (find p) (drop_get xs k x is) ∙ rw passes refl

pub find_next : {X : Type 0} (p : X → Bool) (xs : List X) (k : ℕ) (x : X) → slice_get xs k ≡ Some x → p x ≡ false
    → find p (drop k xs) ≡ find p (drop (k + 1) xs)
find_next p xs k x is fails = ap (find p) (drop_get xs k x is) ∙ rw fails refl

in_get : {X : Type 0} (xs : List X) (k : ℕ) (x : X) → slice_get xs k ≡ Some x → In x xs
in_get [] k x is = cc
in_get (y ∷ ys) zero x is = inl (same_Some y x is)
in_get (y ∷ ys) (suc k) x is = inr (in_get ys k x is)

pub held_unended : (past : List Entry) (c k : ℕ) (t : Ticket)
    → slice_get (tickets_held (unended_tickets past) c) k ≡ Some t → Contains (unended_tickets past) t
held_unended past c k t is =
    in_contained (unended_tickets past) t
    (in_filter (is_held_by (the_caller c)) (unended_tickets past) t
    (in_get (tickets_held (unended_tickets past) c) k t is)).0

-- a caller has no more tickets than there are entries
tickets_few : (past : List Entry) → length (tickets past) ≤ length past
unfolding tickets
tickets_few [] = omega arith
tickets_few (e ∷ past) =
    let more = length-append (tickets past) (option_to_list (ticket_in e (length past))) in
    let one = option_few (ticket_in e (length past)) in
    let few = tickets_few past in
    omega (arith, more, one, few)
  where
    option_few : {X : Type 0} (o : Option X) → length (option_to_list o) ≤ 1
    option_few None = omega arith
    option_few (Some x) = omega arith

pub unended_few : (past : List Entry) → length (unended_tickets past) ≤ length past
unended_few past =
    let few = tickets_few past in
    let shorter = filter_shorter (is_unended past) (tickets past) in
    omega (arith, few, shorter)

pub held_few : (past : List Entry) (c : ℕ) → length (tickets_held (unended_tickets past) c) ≤ length past
held_few past c =
    let few = unended_few past in
    let shorter = filter_shorter (is_held_by (the_caller c)) (unended_tickets past) in
    omega (arith, few, shorter)

pub drains_few : (past : List Entry) → unended_drains past ≤ length past
drains_few past =
    let few = unended_few past in
    let counted = count_by-le-length is_of_drain (unended_tickets past) in
    omega (arith, few, counted)

-- ---- the first place with what is sought

pub record IsWith (b : Boarded) (sought : Sought) (place : ℕ) : Type 0 where
  pub less : place < length b.lent
  pub has : has_sought b sought place ≡ true

pub is_with : (b : Boarded) (sought : Sought) (place : ℕ) → place_with b sought ≡ Some place → IsWith b sought place
is_with b sought place is =
    let of = found (has_sought b sought) (places b) place is in
    record {
      less = (let lt = of_in (λ i. i < 0 + length b.lent) (places b) place (range_below 0 (length b.lent)) of.0 in
          omega (arith, lt));
      has = of.1;
    }

-- ---- what is sought was left

pub record IsFound (b : Boarded) (sought : Sought) (place : ℕ) (t : Ticket) : Type 0 where
  pub unended : In t (unended_tickets (past_of_board b))
  pub own : t.caller ≡ caller_at b place
  pub is : is_sought (layout_of b) (past_of_board b) (lending_at b place) sought t ≡ true

pub is_found : (b : Boarded) (sought : Sought) (place : ℕ) (t : Ticket) → sought_at b sought place ≡ Some t
    → IsFound b sought place t
is_found b sought place t is =
    let c = (caller_at b place).0 in
    let all = unended_tickets (past_of_board b) in
    let of = found (is_sought (layout_of b) (past_of_board b) (lending_at b place) sought) (tickets_held all c) t is in
    let held = in_filter (is_held_by (the_caller c)) all t of.0 in
    record {
      unended = held.0;
      own = ap (λ n. record { 0 = n }) (eqb-true t.caller.0 c held.1);
      is = of.1;
    }

pub free_is : (l : Lending) → is_free l ≡ true → l ≡ Free
free_is Free is = refl
free_is (Waits t run slept) is = absurd (true≢false (sym is))

not_true : (b : Bool) → not b ≡ true → b ≡ false
not_true true is = absurd (true≢false (sym is))
not_true false is = refl

nobody_waits : (b : Boarded) (place : ℕ) (t : Ticket) (sought : Sought)
    → is_sought (layout_of b) (past_of_board b) (lending_at b place) sought t ≡ true
    → waits_by t (lending_at b place) ≡ false
nobody_waits b place t Any is = not_true _ is
nobody_waits b place t Ready is = not_true _ (and_parts (not (waits_by t (lending_at b place))) _ is).0
nobody_waits b place t (For c) is =
    ap (waits_by t) (free_is (lending_at b place) (and_parts (is_free (lending_at b place)) _
    (and_parts (is_free (lending_at b place) && _) _ is).0).0)

pub sought_left : (b : Boarded) (sought : Sought) (place : ℕ) (t : Ticket) → place < length b.lent
    → sought_at b sought place ≡ Some t → HasLeft (layout_of b) (past_of_board b) b.lent
sought_left b sought place t less is =
    let of = is_found b sought place t is in
    record {
      place = place;
      less = less;
      ticket = t;
      unended = in_contained (unended_tickets (past_of_board b)) t of.unended;
      own = ap (λ (c : _). c.0) of.own;
      nobody = nobody_waits b place t sought of.is;
    }

some_is : {X : Type 0} (o : Option X) → is_some o ≡ true → (x : X) × (o ≡ Some x)
some_is None is = absurd (true≢false (sym is))
some_is (Some x) is = (x, refl)

pub with_left : (b : Boarded) (sought : Sought) (place : ℕ) → place_with b sought ≡ Some place
    → HasLeft (layout_of b) (past_of_board b) b.lent
with_left b sought place is =
    let of = is_with b sought place is in
    let t = some_is (sought_at b sought place) of.has in
    sought_left b sought place t.0 of.less t.1

-- where none was left, nothing is found
pub none_sought : (b : Boarded) (sought : Sought) → (HasLeft (layout_of b) (past_of_board b) b.lent → ⊥)
    → place_with b sought ≡ None
none_sought b sought none = at (place_with b sought) refl
  where
    at : (o : Option ℕ) → place_with b sought ≡ o → o ≡ None
    at None is = refl
    at (Some place) is = absurd (none (with_left b sought place is))

-- and where one was left, it is found
pub left_is_found : (b : Boarded) → HasLeft (layout_of b) (past_of_board b) b.lent → is_some (place_with b Any) ≡ true
left_is_found b h = at (place_with b Any) refl
  where
    c : ℕ
    c = (caller_at b h.place).0

    all : List Ticket
    all = unended_tickets (past_of_board b)

    held : In h.ticket (tickets_held all c)
    held = filter_in (is_held_by (the_caller c)) all h.ticket (contained_in all h.ticket h.unended)
        (eq-eqb h.ticket.caller.0 c h.own)

    none_at : has_sought b Any h.place ≡ false → ⊥
    none_at unfound = by (sought_at b Any h.place) refl unfound
      where
        by : (o : Option Ticket) → sought_at b Any h.place ≡ o → is_some o ≡ false → ⊥
        by (Some t) is fails = true≢false fails
        by None is fails =
            let passes_none =
            of_in (λ u. is_sought (layout_of b) (past_of_board b) (lending_at b h.place) Any u ≡ false)
            (tickets_held all c) h.ticket
            (find_none (is_sought (layout_of b) (past_of_board b) (lending_at b h.place) Any) (tickets_held all c) is)
            held in
            true≢false (ap not (sym h.nobody) ∙ passes_none)

    at : (o : Option ℕ) → place_with b Any ≡ o → is_some o ≡ true
    at (Some place) is = refl
    at None is =
        absurd (none_at (of_in (λ k. has_sought b Any k ≡ false) (places b) h.place
        (find_none (has_sought b Any) (places b) is)
        (in_range 0 (length b.lent) h.place (omega arith) (let lt = h.less in omega (arith, lt)))))

-- ---- what is known of it

pub record IsToEnd (b : Boarded) (place : ℕ) (t : Ticket) : Type 0 where
  pub less : place < length b.lent
  pub own : t.caller ≡ caller_at b place
  pub held : ticket_of (past_of_board b) (Caller t.caller) t.number ≡ Some t
  pub nobody : waits_by t (lending_at b place) ≡ false

pub is_to_end : (b : Boarded) (sought : Sought) (place : ℕ) (t : Ticket) → place_with b sought ≡ Some place
    → sought_at b sought place ≡ Some t → IsToEnd b place t
is_to_end b sought place t first is =
    let of = is_found b sought place t is in
    record {
      less = (is_with b sought place first).less;
      own = of.own;
      held = unended_found (past_of_board b) t of.unended;
      nobody = nobody_waits b place t sought of.is;
    }

pub ready_is_done : (b : Boarded) (place : ℕ) (t : Ticket) → sought_at b Ready place ≡ Some t
    → is_done_waiting (past_of_board b) t ≡ true
ready_is_done b place t is =
    (and_parts (not (waits_by t (lending_at b place))) _ (is_found b Ready place t is).is).1

-- its caller does as before
pub stays_as : (t : Ticket) (l : Lending) → waits_by t l ≡ false → MayBecome t l l
stays_as t Free nobody = λ u is. cc
stays_as t (Waits u run slept) nobody = (refl, nobody)

-- what is sought first is there
pub place_has : (b : Boarded) (sought : Sought) (place : ℕ) → place_with b sought ≡ Some place
    → sought_at b sought place ≡ None → ⊥
place_has b sought place first none =
    true≢false (sym (is_with b sought place first).has ∙ ap (λ (o : Option Ticket). is_some o) none)

-- one that a wait goes on by is of a caller by which nobody waits
pub free_for : (b : Boarded) (place : ℕ) (t : Ticket) (c : Call) → sought_at b (For c) place ≡ Some t
    → lending_at b place ≡ Free
free_for b place t c is =
    let of = (is_found b (For c) place t is).is in
    free_is (lending_at b place) (and_parts (is_free (lending_at b place)) _
    (and_parts (is_free (lending_at b place) && _) _ of).0).0

-- ---- a test of one number after another

pub range_next : (k n : ℕ) → k < n → range_with_len k (n - k) ≡ k ∷ range_with_len (k + 1) (n - (k + 1))
range_next k n less =
    let next : n - k ≡ suc (n - (k + 1)) = omega arith in
    ap (range_with_len k) next

pub find_here : (p : ℕ → Bool) (k n : ℕ) → k < n → p k ≡ true → find p (range_with_len k (n - k)) ≡ Some k
find_here p k n less passes = ap (find p) (range_next k n less) ∙ rw passes refl

pub find_later : (p : ℕ → Bool) (k n : ℕ) → k < n → p k ≡ false
    → find p (range_with_len k (n - k)) ≡ find p (range_with_len (k + 1) (n - (k + 1)))
find_later p k n less fails = ap (find p) (range_next k n less) ∙ rw fails refl
