-- The callers that are lent, at their places.
use Rattle.std.specs.Prelude.{◌≡◌, ◌≢◌, ◌≤◌, ◌<◌, ◌+◌, ◌-◌, ◌&&◌, ◌||◌, ◌++◌, [], ℕ, Bool, true, false, not, List}
use Rattle.std.specs.Prelude.{length, ◌==◌, ◌∷◌, Contains, Option, Some, None, if◌then◌else◌, count_by, find, nat_lt}
use Rattle.std.specs.Prelude.{option_to_list, slice_index_or, slice_set, is_some, replicate, nat_le}
use Rattle.std.proofs.lemmas.List.{length-replicate, get_or-set_other, get_or-set_same}
use Rattle.std.proofs.lemmas.Bool.{and_parts, eq-eqb, eqb-true, leb-true, ltb-true}
use Rattle.std.proofs.lemmas.Bool.Decides.{nat_tests}
use Rattle.std.proofs.lemmas.Option.{same_Some}
use Rattle.std.proofs.Common.{true≢false, refl, sym, ap, ap₂, ◌∙◌, subst, arith, ⊎_elim, length-set}
use Rattle.cmwq_core.specs.History.{History, is_done_waiting, past_in}
use Rattle.cmwq_core.specs.Plans.{IsPlan}
use Rattle.cmwq_core.specs.declared.plan.Plan.{Plan}
use Rattle.cmwq_dispatch.specs.Asleep.{Asleep}
use Rattle.cmwq_dispatch.specs.Dispatched.{Dispatched, SameButAsleep, is_new, past_now}
use Rattle.cmwq_model.specs.Prelude.{Layout, end_of_ticket, gives_ticket, is_done, is_drain, is_ticket, ticket_of}
use Rattle.cmwq_model.specs.Prelude.{unended_tickets, waiting_for, waits_for}
use Rattle.cmwq_model.specs.Tickets.{tickets}
unfoldable use Rattle.cmwq_model.specs.Prelude.{answer}
use Rattle.cmwq_model.specs.declared.call.Call.{Call}
use Rattle.cmwq_model.specs.declared.call.Call.TheVariants as call
use Rattle.cmwq_model.specs.declared.entry.Entry.{Entry}
use Rattle.cmwq_model.specs.declared.id.CallerId.{CallerId}
use Rattle.cmwq_model.specs.declared.id.Who.TheVariants.{Caller}
use Rattle.cmwq_model.specs.declared.record.Ticket.{Ticket}
use Rattle.cmwq_model.specs.declared.reply.Reply.{Reply}
use Rattle.cmwq_lemmas.proofs.Lists.{count_by-cons}
use Rattle.std.specs.List.{AllByRecursion}
use Rattle.std.specs.Option.{option_or}
use Rattle.std.proofs.lemmas.List.Folds.{find-append}
use Rattle.cmwq_refinement.proofs.TicketSteps.{unended_below}
use Rattle.cmwq_refinement.proofs.Numbers.{In, contained_in, found, in_append, in_contained, in_filter, in_option}
use Rattle.cmwq_board.specs.Boarded.{IsBoard, firing_for, first_place, most_made}
use Rattle.cmwq_board.specs.Lent.{AreLent, EndsTicketOf, GivesBy, HasLeft, MayBecome, RunsWaitOnce, SameTickets}
use Rattle.cmwq_board.specs.Lent.{caller_of, first_lent, given_by, is_of_drain, is_other, ticket_at, unended_drains}
use Rattle.cmwq_board.specs.Lent.{waits_by}
use Rattle.cmwq_board.specs.Steps.{Stays, may_fire}
use Rattle.cmwq_board.specs.declared.lending.Lending.{Lending}
use Rattle.cmwq_board.specs.declared.lending.Lending.TheVariants.{Free, Waits}
use Rattle.cmwq_board.proofs.Once.{free_at, once_new}
use Rattle.cmwq_board.proofs.Tickets.{kept_found, still_found}

-- ---- the ticket that is found

-- it is its caller's
pub own_caller : (past : List Entry) (c : CallerId) (n : ℕ) (t : Ticket) → ticket_of past (Caller c) n ≡ Some t
    → t.caller ≡ c
own_caller past c n t is =
    let passes = (found (is_ticket (Caller c) n) (unended_tickets past) t is).1 in
    ap (λ k. record { 0 = k }) (eqb-true t.caller.0 c.0 (and_parts (t.number == n) (t.caller.0 == c.0) passes).1)

pub own_ticket : (past : List Entry) (c : CallerId) (n : ℕ) (t : Ticket) → ticket_of past (Caller c) n ≡ Some t
    → ticket_of past (Caller t.caller) n ≡ Some t
own_ticket past c n t is = ap (λ k. ticket_of past (Caller k) n) (own_caller past c n t is) ∙ is

-- what its end would be says whether it is ready
done_waiting : (o : Option ℕ) → is_done (waiting_for o) ≡ true → not (is_some o) ≡ true
done_waiting None done = refl
done_waiting (Some n) done = cc

pub done_is_ready : (h : History) (t : Ticket) (p : Plan) → IsPlan h (Caller t.caller) (call.End t.number) p
    → is_done p.mark.entry.reply ≡ true → ticket_of (past_in h) (Caller t.caller) t.number ≡ Some t
    → is_done_waiting (past_in h) t ≡ true
unfolding answer
done_is_ready h t p plan done found =
    done_waiting (waits_for (past_in h) t.number t.call)
    (ap (λ o. is_done (end_of_ticket (past_in h) o)) (sym found)
    ∙ ap (λ (e : Entry). is_done e.reply) (sym plan.mark.is_next) ∙ done)

-- ---- only who sleeps changes

pub same_asleep : (d n : Dispatched) → SameButAsleep d n → n ≡ record d { asleep = n.asleep }
same_asleep d n s = λ i. record {
  history = s.history i;
  closed = s.closed i;
  failed = s.failed i;
  crowded = s.crowded i;
  firing = s.firing i;
  first_lent = s.first_lent i;
  asleep = n.asleep;
}

-- ---- the place of a caller

pub record IsPlaceOf (s : Layout) (lent : List Lending) (c : CallerId) (place : ℕ) : Type 0 where
  pub less : place < length lent
  pub at : c ≡ caller_of s lent place

pub place_is : (s : Layout) (lent : List Lending) (c : CallerId) (place : ℕ) → length lent ≤ s.callers
    → first_place s lent c.0 ≡ Some place → IsPlaceOf s lent c place
place_is s lent c place few is = by (nat_le (first_lent s lent) c.0 && nat_lt c.0 s.callers) refl is
  where
    by : (b : Bool) → (nat_le (first_lent s lent) c.0 && nat_lt c.0 s.callers) ≡ b
        → (if b then Some (c.0 - first_lent s lent) else None) ≡ Some place → IsPlaceOf s lent c place
    by false test found = cc
    by true test found =
        let parts = and_parts (nat_le (first_lent s lent) c.0) (nat_lt c.0 s.callers) test in
        let from = leb-true (first_lent s lent) c.0 parts.0 in
        let below = ltb-true c.0 s.callers parts.1 in
        let same = same_Some (c.0 - first_lent s lent) place found in
        record { less = omega arith; at = ap (λ k. record { 0 = k }) (omega arith) }

pub caller_there : (s : Layout) (lent : List Lending) (place : ℕ) → length lent ≤ s.callers → place < length lent
    → (caller_of s lent place).0 < s.callers
caller_there s lent place few less = omega arith

-- ---- a drain may fire

pub firing_may : (f c : Bool) (n : ℕ) → f ≡ false → n ≡ 1 → (not f && (not c || nat_lt 0 n)) ≡ true
firing_may f false n lives one = rw lives refl
firing_may f true n lives one = rw (lives, one) refl

counts_one : {X : Type 0} (p : X → Bool) (xs : List X) (x : X) → In x xs → p x ≡ true → nat_lt 0 (count_by p xs) ≡ true
counts_one p [] x i passes = absurd i
counts_one p (y ∷ ys) x i passes =
    grind (arith, nat_tests, count_by-cons p y ys, counts_one p ys x)

pub drain_counts : (past : List Entry) (c : CallerId) (n : ℕ) (t : Ticket) → ticket_of past (Caller c) n ≡ Some t
    → is_drain t.call ≡ true → nat_lt 0 (unended_drains past) ≡ true
drain_counts past c n t is drain =
    counts_one is_of_drain (unended_tickets past) t (found (is_ticket (Caller c) n) (unended_tickets past) t is).0 drain

pub drain_may_fire : (d : Dispatched) (c : CallerId) (n : ℕ) (t : Ticket)
    → d.firing ≡ firing_for (unended_drains (past_now d)) → d.failed ≡ false
    → ticket_of (past_now d) (Caller c) n ≡ Some t → is_drain t.call ≡ true → may_fire d ≡ true
drain_may_fire d c n t firing lives is drain =
    firing_may d.failed d.closed d.firing lives
    (firing ∙ ap (λ b. if b then 1 else 0) (drain_counts (past_now d) c n t is drain))

-- ---- how many drains are unended

pub drains_same : (old new : List Entry) → SameTickets old new → unended_drains new ≡ unended_drains old
drains_same old new same = ap (count_by is_of_drain) same

count_append : {X : Type 0} (p : X → Bool) (xs ys : List X) → count_by p (xs ++ ys) ≡ count_by p xs + count_by p ys
count_append p [] ys = let none : count_by p [] ≡ 0 = refl in omega (arith, none)
count_append p (x ∷ xs) ys =
    grind (arith, count_by-cons p x xs, count_by-cons p x (xs ++ ys), count_append p xs ys)

counts_given : (t : Ticket) (d b : Bool) → is_drain t.call ≡ d
    → count_by is_of_drain (option_to_list (if b then Some t else None)) ≡ (if d && b then 1 else 0)
counts_given t true true is = count_by-cons is_of_drain t [] ∙ rw is refl
counts_given t false true is = count_by-cons is_of_drain t [] ∙ rw is refl
counts_given t true false is = refl
counts_given t false false is = refl

pub given_counts : (old new : List Entry) (r : Reply) (t : Ticket) → GivesBy r t old new
    → unended_drains new ≡ unended_drains old + (if is_drain t.call && gives_ticket r then 1 else 0)
given_counts old new r t gives =
    ap (count_by is_of_drain) gives ∙ count_append is_of_drain (unended_tickets old) (given_by r t)
    ∙ ap (λ k. unended_drains old + k) (counts_given t (is_drain t.call) (gives_ticket r) refl)

-- ---- what a wait needs stays where others make entries

pub same_found : (old new : List Entry) (c : CallerId) (n : ℕ) (t : Ticket) → SameTickets old new
    → ticket_of old (Caller c) n ≡ Some t → ticket_of new (Caller c) n ≡ Some t
same_found old new c n t same is = ap (find (is_ticket (Caller c) n)) same ∙ is

pub given_found : (old new : List Entry) (r : Reply) (g : Ticket) (c : CallerId) (n : ℕ) (t : Ticket)
    → GivesBy r g old new → ticket_of old (Caller c) n ≡ Some t → ticket_of new (Caller c) n ≡ Some t
given_found old new r g c n t gives is =
    ap (find (is_ticket (Caller c) n)) gives
    ∙ still_found (is_ticket (Caller c) n) (unended_tickets old) (given_by r g) t is

other_caller : (t u : Ticket) → (u.caller.0 ≡ t.caller.0 → ⊥) → is_other t u ≡ true
other_caller t u far = at (u.caller.0 == t.caller.0) refl
  where
    at : (b : Bool) → (u.caller.0 == t.caller.0) ≡ b → not ((u.number == t.number) && (u.caller.0 == t.caller.0)) ≡ true
    at true same = absurd (far (eqb-true u.caller.0 t.caller.0 same))
    at false differs = grind (arith, differs)

other_number : (t u : Ticket) → (u.number == t.number) ≡ false → is_other t u ≡ true
other_number t u differs = grind (arith, differs)

pub ended_found : (old new : List Entry) (e : Ticket) (c : CallerId) (n : ℕ) (t : Ticket) → EndsTicketOf e old new
    → is_other e t ≡ true → ticket_of old (Caller c) n ≡ Some t → ticket_of new (Caller c) n ≡ Some t
ended_found old new e c n t ends other is =
    ap (find (is_ticket (Caller c) n)) ends
    ∙ kept_found (is_ticket (Caller c) n) (is_other e) (unended_tickets old) t is other

-- ---- what the caller of a place does changes

module _ (s : Layout) (new : List Entry) (lent : List Lending) (place : ℕ) (l : Lending) (few : length lent ≤ s.callers)
    (less : place < length lent)
    (own : (t : Ticket) → ticket_at l ≡ Some t → ticket_of new (Caller (caller_of s lent place)) t.number ≡ Some t)
    (others : (j : ℕ) (t : Ticket) → j < length lent → j ≢ place → ticket_at (slice_index_or lent j Free) ≡ Some t
    → ticket_of new (Caller (caller_of s lent j)) t.number ≡ Some t) where
  long : length (slice_set lent place l) ≡ length lent
  long = length-set lent place l

  caller_same : (j : ℕ) → caller_of s (slice_set lent place l) j ≡ caller_of s lent j
  caller_same j = ap (λ n. record { 0 = s.callers - n + j }) long

  set_held : (j : ℕ) (t : Ticket) → j < length (slice_set lent place l)
      → ticket_at (slice_index_or (slice_set lent place l) j Free) ≡ Some t → (b : Bool) → (j == place) ≡ b
      → ticket_of new (Caller (caller_of s (slice_set lent place l) j)) t.number ≡ Some t
  set_held j t j_less is true same =
      let at : j ≡ place = eqb-true j place same in
      let here : ticket_at l ≡ Some t =
      ap ticket_at (sym (get_or-set_same lent place l Free less))
      ∙ ap (λ k. ticket_at (slice_index_or (slice_set lent place l) k Free)) (sym at) ∙ is in
      ap (λ k. ticket_of new (Caller k) t.number) (caller_same j ∙ ap (caller_of s lent) at) ∙ own t here
  set_held j t j_less is false differs =
      let other : j ≢ place = λ e. true≢false (sym (eq-eqb j place e) ∙ differs) in
      ap (λ k. ticket_of new (Caller k) t.number) (caller_same j)
      ∙ others j t (omega (arith, j_less, long)) other
      (ap ticket_at (sym (get_or-set_other lent place j l Free other)) ∙ is)

  pub lent_set : AreLent s new (slice_set lent place l)
  lent_set = record {
    few = omega (arith, few, long);
    held = λ j t j_less is. set_held j t j_less is (j == place) refl;
  }

-- a ticket is given to the caller of a free place
fresh : (k n : ℕ) (who : _) (ts : List Ticket) → k ≤ n → AllByRecursion (λ (u : Ticket). u.number < k) ts
    → find (is_ticket who n) ts ≡ None
fresh k n who [] later h = refl
fresh k n who (u ∷ us) later h = grind (arith, nat_tests, h.0, fresh k n who us later h.1)

pub given_is_found : (old new : List Entry) (r : Reply) (c : CallerId) (cl : Call) (n : ℕ)
    → GivesBy r (record { caller = c; call = cl; number = n }) old new → length old ≤ n → gives_ticket r ≡ true
    → ticket_of new (Caller c) n ≡ Some (record { caller = c; call = cl; number = n })
given_is_found old new r c cl n gives later given =
    let t : Ticket = record { caller = c; call = cl; number = n } in
    ap (find (is_ticket (Caller c) n)) gives
    ∙ find-append (is_ticket (Caller c) n) (unended_tickets old) (given_by r t)
    ∙ ap (λ o. option_or o (find (is_ticket (Caller c) n) (given_by r t)))
    (fresh (length old) n (Caller c) (unended_tickets old) later (unended_below old))
    ∙ rw given (rw (eq-eqb n n refl, eq-eqb c.0 c.0 refl) refl)

-- ---- the lent callers after a step

-- a ticket of the caller of a place is ended
pub ended_places : (s : Layout) (old new : List Entry) (lent : List Lending) (place : ℕ) (l : Lending) (t : Ticket)
    → AreLent s old lent → place < length lent → t.caller ≡ caller_of s lent place → EndsTicketOf t old new
    → MayBecome t (slice_index_or lent place Free) l → AreLent s new (slice_set lent place l)
ended_places s old new lent place l t are less own ends may =
    lent_set s new lent place l are.few less (stays l may)
    (λ j u j_less other is. ended_found old new t (caller_of s lent j) u.number u ends
    (other_caller t u (far j u j_less other is)) (are.held j u j_less is))
  where
    far : (j : ℕ) (u : Ticket) → j < length lent → j ≢ place → ticket_at (slice_index_or lent j Free) ≡ Some u
        → u.caller.0 ≡ t.caller.0 → ⊥
    far j u j_less other is same =
        let at : (caller_of s lent j).0 ≡ (caller_of s lent place).0 =
        ap (λ (c : CallerId). c.0) (sym (own_caller old (caller_of s lent j) u.number u (are.held j u j_less is)))
        ∙ same ∙ ap (λ (c : CallerId). c.0) own in
        other (omega (arith, at))

    stays : (m : Lending) → MayBecome t (slice_index_or lent place Free) m → (u : Ticket) → ticket_at m ≡ Some u
        → ticket_of new (Caller (caller_of s lent place)) u.number ≡ Some u
    stays Free may u is = cc
    stays (Waits v run slept) may u is =
        let was : ticket_at (slice_index_or lent place Free) ≡ Some u = ap ticket_at may.0 ∙ is in
        let same : v ≡ u = same_Some v u is in
        ended_found old new t (caller_of s lent place) u.number u ends
        (other_number t u (ap (λ (x : Ticket). x.number == t.number) (sym same) ∙ sym (ap (waits_by t) may.0) ∙ may.1))
        (are.held place u less was)

-- a ticket is given to it, by which it waits if it does
pub given_places : (s : Layout) (old new : List Entry) (lent : List Lending) (place : ℕ) (l : Lending) (r : Reply)
    (c : CallerId) (cl : Call) (n : ℕ) → AreLent s old lent → place < length lent → c ≡ caller_of s lent place
    → length old ≤ n → GivesBy r (record { caller = c; call = cl; number = n }) old new
    → ((u : Ticket) → ticket_at l ≡ Some u
    → (gives_ticket r ≡ true) × (record { caller = c; call = cl; number = n } ≡ u))
    → AreLent s new (slice_set lent place l)
given_places s old new lent place l r c cl n are less own later gives has =
    lent_set s new lent place l are.few less
    (λ u is. let its = has u is in
    subst (λ (x : Ticket). ticket_of new (Caller (caller_of s lent place)) x.number ≡ Some x) its.1
    (ap (λ k. ticket_of new (Caller k) n) (sym own) ∙ given_is_found old new r c cl n gives later its.0))
    (λ j u j_less other is. given_found old new r _ (caller_of s lent j) u.number u gives (are.held j u j_less is))

-- its caller waits by an unended ticket again
pub resumed_places : (s : Layout) (old : List Entry) (lent : List Lending) (place : ℕ) (t : Ticket) → AreLent s old lent
    → place < length lent → ticket_of old (Caller (caller_of s lent place)) t.number ≡ Some t
    → AreLent s old (slice_set lent place (Waits t None false))
resumed_places s old lent place t are less held =
    lent_set s old lent place (Waits t None false) are.few less
    (λ u is. subst (λ (x : Ticket). ticket_of old (Caller (caller_of s lent place)) x.number ≡ Some x)
    (same_Some t u is) held)
    (λ j u j_less other is. are.held j u j_less is)

-- nobody waits by it
pub freed_places : (s : Layout) (old : List Entry) (lent : List Lending) (place : ℕ) → AreLent s old lent
    → place < length lent → AreLent s old (slice_set lent place Free)
freed_places s old lent place are less =
    lent_set s old lent place Free are.few less (λ u is. cc) (λ j u j_less other is. are.held j u j_less is)

-- ---- the board after a step

pub board_now : (d n : Dispatched) (keeps kept : ℕ) (lent after : List Lending) → IsBoard d keeps lent
    → n.history.layout ≡ d.history.layout → n.history.room ≡ d.history.room → kept ≡ keeps
    → AreLent d.history.layout (past_now n) after → RunsWaitOnce after
    → n.firing ≡ firing_for (unended_drains (past_now n)) → IsBoard n kept after
board_now d n keeps kept lent after was layout room same are once firing = record {
  room = room ∙ was.room ∙ ap (λ (s : Layout). s.room) (sym layout);
  keeps = subst (λ (s : Layout). most_made s ≤ kept) (sym layout)
      (subst (λ k. most_made d.history.layout ≤ k) (sym same) was.keeps);
  lent = subst (λ (s : Layout). AreLent s (past_now n) after) (sym layout) are;
  once = once;
  firing = firing;
}

-- one that ends and gives no ticket
pub board_same : (d n : Dispatched) (keeps kept : ℕ) (lent : List Lending) → Stays d n
    → SameTickets (past_now d) (past_now n) → kept ≡ keeps → IsBoard d keeps lent → IsBoard n kept lent
board_same d n keeps kept lent stays same is was =
    board_now d n keeps kept lent lent was stays.layout stays.room is
    (record {
      few = was.lent.few;
      held = λ place t less at.
          same_found (past_now d) (past_now n) (caller_of d.history.layout lent place) t.number t same
          (was.lent.held place t less at);
    })
    was.once
    (stays.firing ∙ was.firing ∙ ap (λ ts. firing_for (count_by is_of_drain ts)) (sym same))

-- ---- whether any was left

pub left_same : (s r : Layout) (old new : List Entry) (lent : List Lending) → r ≡ s → SameTickets old new
    → HasLeft r new lent → HasLeft s old lent
left_same s r old new lent layout same h = record {
  place = h.place;
  less = h.less;
  ticket = h.ticket;
  unended = subst (λ ts. Contains ts h.ticket) same h.unended;
  own = h.own ∙ ap (λ (l : Layout). (caller_of l lent h.place).0) layout;
  nobody = h.nobody;
}

-- where the caller of a place does something else
module _ (s r : Layout) (old new : List Entry) (lent : List Lending) (place : ℕ) (l : Lending) (layout : r ≡ s)
    (less : place < length lent) (h : HasLeft r new (slice_set lent place l)) where
  left_long : length (slice_set lent place l) ≡ length lent
  left_long = length-set lent place l

  pub left_own : h.ticket.caller.0 ≡ (caller_of s lent h.place).0
  left_own = h.own ∙ ap₂ (λ (q : Layout) n. q.callers - n + h.place) layout left_long

  here_or : (b : Bool) → (h.place == place) ≡ b → In h.ticket (unended_tickets old)
      → (h.place ≡ place → waits_by h.ticket l ≡ false → waits_by h.ticket (slice_index_or lent place Free) ≡ false)
      → waits_by h.ticket (slice_index_or lent h.place Free) ≡ false
  here_or true same was back =
      let at = eqb-true h.place place same in
      ap (λ k. waits_by h.ticket (slice_index_or lent k Free)) at
      ∙ back at (ap (waits_by h.ticket) (sym (get_or-set_same lent place l Free less))
      ∙ ap (λ k. waits_by h.ticket (slice_index_or (slice_set lent place l) k Free)) (sym at) ∙ h.nobody)
  here_or false differs was back =
      let other : h.place ≢ place = λ e. true≢false (sym (eq-eqb h.place place e) ∙ differs) in
      ap (waits_by h.ticket) (sym (get_or-set_other lent place h.place l Free other)) ∙ h.nobody

  pub left_before : In h.ticket (unended_tickets old)
      → (h.place ≡ place → waits_by h.ticket l ≡ false → waits_by h.ticket (slice_index_or lent place Free) ≡ false)
      → HasLeft s old lent
  left_before was back = record {
    place = h.place;
    less = (let long = left_long in let lt = h.less in omega (arith, long, lt));
    ticket = h.ticket;
    unended = in_contained (unended_tickets old) h.ticket was;
    own = left_own;
    nobody = here_or (h.place == place) refl was back;
  }

  pub left_in : In h.ticket (unended_tickets new)
  left_in = contained_in (unended_tickets new) h.ticket h.unended

-- its caller was free, and the wait goes on by this ticket
pub left_resumed : (s r : Layout) (old : List Entry) (lent : List Lending) (place : ℕ) (l : Lending) → r ≡ s
    → place < length lent → slice_index_or lent place Free ≡ Free → HasLeft r old (slice_set lent place l)
    → HasLeft s old lent
left_resumed s r old lent place l layout less free h =
    left_before s r old old lent place l layout less h (left_in s r old old lent place l layout less h)
    (λ at none. ap (waits_by h.ticket) free)

-- its ticket was ended
pub left_ended : (s r : Layout) (old new : List Entry) (lent : List Lending) (place : ℕ) (l : Lending) (t : Ticket)
    → r ≡ s → place < length lent → t.caller ≡ caller_of s lent place → EndsTicketOf t old new
    → MayBecome t (slice_index_or lent place Free) l → HasLeft r new (slice_set lent place l) → HasLeft s old lent
left_ended s r old new lent place l t layout less own ends may h =
    left_before s r old new lent place l layout less h was.0
    (λ at none. back l (slice_index_or lent place Free) may none (same_owner at))
  where
    was : In h.ticket (unended_tickets old) × (is_other t h.ticket ≡ true)
    was = in_filter (is_other t) (unended_tickets old) h.ticket
        (subst (In h.ticket) ends (left_in s r old new lent place l layout less h))

    same_owner : h.place ≡ place → h.ticket.caller.0 ≡ t.caller.0
    same_owner at =
        left_own s r old new lent place l layout less h ∙ ap (λ k. (caller_of s lent k).0) at
        ∙ ap (λ (c : CallerId). c.0) (sym own)

    -- it has another number, since it has the same caller
    apart : h.ticket.caller.0 ≡ t.caller.0 → (t.number == h.ticket.number) ≡ false
    apart same = at (h.ticket.number == t.number) refl
      where
        at : (b : Bool) → (h.ticket.number == t.number) ≡ b → (t.number == h.ticket.number) ≡ false
        at true is =
            absurd (true≢false (sym was.1
            ∙ ap₂ (λ x y. not (x && y)) is (eq-eqb h.ticket.caller.0 t.caller.0 same)))
        at false is = grind (arith, nat_tests, is)

    back : (after before : Lending) → MayBecome t before after → waits_by h.ticket after ≡ false
        → h.ticket.caller.0 ≡ t.caller.0 → waits_by h.ticket before ≡ false
    back Free Free may none same = refl
    back Free (Waits u run slept) may none same =
        ap (λ n. n == h.ticket.number) (may u refl) ∙ apart same
    back (Waits u run slept) before may none same = ap (waits_by h.ticket) may.0 ∙ none

-- a ticket was given to it, by which it waits
pub left_given : (s r : Layout) (old new : List Entry) (lent : List Lending) (place : ℕ) (l : Lending) (reply : Reply)
    (t : Ticket) → r ≡ s → place < length lent → slice_index_or lent place Free ≡ Free
    → t.caller ≡ caller_of s lent place → GivesBy reply t old new → (gives_ticket reply ≡ true → waits_by t l ≡ true)
    → HasLeft r new (slice_set lent place l) → HasLeft s old lent
left_given s r old new lent place l reply t layout less free own gives waits h =
    ⊎_elim (λ was. left_before s r old new lent place l layout less h was (λ at none. ap (waits_by h.ticket) free))
    (λ is. absurd (given (gives_ticket reply) refl is))
    (in_append (unended_tickets old) (given_by reply t) h.ticket
    (subst (In h.ticket) gives (left_in s r old new lent place l layout less h)))
  where
    given : (b : Bool) → gives_ticket reply ≡ b → In h.ticket (option_to_list (if b then Some t else None)) → ⊥
    given false gave is = is
    given true gave is =
        let same : t ≡ h.ticket = same_Some t h.ticket (in_option (Some t) h.ticket is) in
        let owner : (caller_of s lent h.place).0 ≡ (caller_of s lent place).0 =
        sym (left_own s r old new lent place l layout less h) ∙ ap (λ (u : Ticket). u.caller.0) (sym same)
        ∙ ap (λ (c : CallerId). c.0) own in
        let at : h.place ≡ place = omega (arith, owner) in
        true≢false (sym (waits gave)
        ∙ ap (λ (u : Ticket). waits_by u l) same
        ∙ ap (waits_by h.ticket) (sym (get_or-set_same lent place l Free less))
        ∙ ap (λ k. waits_by h.ticket (slice_index_or (slice_set lent place l) k Free)) (sym at) ∙ h.nobody)

-- ---- a new board

none_unended : unended_tickets [] ≡ []
unfolding tickets
none_unended = refl

pub new_unended : (s : Layout) (asleep : Asleep) → unended_tickets (past_now (is_new s s.room s.callers asleep)) ≡ []
new_unended s asleep = none_unended

free_waits : (l : Lending) (t : Ticket) → l ≡ Free → ticket_at l ≡ Some t → ⊥
free_waits l t free is = let bad : None ≡ Some t = ap ticket_at (sym free) ∙ is in cc

pub new_board : (s : Layout) (asleep : Asleep) (keeps n : ℕ) → most_made s ≤ keeps → n ≤ s.callers
    → IsBoard (is_new s s.room s.callers asleep) keeps (replicate n Free)
new_board s asleep keeps n most few = record {
  room = refl;
  keeps = most;
  lent = record {
    few = subst (λ k. k ≤ s.callers) (sym (length-replicate n Free)) few;
    held = λ place t less is. absurd (free_waits (slice_index_or (replicate n Free) place Free) t (free_at n place) is);
  };
  once = once_new n;
  firing = ap (λ ts. firing_for (count_by is_of_drain ts)) (sym none_unended);
}
