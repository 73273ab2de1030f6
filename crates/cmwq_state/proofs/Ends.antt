-- What a ticket still waits for, and which booking fires first, read off the parts.
use Rattle.cmwq_state.specs.Common.{◌≡◌, ℕ, ◌<◌, Bool, true, false, List, [], ◌∷◌, find, length, Option, Some, None}
use Rattle.cmwq_state.specs.Common.{refl, sym, ap, ◌∙◌, IsTrue, ◌↔◌, Contains, slice_get, option_map, option_and_then}
use Rattle.cmwq_state.specs.Common.{◌⊎◌, inl, inr, ItemId, Call, Entry, Queueing, Start, Who, Ticket, Layout}
use Rattle.cmwq_state.specs.Common.{unended_tickets, ticket_of, is_ticket, waits_for, item_run, queueing_at, still_open}
use Rattle.cmwq_state.specs.Common.{IsLegal, found, in_contained, runs_are_queueings, found_number, FlushBook}
use Rattle.cmwq_state.specs.Common.{flush_tickets, IsReady, AreFlushes, ready_flushes_wait_for_nothing}
use Rattle.cmwq_state.specs.Common.{flushes_wait_for_least_open, drains_wait_for_least_open, numbers_of}
use Rattle.cmwq_state.specs.Common.{ltb-true, has_numbers, arith, ◌≤◌}
use Rattle.std.proofs.lemmas.Bool.Decides.{nat_tests}
use Rattle.cmwq_model.specs.Prelude.{serving_from}
use Rattle.cmwq_model.specs.declared.id.QueueId.{QueueId}
use Rattle.cmwq_model.specs.declared.call.Call.TheVariants as call
use Rattle.cmwq_state.specs.Flights.{run_open}
use Rattle.cmwq_refinement.proofs.ItemNumberReads.{items_wait_for_least}
use Rattle.cmwq_flush.specs.ItemNumbers.{item_waits_for}
use Rattle.cmwq_state.specs.Common.{AllByRecursion, In, eqb-true, is_some, of_in, ⊎_elim}
use Rattle.cmwq_flush.specs.FlushBook.{served_of}
use Rattle.cmwq_flush.specs.Served.{has_ticket, tickets_of_served}
use Rattle.cmwq_flush.specs.declared.served.Served.{Served}
use Rattle.cmwq_lemmas.proofs.Members.{contained_in, in_append}
use Rattle.cmwq_lemmas.proofs.Lists.{find_none}
use Rattle.cmwq_refinement.specs.FlushBooks.{IsServedFrom}

-- a flush that is ready waits for nothing, and another for the least that is open
pub ready_for_none : (s : Layout) (past : List Entry) (q : QueueId) (b : FlushBook) (t : ℕ) (r : Bool)
    → AreFlushes s past q.0 b → Contains (flush_tickets b) t → IsTrue r ↔ IsReady b t → r ≡ true
    → None ≡ waits_for past t (call.Flush q)
ready_for_none s past q b t r is here test h = sym ((ready_flushes_wait_for_nothing s past q b t is here).0 (test.0 h))

pub waits_for_first : (s : Layout) (past : List Entry) (q : QueueId) (b : FlushBook) (t : ℕ) (r : Bool)
    → AreFlushes s past q.0 b → Contains (flush_tickets b) t → IsTrue r ↔ IsReady b t → r ≡ false
    → slice_get b.opened 0 ≡ waits_for past t (call.Flush q)
waits_for_first s past q b t r is here test h = by (waits_for past t (call.Flush q)) refl
  where
    by : (o : Option ℕ) → waits_for past t (call.Flush q) ≡ o → slice_get b.opened 0 ≡ waits_for past t (call.Flush q)
    by None none = let yes : r ≡ true = test.1 ((ready_flushes_wait_for_nothing s past q b t is here).1 none) in cc
    by (Some n) some = flushes_wait_for_least_open s past q b t n is here some ∙ sym some

-- a flush that has not begun is not served yet
pub none_served_yet : (past : List Entry) (q n : ℕ) → length past ≤ n → serving_from past q n ≡ None
unfolding serving_from
none_served_yet [] q n h = refl
none_served_yet (e ∷ past) q n h = grind (arith, nat_tests, none_served_yet past q n)

-- nothing is found that never passes
pub none_waited : (xs : List Queueing) → None ≡ option_map (λ (x : Queueing). x.number) (find (λ x. false) xs)
none_waited xs = sym (ap (option_map (λ (x : Queueing). x.number)) (no_one xs))
  where
    no_one : (ys : List Queueing) → find (λ x. false) ys ≡ None
    no_one [] = refl
    no_one (y ∷ ys) = no_one ys

pub other_waits : (past : List Entry) (n : ℕ) (c : Call) → ((q : QueueId) → c ≡ call.Flush q → ⊥)
    → ((q : QueueId) → c ≡ call.Drain q → ⊥) → ((i : ItemId) → c ≡ call.FlushItem i → ⊥)
    → ((i : ItemId) → c ≡ call.FlushDelayed i → ⊥) → ((i : ItemId) → c ≡ call.CancelSync i → ⊥)
    → ((q : QueueId) → c ≡ call.Destroy q → ⊥) → None ≡ waits_for past n c
other_waits past n (call.Flush q) a b d e f g = absurd (a q refl)
other_waits past n (call.Drain q) a b d e f g = absurd (b q refl)
other_waits past n (call.FlushItem i) a b d e f g = absurd (d i refl)
other_waits past n (call.FlushDelayed i) a b d e f g = absurd (e i refl)
other_waits past n (call.CancelSync i) a b d e f g = absurd (f i refl)
other_waits past n (call.Destroy q) a b d e f g = absurd (g q refl)
other_waits past n c a b d e f g = none_waited (still_open past)

-- ---- what a cancel_sync waits for

pub run_waits : (s : Layout) (past : List Entry) (i : ItemId) (o : Option Queueing) → IsLegal s past
    → run_open past i.0 ≡ o → option_map (λ (x : Queueing). x.number) o ≡ waits_for past 0 (call.CancelSync i)
run_waits s past i o legal h = ap (option_map (λ (x : Queueing). x.number)) (sym h) ∙ by (item_run past i.0) refl
  where
    by : (t : Option Start) → item_run past i.0 ≡ t
        → option_map (λ (x : Queueing). x.number) (option_and_then (λ (u : Start). queueing_at past u.number) t)
        ≡ option_map (λ (u : Start). u.number) t
    by None is = refl
    by (Some u) is = let r = runs_are_queueings s past legal i.0 u is in
        ap (option_map (λ (x : Queueing). x.number)) r.found ∙ ap Some (found_number past u.number r.queueing r.found)

-- ---- what a flush of an item, a drain and a destroy wait for

pub flushed_there : (s : Layout) (t : Ticket) (i : ItemId)
    → (t.call ≡ call.FlushItem i) ⊎ (t.call ≡ call.FlushDelayed i) → has_numbers s t.call ≡ true → i.0 < s.items
flushed_there s t i (inl e) fits = ltb-true i.0 s.items (sym (ap (has_numbers s) e) ∙ fits)
flushed_there s t i (inr e) fits = ltb-true i.0 s.items (sym (ap (has_numbers s) e) ∙ fits)

pub item_waits : (s : Layout) (past : List Entry) (i : ItemId) (t : Ticket) (opened : List (List ℕ))
    → opened ≡ numbers_of s past → i.0 < s.items → (t.call ≡ call.FlushItem i) ⊎ (t.call ≡ call.FlushDelayed i)
    → item_waits_for opened i.0 t.number ≡ waits_for past t.number t.call
item_waits s past i t opened are there (inl e) = ap (λ os. item_waits_for os i.0 t.number) are
    ∙ ((items_wait_for_least s past i t.number there).0 ∙ sym (ap (waits_for past t.number) e))
item_waits s past i t opened are there (inr e) = ap (λ os. item_waits_for os i.0 t.number) are
    ∙ ((items_wait_for_least s past i t.number there).1 ∙ sym (ap (waits_for past t.number) e))

-- a drain and a destroy are of a queue that there is
pub drained_there : (s : Layout) (t : Ticket) (q : QueueId) → (t.call ≡ call.Drain q) ⊎ (t.call ≡ call.Destroy q)
    → has_numbers s t.call ≡ true → q.0 < length s.queues
drained_there s t q (inl e) fits = ltb-true q.0 (length s.queues) (sym (ap (has_numbers s) e) ∙ fits)
drained_there s t q (inr e) fits = ltb-true q.0 (length s.queues) (sym (ap (has_numbers s) e) ∙ fits)

pub drain_waits : (s : Layout) (past : List Entry) (q : QueueId) (t : Ticket) (b : FlushBook) → AreFlushes s past q.0 b
    → (t.call ≡ call.Drain q) ⊎ (t.call ≡ call.Destroy q) → slice_get b.opened 0 ≡ waits_for past t.number t.call
drain_waits s past q t b is (inl e) =
    sym (ap (waits_for past t.number) e ∙ (drains_wait_for_least_open s past q b t.number is).0)
drain_waits s past q t b is (inr e) =
    sym (ap (waits_for past t.number) e ∙ (drains_wait_for_least_open s past q b t.number is).1)

pub found_unended : (past : List Entry) (who : Who) (n : ℕ) (t : Ticket) → ticket_of past who n ≡ Some t
    → Contains (unended_tickets past) t
found_unended past who n t h =
    in_contained (unended_tickets past) t (found (is_ticket who n) (unended_tickets past) t h).0

-- ---- a flush is served where its book serves it

in_overflow : (b : FlushBook) (t : ℕ) → served_of b t ≡ None → In t (flush_tickets b) → In t b.overflow
in_overflow b t none here =
    ⊎_elim (λ i. absurd (not_served b.served (find_none (has_ticket t) b.served none) i)) (λ o. o)
    (in_append (tickets_of_served b.served) b.overflow t here)
  where
    not_served : (fs : List Served) → AllByRecursion (λ f. has_ticket t f ≡ false) fs → In t (tickets_of_served fs) → ⊥
    not_served [] h i = i
    not_served (f ∷ fs) h i = grind (arith, nat_tests, not_served fs)

pub served_alike : (s : Layout) (past : List Entry) (q : ℕ) (b : FlushBook) (t : ℕ) → AreFlushes s past q b
    → Contains (flush_tickets b) t → is_some (served_of b t) ≡ is_some (serving_from past q t)
served_alike s past q b t is here = by (served_of b t) refl
  where
    by : (o : Option Served) → served_of b t ≡ o → is_some (served_of b t) ≡ is_some (serving_from past q t)
    by None none =
        let over =
        of_in (λ u. serving_from past q u ≡ None) b.overflow t is.overflowed
        (in_overflow b t none (contained_in (flush_tickets b) t here)) in
        ap is_some none ∙ sym (ap is_some over)
    by (Some f) some =
        let k = found (has_ticket t) b.served f some in
        let served = of_in (IsServedFrom past q b.opened) b.served f is.served_from k.0 in
        ap is_some some ∙ sym (ap is_some (ap (serving_from past q) (sym (eqb-true f.ticket t k.1)) ∙ served.is_served))
