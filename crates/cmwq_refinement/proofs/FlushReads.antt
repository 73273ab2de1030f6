-- What a flush book answers is what the definitions say.
use Rattle.cmwq_refinement.specs.Common.{◌≡◌, ◌<◌, ◌≤◌, ◌↔◌, ℕ, Bool, true, false, cond, List, [], ◌∷◌, filter, find, length}
use Rattle.cmwq_refinement.specs.Common.{count_by, Option, Some, None, nat_lt, nat_le, refl, sym, ap, ◌∙◌, subst, arith}
use Rattle.cmwq_refinement.specs.Common.{⊎_elim, option_map, option_map_or, slice_get, Contains, All, MatchOption, AllByRecursion}
use Rattle.cmwq_refinement.specs.Common.{eqb-true, ltb-false, le-ltb, QueueId, Entry, Queueing, Ticket, Layout, still_open}
use Rattle.cmwq_refinement.specs.Common.{unended_tickets, is_flush_of, serving_from, is_within, is_older_flush}
use Rattle.cmwq_refinement.specs.Common.{waits_for, Served, tickets_of_served, has_ticket, FlushBook, flush_tickets}
use Rattle.cmwq_refinement.specs.Common.{served_of, find_none, nat_tests}
use Rattle.cmwq_refinement.proofs.Numbers.{In, RisesBy, all_unfound, contained_in, filter_in, find_number, find_same}
use Rattle.cmwq_refinement.proofs.Numbers.{first_number, found, in_append, in_contained, in_mapped, itself}
use Rattle.cmwq_refinement.proofs.Numbers.{number_of_queueing, number_of_ticket, numbers_rise, of_in, rises_filter}
use Rattle.cmwq_model.specs.declared.call.Call.TheVariants as call
use Rattle.cmwq_flush.specs.FlushBook.{IsReady, is_waited_for}
use Rattle.cmwq_refinement.specs.FlushBooks.{is_on_queue, open_numbers, IsServedFrom, AreFlushes}
use Rattle.cmwq_refinement.proofs.QueueingSteps.{open_numbers_rise}
use Rattle.cmwq_refinement.proofs.FlushSteps.{few_are_older, many_are_older, served_before}

-- what a flush waits for, read off the open numbers
waits_by_number : (past : List Entry) (q : QueueId) (b : FlushBook) (t : ℕ) → b.opened ≡ open_numbers past q.0
    → waits_for past t (call.Flush q) ≡ find (is_within (serving_from past q.0 t)) b.opened
waits_by_number past q b t opened =
    find_number number_of_queueing (is_on_queue q.0) (is_within (serving_from past q.0 t)) (still_open past)
    ∙ ap (find (is_within (serving_from past q.0 t))) (sym opened)

waits_of_served : (past : List Entry) (q : QueueId) (b : FlushBook) (t : ℕ) (f : Served)
    → b.opened ≡ open_numbers past q.0 → f.ticket ≡ t → IsServedFrom past q.0 b.opened f
    → waits_for past t (call.Flush q) ≡ find (λ n. nat_lt n f.bound) b.opened
waits_of_served past q b t f opened ticket h =
    waits_by_number past q b t opened
    ∙ ap (λ o. find (is_within o) b.opened) (ap (serving_from past q.0) (sym ticket) ∙ h.is_served)
    ∙ sym (find_same (λ n. nat_lt n f.bound) (λ n. nat_le n h.position) b.opened h.same)

empty_waits : (ns : List ℕ) → (ns ≡ []) ↔ (find (λ n. true) ns ≡ None)
empty_waits [] = ((λ h. refl), (λ h. refl))
empty_waits (n ∷ ns) = ((λ h. cc), (λ h. cc))

in_overflow : (b : FlushBook) (t : ℕ) → served_of b t ≡ None → In t (flush_tickets b) → In t b.overflow
in_overflow b t none here =
    ⊎_elim (λ i. absurd (not_served b.served (find_none (has_ticket t) b.served none) i)) (λ o. o)
    (in_append (tickets_of_served b.served) b.overflow t here)
  where
    not_served : (fs : List Served) → AllByRecursion (λ f. has_ticket t f ≡ false) fs → In t (tickets_of_served fs) → ⊥
    not_served [] h i = i
    not_served (f ∷ fs) h i = grind (arith, nat_tests, not_served fs)

pub ready_flushes_wait_for_nothing : (s : Layout) (past : List Entry) (q : QueueId) (b : FlushBook) (t : ℕ)
    → AreFlushes s past q.0 b → Contains (flush_tickets b) t → IsReady b t ↔ (waits_for past t (call.Flush q) ≡ None)
ready_flushes_wait_for_nothing s past q b t is here = by (served_of b t) refl
  where
    by : (o : Option Served) → served_of b t ≡ o
        → MatchOption o (b.opened ≡ []) (λ f. All (λ n. f.bound ≤ n) b.opened) ↔
        (waits_for past t (call.Flush q) ≡ None)
    by None none =
        let over =
        of_in (λ u. serving_from past q.0 u ≡ None) b.overflow t is.overflowed
        (in_overflow b t none (contained_in (flush_tickets b) t here)) in
        rw (waits_by_number past q b t is.opened, over) (empty_waits b.opened)
    by (Some f) some =
        let k = found (has_ticket t) b.served f some in
        rw (waits_of_served past q b t f is.opened (eqb-true f.ticket t k.1)
        (of_in (IsServedFrom past q.0 b.opened) b.served f is.served_from k.0))
        (all_unfound (λ n. f.bound ≤ n) (λ n. nat_lt n f.bound) b.opened (λ n le. le-ltb n f.bound le)
        (λ n h. ltb-false n f.bound h))

-- ---- whether an open queueing is waited for

pub flushes_wait_within : (s : Layout) (past : List Entry) (q : ℕ) (b : FlushBook) (t : ℕ) (x : Queueing)
    → AreFlushes s past q b → Contains (flush_tickets b) t → Contains (still_open past) x → is_on_queue q x ≡ true
    → is_waited_for b t x.number ≡ is_within (serving_from past q t) x.number
flushes_wait_within s past q b t x is here open_x on_q = by (served_of b t) refl
  where
    there : In x.number b.opened
    there =
        subst (In x.number) (sym is.opened)
        (in_mapped number_of_queueing (filter (is_on_queue q) (still_open past)) x
        (filter_in (is_on_queue q) (still_open past) x (contained_in (still_open past) x open_x) on_q))

    by : (o : Option Served) → served_of b t ≡ o
        → option_map_or (λ (f : Served). nat_lt x.number f.bound) o true ≡ is_within (serving_from past q t) x.number
    by None none =
        let over =
        of_in (λ u. serving_from past q u ≡ None) b.overflow t is.overflowed
        (in_overflow b t none (contained_in (flush_tickets b) t here)) in
        rw over refl
    by (Some f) some =
        let k = found (has_ticket t) b.served f some in
        let h = of_in (IsServedFrom past q b.opened) b.served f is.served_from k.0 in
        of_in (λ m. nat_lt m f.bound ≡ nat_le m h.position) b.opened x.number h.same there
        ∙ ap (λ o. is_within o x.number) (sym (ap (serving_from past q) (sym (eqb-true f.ticket t k.1)) ∙ h.is_served))

-- and one that is opened next
pub flushes_wait_for_next : (s : Layout) (past : List Entry) (q : ℕ) (b : FlushBook) (t : ℕ) → AreFlushes s past q b
    → Contains (flush_tickets b) t
    → is_waited_for b t (length past) ≡ is_within (serving_from past q t) (length past)
flushes_wait_for_next s past q b t is here = by (served_of b t) refl
  where
    by : (o : Option Served) → served_of b t ≡ o
        → option_map_or (λ (f : Served). nat_lt (length past) f.bound) o true
        ≡ is_within (serving_from past q t) (length past)
    by None none =
        let over =
        of_in (λ u. serving_from past q u ≡ None) b.overflow t is.overflowed
        (in_overflow b t none (contained_in (flush_tickets b) t here)) in
        rw over refl
    by (Some f) some =
        let k = found (has_ticket t) b.served f some in
        let h = of_in (IsServedFrom past q b.opened) b.served f is.served_from k.0 in
        let bound = of_in (λ (g : Served). g.bound ≤ b.next) b.served f is.bounds k.0 in
        let served : serving_from past q t ≡ Some h.position =
        ap (serving_from past q) (sym (eqb-true f.ticket t k.1)) ∙ h.is_served in
        let before = served_before past q t h.position served in
        rw served (grind (arith, nat_tests, is.next))

-- ---- what stands

pub unended_flushes_stand : (s : Layout) (past : List Entry) (q : ℕ) (b : FlushBook) (t : Ticket)
    → AreFlushes s past q b → Contains (unended_tickets past) t → is_flush_of q t ≡ true
    → Contains (flush_tickets b) t.number
unended_flushes_stand s past q b t is here flush =
    in_contained (flush_tickets b) t.number
    (subst (In t.number) (sym is.flushes)
    (in_mapped number_of_ticket (filter (is_flush_of q) (unended_tickets past)) t
    (filter_in (is_flush_of q) (unended_tickets past) t (contained_in (unended_tickets past) t here) flush)))

-- ---- who is in overflow

pub overflowed_are_behind_fifteen : (s : Layout) (past : List Entry) (q : ℕ) (b : FlushBook) (t : ℕ)
    → AreFlushes s past q b → Contains (flush_tickets b) t
    → Contains b.overflow t ↔ (15 ≤ count_by (is_older_flush q t) (unended_tickets past))
overflowed_are_behind_fifteen s past q b t is here = (
  (λ over. many_are_older past q t b is.flushes is.serving (contained_in b.overflow t over)),
  (λ many. in_contained b.overflow t (⊎_elim
      (λ i. let few = few_are_older past q t b is.flushes is.few i in absurd (omega arith)) (λ o. o)
      (in_append (tickets_of_served b.served) b.overflow t (contained_in (flush_tickets b) t here)))),
)

-- ---- the least

within_less : (o : Option ℕ) (m n : ℕ) → m < n → is_within o n ≡ true → is_within o m ≡ true
within_less o m n less h = grind (arith, nat_tests)

least_first : (o : Option ℕ) (ns : List ℕ) (n : ℕ) → RisesBy itself ns → find (is_within o) ns ≡ Some n
    → slice_get ns 0 ≡ Some n
least_first o [] n rise h = cc
least_first o (m ∷ ms) n rise h = here (is_within o m) refl h
  where
    here : (c : Bool) → is_within o m ≡ c → cond c (Some m) (find (is_within o) ms) ≡ Some n → Some m ≡ Some n
    here true is k = k
    here false is k = let l = found (is_within o) ms n k in
        cc (within_less o m n (of_in (λ x. m < x) ms n rise.0 l.0) l.1)

opened_rise : (past : List Entry) (q : ℕ) → RisesBy itself (open_numbers past q)
opened_rise past q =
    numbers_rise number_of_queueing (filter (is_on_queue q) (still_open past))
    (rises_filter number_of_queueing (is_on_queue q) (still_open past) (open_numbers_rise past))

pub flushes_wait_for_least_open : (s : Layout) (past : List Entry) (q : QueueId) (b : FlushBook) (t n : ℕ)
    → AreFlushes s past q.0 b → Contains (flush_tickets b) t → waits_for past t (call.Flush q) ≡ Some n
    → slice_get b.opened 0 ≡ Some n
flushes_wait_for_least_open s past q b t n is here waits =
    least_first (serving_from past q.0 t) b.opened n (subst (RisesBy itself) (sym is.opened) (opened_rise past q.0))
    (sym (waits_by_number past q b t is.opened) ∙ waits)

-- ---- drains

pub drains_wait_for_least_open : (s : Layout) (past : List Entry) (q : QueueId) (b : FlushBook) (t : ℕ)
    → AreFlushes s past q.0 b
    → (waits_for past t (call.Drain q) ≡ slice_get b.opened 0)
    × (waits_for past t (call.Destroy q) ≡ slice_get b.opened 0)
drains_wait_for_least_open s past q b t is = (least, least)
  where
    least : option_map number_of_queueing (find (is_on_queue q.0) (still_open past)) ≡ slice_get b.opened 0
    least = first_number number_of_queueing (is_on_queue q.0) (still_open past)
        ∙ ap (λ ns. slice_get ns 0) (sym is.opened)
