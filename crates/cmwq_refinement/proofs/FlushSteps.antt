-- A flush book refines a history, entry by entry.
use Rattle.cmwq_refinement.specs.Common.{◌≡◌, ◌==◌, ◌<◌, ◌≤◌, ◌+◌, ℕ, suc, Bool, true, false, cond, not, List, [], ◌∷◌}
use Rattle.cmwq_refinement.specs.Common.{◌++◌, length, map, filter, count_by, Option, Some, None, option_to_list}
use Rattle.cmwq_refinement.specs.Common.{nat_lt, nat_le, refl, sym, ap, ◌∙◌, arith, append-nil, ◌⊎◌, inl, inr, ⊎_elim}
use Rattle.cmwq_refinement.specs.Common.{if◌then◌else◌, AllByRecursion, lt-ltb, le-ltb, le-leb, lt-leb, map-append}
use Rattle.cmwq_refinement.specs.Common.{length-map, filter-append, Entry, Queueing, Ticket, Layout, still_open}
use Rattle.cmwq_refinement.specs.Common.{opening, queueings, unended_tickets, tickets, is_flush_of, serving_from}
use Rattle.cmwq_refinement.specs.Common.{is_served_after, is_older_flush, IsLegal, Served, is_other_number, without}
use Rattle.cmwq_refinement.specs.Common.{tickets_of_served, FlushBook, new_book, flush_tickets, flushes_with_open}
use Rattle.cmwq_refinement.specs.Common.{flushes_without_open, flushes_with_wait, flushes_without_wait, IsServing}
use Rattle.cmwq_refinement.specs.Common.{survives, ending, All_map, count_by-filter, opening_number, open_go_on}
use Rattle.cmwq_refinement.specs.Common.{is_kept, ticket_ended, unended_go_on, served_stay, and_false}
use Rattle.cmwq_refinement.proofs.Numbers.{All_push, In, RisesBy, all_before, all_in, all_kept, all_mapped, cond_both}
use Rattle.cmwq_refinement.proofs.Numbers.{count_numbers, fewer_before, filter_all, in_left, in_mapped, in_some}
use Rattle.cmwq_refinement.proofs.Numbers.{is_less, itself, number_of_queueing, number_of_ticket, numbers_lack}
use Rattle.cmwq_refinement.proofs.Numbers.{numbers_rise, numbers_without, of_in, rises_filter, ticket_given}
use Rattle.cmwq_flush.specs.Served.{ticket_of_served}
use Rattle.cmwq_refinement.specs.FlushBooks.{is_on_queue, open_numbers, flush_numbers, IsServedFrom, AreFlushes}
use Rattle.cmwq_refinement.specs.FlushBooks.{flushes_after_end, flushes_after_opening, flushes_after_done}
use Rattle.cmwq_refinement.specs.FlushBooks.{flushes_after_begun, flushes_after_queueings, flushes_after_tickets}
use Rattle.cmwq_refinement.proofs.TicketSteps.{unended_rise, unended_below, TicketStep, ticket_step, ends_one}
use Rattle.cmwq_refinement.proofs.TicketSteps.{ends_none, ends_only, ticket_in_is}
use Rattle.cmwq_refinement.proofs.QueueingSteps.{QueueingStep, queueing_step, open_numbers_rise}
use Rattle.cmwq_refinement.proofs.QueueingSteps as queueing
use Rattle.cmwq_refinement.proofs.FlushCalls.{ServedSoon, already, just_now, Stands, stands_begin, stands_end}
use Rattle.cmwq_theory_steps.proofs.TicketSteps.{not_served_yet}

-- ---- from which position a flush is served

served_at_once : (e : Entry) (past : List Entry) (q t : ℕ) → serving_from past q t ≡ None → t ≤ length past
    → is_served_after (e ∷ past) q t ≡ true → serving_from (e ∷ past) q t ≡ Some (length past)
unfolding serving_from
served_at_once e past q t none le after = rw (none, le-leb t (length past) le, after) refl

not_yet : (e : Entry) (past : List Entry) (q t : ℕ) → serving_from past q t ≡ None
    → is_served_after (e ∷ past) q t ≡ false → serving_from (e ∷ past) q t ≡ None
unfolding serving_from
not_yet e past q t none after = rw (none, after, and_false) refl

pub served_before : (past : List Entry) (q t p : ℕ) → serving_from past q t ≡ Some p → p < length past
unfolding serving_from
served_before [] q t p h = cc
served_before (e ∷ past) q t p h = grind (arith, served_before past q t p, h)

-- ---- how many older flushes are unended

older_flushes : (past : List Entry) (q t : ℕ) → count_by (is_older_flush q t) (unended_tickets past)
    ≡ count_by (is_less t) (flush_numbers q (unended_tickets past))
older_flushes past q t =
    count_by-filter (is_older_flush q t) (is_flush_of q) (λ u. is_less t u.number) (unended_tickets past) (λ u. refl)
    ∙ count_numbers number_of_ticket (is_less t) (filter (is_flush_of q) (unended_tickets past))

flush_numbers_rise : (past : List Entry) (q : ℕ) → RisesBy itself (flush_numbers q (unended_tickets past))
flush_numbers_rise past q =
    numbers_rise number_of_ticket (filter (is_flush_of q) (unended_tickets past))
    (rises_filter number_of_ticket (is_flush_of q) (unended_tickets past) (unended_rise past))

pub flush_numbers_below : (n q : ℕ) (ts : List Ticket) → AllByRecursion (λ t. t.number < n) ts
    → AllByRecursion (λ m. m < n) (flush_numbers q ts)
flush_numbers_below n q ts h =
    all_mapped number_of_ticket (λ m. m < n) (filter (is_flush_of q) ts)
    (all_kept (λ t. t.number < n) (is_flush_of q) ts h)

-- ---- queueings are applied to the book

-- each open number is an older one, or this
abbrev pub IsOldOr : ℕ → FlushBook → ℕ → Type 0
IsOldOr n old m = In m old.opened ⊎ (m ≡ n)

old_all : (n : ℕ) (b : FlushBook) → AllByRecursion (IsOldOr n b) b.opened
old_all n b = all_in (IsOldOr n b) b.opened (λ m i. inl i)

-- where only the open numbers and what comes next may differ
pub record OpensOn (n : ℕ) (old b : FlushBook) : Type 0 where
  pub items : b.items ≡ old.items
  pub served : b.served ≡ old.served
  pub overflow : b.overflow ≡ old.overflow
  pub older : AllByRecursion (λ m. m < b.next) b.opened
  pub next : b.next ≤ suc n
  pub later : old.next ≤ b.next
  pub from : AllByRecursion (IsOldOr n old) b.opened

opens_none : (n : ℕ) (b : FlushBook) → AllByRecursion (λ m. m < b.next) b.opened → b.next ≤ n → OpensOn n b b
opens_none n b older next =
    record {
      items = refl;
      served = refl;
      overflow = refl;
      older = older;
      next = omega arith;
      later = omega arith;
      from = old_all n b;
    }

end_is : (past : List Entry) (e : Entry) (q : ℕ) (b : FlushBook) → QueueingStep past e → b.opened ≡ open_numbers past q
    → (flushes_after_end (ending past e) q b).opened
    ≡ map number_of_queueing (filter (is_on_queue q) (filter (survives past e) (still_open past)))
end_is past e q b (queueing.ends_none is all) opened =
    rw (is, filter_all (survives past e) (still_open past) all) opened
end_is past e q b (queueing.ends_one x is here all) opened =
    rw (is, numbers_without number_of_queueing (is_on_queue q) (survives past e) x.number (still_open past) all)
    (grind (
      arith,
      numbers_lack number_of_queueing (is_on_queue q) x (still_open past) (open_numbers_rise past)
          here,
    ))

pub ended_on : (o : Option Queueing) (q n : ℕ) (b : FlushBook) → AllByRecursion (λ m. m < b.next) b.opened → b.next ≤ n
    → OpensOn n b (flushes_after_end o q b)
ended_on None q n b older next = opens_none n b older next
ended_on (Some x) q n b older next =
    cond_both (is_on_queue q x) (flushes_without_open b x.number) b (OpensOn n b) (λ on. record {
      items = refl;
      served = refl;
      overflow = refl;
      next = omega arith;
      later = omega arith;
      older = all_kept (λ m. m < b.next) (is_other_number x.number) b.opened older;
      from = all_kept (IsOldOr n b) (is_other_number x.number) b.opened (old_all n b);
    }) (λ off. opens_none n b older next)

opened_on : (o : Option Queueing) (q n : ℕ) (b : FlushBook) → ((x : Queueing) → o ≡ Some x → x.number ≡ n)
    → AllByRecursion (λ m. m < b.next) b.opened → b.next ≤ n → OpensOn n b (flushes_after_opening o q b)
opened_on None q n b number older next = opens_none n b older next
opened_on (Some x) q n b number older next = let is : x.number ≡ n = number x refl in
    cond_both (is_on_queue q x) (flushes_with_open b x.number) b (OpensOn n b) (λ on. record {
      items = refl;
      served = refl;
      overflow = refl;
      next = omega arith;
      later = omega arith;
      older = All_push (λ m. m < x.number + 1) b.opened x.number
          (All_map (λ m. m < b.next) (λ m. m < x.number + 1) b.opened (λ m less. omega arith) older) (omega arith);
      from = All_push (IsOldOr n b) b.opened x.number (old_all n b) (inr is);
    }) (λ off. opens_none n b older next)

pub opened_numbers : (o : Option Queueing) (q : ℕ) (b : FlushBook) → (flushes_after_opening o q b).opened ≡ b.opened
    ++ map number_of_queueing (filter (is_on_queue q) (option_to_list o))
opened_numbers o q b = grind (arith, append-nil b.opened)

pub opened_is : (s : Layout) (past : List Entry) (e : Entry) (q : ℕ) (b : FlushBook) → IsLegal s (e ∷ past)
    → b.opened ≡ open_numbers past q → (flushes_after_queueings past e q b).opened ≡ open_numbers (e ∷ past) q
unfolding IsLegal
opened_is s past e q b legal opened =
    rw (open_go_on s past e legal, filter-append, map-append)
    (cc (
      opened_numbers (opening past e) q (flushes_after_end (ending past e) q b),
      end_is past e q b (queueing_step s past e legal) opened,
    ))

opens_twice : (n : ℕ) (a b c : FlushBook) → OpensOn n a b → OpensOn n b c → OpensOn n a c
opens_twice n a b c h k = record {
  items = k.items ∙ h.items;
  served = k.served ∙ h.served;
  overflow = k.overflow ∙ h.overflow;
  older = k.older;
  next = k.next;
  later = omega (arith, h.later, k.later);
  from = All_map (IsOldOr n b) (IsOldOr n a) c.opened
      (λ m o. ⊎_elim (λ i. of_in (IsOldOr n a) b.opened m h.from i) (λ e. inr e) o) k.from;
}

pub ended_next : (o : Option Queueing) (q : ℕ) (b : FlushBook) → (flushes_after_end o q b).next ≡ b.next
ended_next o q b = grind arith

pub applied_on : (past : List Entry) (e : Entry) (q : ℕ) (b : FlushBook) → AllByRecursion (λ m. m < b.next) b.opened
    → b.next ≤ length past → OpensOn (length past) b (flushes_after_queueings past e q b)
applied_on past e q b older next =
    let first = ended_on (ending past e) q (length past) b older next in
    opens_twice (length past) b (flushes_after_end (ending past e) q b) (flushes_after_queueings past e q b) first
    (opened_on (opening past e) q (length past) (flushes_after_end (ending past e) q b) (opening_number past e)
    first.older (omega (arith, ended_next (ending past e) q b)))

-- a flush that is served stays so
pub soon_after : (s : Layout) (past : List Entry) (q : ℕ) (old b : FlushBook) → AreFlushes s past q old
    → OpensOn (length past) old b → Stands past q (flush_numbers q (unended_tickets past)) b
soon_after s past q old b is on = record {
  flushes_are = rw (on.served, on.overflow) is.flushes;
  few = rw on.served is.few;
  serving = rw (on.served, on.overflow) is.serving;
  bounds = rw on.served
      (All_map (λ f. f.bound ≤ old.next) (λ f. f.bound ≤ b.next) old.served (λ f le. omega (arith, on.later))
      is.bounds);
  soon = rw on.served (all_in (ServedSoon past q b.next b.opened) old.served
      (λ f i. already
      (more f (of_in (IsServedFrom past q old.opened) old.served f is.served_from i)
      (of_in (λ f. f.bound ≤ old.next) old.served f is.bounds i))));
  overflowed = rw on.overflow is.overflowed;
}
  where
    more : (f : Served) → IsServedFrom past q old.opened f → f.bound ≤ old.next → IsServedFrom past q b.opened f
    more f h le = record {
      position = h.position;
      is_served = h.is_served;
      same = All_map (IsOldOr (length past) old) (λ n. nat_lt n f.bound ≡ nat_le n h.position) b.opened (λ n o. ⊎_elim
          (λ i. of_in (λ n. nat_lt n f.bound ≡ nat_le n h.position) old.opened n h.same i)
          (λ e. le-ltb n f.bound (omega (arith, is.next))
          ∙ sym (lt-leb n h.position (omega (arith, served_before past q f.ticket h.position h.is_served)))) o)
          on.from;
    }

-- ---- tickets are applied to the book

abbrev pub StandsAs : List Entry → ℕ → List Ticket → FlushBook → Type 0
StandsAs past q ts b = Stands past q (flush_numbers q ts) b

pub stands_done : (past : List Entry) (e : Entry) (q : ℕ) (b : FlushBook) → TicketStep past e
    → StandsAs past q (unended_tickets past) b
    → StandsAs past q (filter (is_kept e) (unended_tickets past)) (flushes_after_done (ticket_ended past e) q b)
stands_done past e q b (ends_none is all) stands = rw (is, filter_all (is_kept e) (unended_tickets past) all) stands
stands_done past e q b (ends_one u is here it) stands =
    let flushing : List ℕ = flush_numbers q (unended_tickets past) in
    rw (
      is,
      numbers_without number_of_ticket (is_flush_of q) (is_kept e) u.number (unended_tickets past)
          (all_in (λ t. is_kept e t ≡ not (t.number == u.number)) (unended_tickets past) (ends_only past e u here it)),
    )
    (cond_both (is_flush_of q u) (flushes_without_wait b u.number) b (Stands past q (without u.number flushing))
    (λ flush. stands_end past q u.number flushing b (flush_numbers_rise past q) stands)
    (λ other. rw (numbers_lack number_of_ticket (is_flush_of q) u (unended_tickets past) (unended_rise past) here other)
    stands))

stands_begun : (past : List Entry) (q : ℕ) (ts : List Ticket) (o : Option Ticket) (b : FlushBook)
    → ((t : Ticket) → o ≡ Some t → length past ≤ t.number) → StandsAs past q ts b
    → StandsAs past q (ts ++ option_to_list o) (flushes_after_begun o q b)
stands_begun past q ts None b number stands = rw append-nil stands
stands_begun past q ts (Some t) b number stands = rw (filter-append, map-append) (kind (is_flush_of q t))
  where
    kind : (f : Bool)
        → Stands past q (flush_numbers q ts ++ map number_of_ticket (cond f (t ∷ []) []))
        (if f then flushes_with_wait b t.number else b)
    kind true =
        stands_begin past q t.number (flush_numbers q ts) b (not_served_yet past q t.number (number t refl)) stands
    kind false = rw append-nil stands

stands_after : (s : Layout) (past : List Entry) (e : Entry) (q : ℕ) (b : FlushBook) → IsLegal s (e ∷ past)
    → StandsAs past q (unended_tickets past) b
    → StandsAs past q (unended_tickets (e ∷ past)) (flushes_after_tickets past e q b)
stands_after s past e q b legal is = rw (unended_go_on s past e legal)
    (stands_begun past q (filter (is_kept e) (unended_tickets past)) (ticket_given past e)
    (flushes_after_done (ticket_ended past e) q b) (λ t h. omega (arith, (ticket_in_is e (length past) t h).number))
    (stands_done past e q b (ticket_step past e) is))

-- they change nothing that is open
record SameOpen (old b : FlushBook) : Type 0 where
  items : b.items ≡ old.items
  opened : b.opened ≡ old.opened
  next : b.next ≡ old.next

tickets_open : (ended begun : Option Ticket) (q : ℕ) (b : FlushBook)
    → SameOpen b (flushes_after_begun begun q (flushes_after_done ended q b))
tickets_open ended begun q b = grind arith

-- ---- what stands is served as the history says

-- fewer than 15 older ones are unended of one that is served, and 15 or more of one in overflow
pub few_are_older : (past : List Entry) (q t : ℕ) (b : FlushBook)
    → flush_tickets b ≡ flush_numbers q (unended_tickets past) → length b.served ≤ 15
    → In t (tickets_of_served b.served) → count_by (is_older_flush q t) (unended_tickets past) < 15
few_are_older past q t b are few here =
    let fewer = fewer_before (tickets_of_served b.served) b.overflow t (rw are (flush_numbers_rise past q)) here in
    omega (
      arith,
      fewer,
      length-map b.served ticket_of_served,
      older_flushes past q t
          ∙ ap (count_by (is_less t)) (sym are),
    )

pub many_are_older : (past : List Entry) (q t : ℕ) (b : FlushBook)
    → flush_tickets b ≡ flush_numbers q (unended_tickets past) → IsServing b → In t b.overflow
    → 15 ≤ count_by (is_older_flush q t) (unended_tickets past)
many_are_older past q t b are serving here =
    let all = all_before (tickets_of_served b.served) b.overflow t (rw are (flush_numbers_rise past q)) here in
    omega (
      arith,
      all,
      serving (in_some b.overflow t here),
      length-map b.served ticket_of_served,
      older_flushes past q t
          ∙ ap (count_by (is_less t)) (sym are),
    )

served_now : (e : Entry) (past : List Entry) (q : ℕ) (b : FlushBook) (f : Served)
    → StandsAs past q (unended_tickets (e ∷ past)) b → AllByRecursion (λ n. n < b.next) b.opened
    → b.next ≤ suc (length past) → In f b.served
    → ServedSoon past q b.next b.opened f → IsServedFrom (e ∷ past) q b.opened f
served_now e past q b f is older next here (already h) =
    record { position = h.position; is_served = served_stay past e q f.ticket h.position h.is_served; same = h.same }
served_now e past q b f is older next here (just_now unserved bound) =
    let ticket = in_mapped ticket_of_served b.served f here in
    let below =
    of_in (λ n. n < length (e ∷ past)) (flush_numbers q (unended_tickets (e ∷ past))) f.ticket
    (flush_numbers_below (length (e ∷ past)) q (unended_tickets (e ∷ past)) (unended_below (e ∷ past)))
    (rw is.flushes_are at (in_left (tickets_of_served b.served) b.overflow f.ticket ticket)) in
    record {
      position = length past;
      is_served =
          served_at_once e past q f.ticket unserved (omega (arith, below))
          (lt-ltb (count_by (is_older_flush q f.ticket) (unended_tickets (e ∷ past))) 15
          (few_are_older (e ∷ past) q f.ticket b is.flushes_are is.few ticket));
      same = All_map (λ n. n < b.next) (λ n. nat_lt n f.bound ≡ nat_le n (length past)) b.opened
          (λ n less. lt-ltb n f.bound (omega arith) ∙ sym (le-leb n (length past) (omega arith))) older;
    }

pub flushes_refine : (s : Layout) (past : List Entry) (e : Entry) (q : ℕ) (b : FlushBook) → IsLegal s (e ∷ past)
    → AreFlushes s past q b
    → AreFlushes s (e ∷ past) q (flushes_after_tickets past e q (flushes_after_queueings past e q b))
flushes_refine s past e q b legal is =
    after (flushes_after_tickets past e q (flushes_after_queueings past e q b))
    (tickets_open (ticket_ended past e) (ticket_given past e) q (flushes_after_queueings past e q b))
    (stands_after s past e q (flushes_after_queueings past e q b) legal
    (soon_after s past q b (flushes_after_queueings past e q b) is on))
    (omega (
      arith,
      (tickets_open (ticket_ended past e) (ticket_given past e) q (flushes_after_queueings past e q b)).next,
      on.next,
    ))
  where
    on : OpensOn (length past) b (flushes_after_queueings past e q b)
    on = applied_on past e q b is.older is.next

    after : (c : FlushBook) → SameOpen (flushes_after_queueings past e q b) c
        → StandsAs past q (unended_tickets (e ∷ past)) c → c.next ≤ suc (length past) → AreFlushes s (e ∷ past) q c
    after c same k next = let older : AllByRecursion (λ n. n < c.next) c.opened =
        rw (same.opened, same.next) on.older in record {
          items = same.items ∙ on.items ∙ is.items;
          opened = same.opened ∙ opened_is s past e q b legal is.opened;
          older = older;
          next = next;
          flushes = k.flushes_are;
          few = k.few;
          serving = k.serving;
          bounds = k.bounds;
          served_from =
              all_in (IsServedFrom (e ∷ past) q c.opened) c.served
              (λ f i. served_now e past q c f k older next i
              (of_in (ServedSoon past q c.next c.opened) c.served f k.soon i));
          overflowed =
              all_in (λ t. serving_from (e ∷ past) q t ≡ None) c.overflow
              (λ t i. not_yet e past q t (of_in (λ u. serving_from past q u ≡ None) c.overflow t k.overflowed i)
              (le-ltb (count_by (is_older_flush q t) (unended_tickets (e ∷ past))) 15
              (many_are_older (e ∷ past) q t c k.flushes_are k.serving i)));
        }

pub flushes_at_first : (s : Layout) (q : ℕ) → AreFlushes s [] q (new_book s.items)
unfolding queueings tickets
flushes_at_first s q = grind arith
