-- The parts to which an effect is applied are those of the longer history, and it may be applied to them.
use Rattle.cmwq_state.specs.Common.{◌≡◌, ℕ, ◌*◌, ◌<◌, ◌≤◌, Bool, true, false, ⊎_elim, List, [], ◌∷◌, length, filter}
use Rattle.cmwq_state.specs.Common.{Option, Some, None, refl, sym, ap, ap₂, ◌∙◌, subst, arith, nat_lt, if◌then◌else◌}
use Rattle.cmwq_state.specs.Common.{is_some, IfSome, PoolId, Entry, Queueing, QueueShape, Call, Ticket, Layout, item_of}
use Rattle.cmwq_state.specs.Common.{settles, booking_of, still_open, opening, IsLegal, newly_active}
use Rattle.cmwq_state.specs.Common.{is_below_max_active, has_numbers, number_finished, PoolState, lists_item, no_pool}
use Rattle.cmwq_state.specs.Common.{FlushBook, TimerRows, ending, is_ended, pools_refine, flushes_refine}
use Rattle.cmwq_state.specs.Common.{numbers_refine, opened_are_there, open_are_there, In, all_in, in_filter, found}
use Rattle.cmwq_state.specs.Common.{in_contained, eq-eqb, is_in, MayAllBeAdded, PwqState, IsPassed, IsPlacedIf}
use Rattle.cmwq_state.specs.Common.{is_waiting, ArePlaced, width_by, ltb-true, false_from_ne_true, cases_lt}
use Rattle.cmwq_state.specs.Common.{All-from_recursion, waits, candidates, newly_are, filter_none, ticket_ended}
use Rattle.cmwq_state.specs.Common.{ended_ready, unended_fit, Flight, tickets_refine, entries_apply_to_tickets}
use Rattle.cmwq_state.specs.Common.{flights_refine, entries_apply_to_flights, pool_after_activation, pool_after_cancel}
use Rattle.cmwq_state.specs.Common.{pool_after_worker, pool_before_activation, pool_of, AreFlushes, MayBeDoneInFlushes}
use Rattle.cmwq_state.specs.Common.{MayBeginInFlushes, MayEndInFlushes, MayOpenInFlushes, flushes_after_begun}
use Rattle.cmwq_state.specs.Common.{flushes_after_done, flushes_after_end, flushes_after_opening}
use Rattle.cmwq_state.specs.Common.{flushes_after_queueings, MayEndInNumbers, MayOpenInNumbers, numbers_after_end}
use Rattle.cmwq_state.specs.Common.{numbers_after_opening, numbers_of, MayBeSet, timers_after_settling, timers_of}
use Rattle.cmwq_state.specs.Common.{MayEndInFlight, MayOpenInFlight, MayStartInFlight, flights_after, flights_after_end}
use Rattle.cmwq_state.specs.Common.{flights_after_opening, flights_after_start, flights_of, MayEndTicket, MayGiveTicket}
use Rattle.cmwq_state.specs.Common.{tickets_after_end, tickets_after_giving, tickets_of, MayEndInPwqs, MayOpenInPwqs}
use Rattle.cmwq_state.specs.Common.{pwqs_after_end, pwqs_after_opening}
use Rattle.cmwq_ticket.specs.Rows.{TicketBook}
use Rattle.cmwq_theory_steps.proofs.Rising.{opening_number}
use Rattle.cmwq_refinement.specs.Places as places
use Rattle.std.specs.Prelude.{All}
use Rattle.std.proofs.lemmas.List.{get_or_default}
use Rattle.std.proofs.Common.{get_or}
use Rattle.cmwq_flush.specs.FlushBooks.{FlushState, book_in, no_book, overflow_count}
use Rattle.cmwq_refinement.proofs.FlushSteps.{ended_next}
use Rattle.cmwq_refinement.specs.FlushBooks.{AreBegun}
use Rattle.cmwq_refinement.proofs.FlushMay.{entries_apply_to_flushes, given_flushes_have_room}
use Rattle.cmwq_refinement.proofs.TimerMay.{timers_refine, timers_may_be_set}
use Rattle.cmwq_refinement.proofs.ItemNumberMay.{entries_apply_to_numbers}
use Rattle.cmwq_refinement.proofs.PoolAdds.{active_may_be_added, items_are_listed_once}
use Rattle.cmwq_refinement.proofs.PlacesFit.{open_there as open_in_there}
use Rattle.cmwq_model.specs.declared.call.Call.TheVariants as call
use Rattle.cmwq_model.specs.Tickets.{flushes as flushes_queue}
use Rattle.cmwq_refinement.proofs.Settled.{numbers_fit}
use Rattle.cmwq_refinement.proofs.TicketSteps.{ticket_in_is}
use Rattle.cmwq_state.specs.Gone.{AreGone, MayLoseQueue}
use Rattle.cmwq_state.proofs.GoneSteps.{may_lose_destroyed}
use Rattle.cmwq_state.specs.Pwqs.{ArePwqsOf}
use Rattle.cmwq_state.proofs.PwqsBehind.{finished_waits_not, ended_placed, opened_placed}
use Rattle.cmwq_state.specs.Widths.{AreWidths, MaySetWidth}
use Rattle.cmwq_state.proofs.WidthSteps.{widths_are}
use Rattle.cmwq_state.proofs.Listing.{may_all_same}
use Rattle.cmwq_state.proofs.PwqsSteps.{ArePassed, IsReadyToPass, are_placed, pwqs_ended, pwqs_opened, pwqs_passed}
use Rattle.cmwq_state.specs.Tables.{pool_in, pool_place, pool_listing, ListEachItemOnce, only, those_in, ArePools}
use Rattle.cmwq_state.specs.Tables.{AreBooks, EachPool, EachBook, IsListable, MayBeListed, MayEndInBooks}
use Rattle.cmwq_state.specs.Tables.{MayOpenInBooks, MayCancelInPools, MayBeDoneInBooks, MayBeginInBooks, MayEndFlush}
use Rattle.cmwq_state.specs.Tables.{MayBeginFlush}
use Rattle.cmwq_state.specs.Effects.{IsEffect}
use Rattle.cmwq_model.specs.Prelude.{item_number}
use Rattle.cmwq_state.specs.declared.effect.Effect.{Effect}
use Rattle.cmwq_model.proofs.Limits.{Limits}
use Rattle.std.proofs.lemmas.Bool.{false≢true}
use Rattle.std.proofs.lemmas.List.{get_or_past}

-- ---- pools

pub pools_applied : (s : Layout) (past : List Entry) (f : Effect) (old mid late new : List PoolState)
    (activated : List Queueing) → IsEffect s past f → ArePools s past old
    → EachPool (λ p. pool_after_worker p f.entry.who f.entry.reply) old mid
    → EachPool (λ p. pool_after_cancel s p f.entry f.ended) mid late →
    activated ≡ newly_active s past f.entry
    → EachPool (λ p. pool_after_activation (only s.queues) (those_in s.queues p activated)) late new
    → ArePools s (f.entry ∷ past) new
pools_applied s past f old mid late new activated is are first second newly third = grind (arith, pools_refine)

-- what became active is of queues and CPUs that there are, and may be listed
newly_there : (s : Layout) (past : List Entry) (e : Entry) (x : Queueing) → IsLegal s (e ∷ past)
    → In x (newly_active s past e) → places.IsQueueingThere s x
newly_there s past e x legal h =
    let one =
    in_filter (is_below_max_active s (e ∷ past)) (candidates s past e) x (subst (In x) (newly_are s past e) h) in
    open_in_there s (e ∷ past) x legal (in_filter (waits s past) (still_open (e ∷ past)) x one.0).0

pub may_be_listed : (s : Layout) (past : List Entry) (f : Effect) (late : List PoolState) (activated : List Queueing)
    → IsEffect s past f → length late ≡ 2 * s.cpus → activated ≡ newly_active s past f.entry
    → MayBeListed s.queues activated late
may_be_listed s past f late activated is many newly =
    rw newly (All-from_recursion (IsListable s.queues late) (newly_active s past f.entry)
    (all_in (IsListable s.queues late) (newly_active s past f.entry) (λ x h.
    let there = newly_there s past f.entry x is.legal h in let cpu = there.cpu in (there.queue, omega arith))))

-- none is of a pool that there isn't
none_there : (s : Layout) (past : List Entry) (f : Effect) (activated : List Queueing) → IsEffect s past f
    → activated ≡ newly_active s past f.entry → (p : PoolId) → s.cpus ≤ p.cpu.0 → those_in s.queues p activated ≡ []
none_there s past f activated is newly p most = grind (arith, filter_none, all_in, newly_there, false_from_ne_true)

pub may_list_all : (s : Layout) (past : List Entry) (f : Effect) (old mid late : List PoolState)
    (activated : List Queueing) → IsEffect s past f → ArePools s past old
    → EachPool (λ p. pool_after_worker p f.entry.who f.entry.reply) old mid
    → EachPool (λ p. pool_after_cancel s p f.entry f.ended) mid late →
    activated ≡ newly_active s past f.entry → (p : PoolId)
    → MayAllBeAdded (only s.queues) (those_in s.queues p activated) (pool_in late p)
may_list_all s past f old mid late activated is are first second newly p = ⊎_elim here nowhere (cases_lt p.cpu.0 s.cpus)
  where
    here : p.cpu.0 < s.cpus → MayAllBeAdded (only s.queues) (those_in s.queues p activated) (pool_in late p)
    here less =
        let e = f.entry in
        let applied : pool_in late p ≡ pool_before_activation s past p e (pool_of s past p) =
        second.each p
        ∙ ap₂ (pool_after_cancel s p e) is.ended
        (first.each p ∙ ap (pool_after_worker p e.who e.reply) (are.each p less)) in
        let may = active_may_be_added s past e p is.legal in
        may_all_same s (filter (is_in s p) activated) (pool_in late p) (rw (newly, applied) may)

    nowhere : s.cpus ≤ p.cpu.0 → MayAllBeAdded (only s.queues) (those_in s.queues p activated) (pool_in late p)
    nowhere most =
        rw (none_there s past f activated is newly p most) tt

-- once they are listed, no two pools list one item
pub list_once : (s : Layout) (past : List Entry) (f : Effect) (old mid late : List PoolState)
    (activated : List Queueing) → IsEffect s past f → ArePools s past old
    → EachPool (λ p. pool_after_worker p f.entry.who f.entry.reply) old mid
    → EachPool (λ p. pool_after_cancel s p f.entry f.ended) mid late →
    activated ≡ newly_active s past f.entry → ListEachItemOnce s.queues activated late
list_once s past f old mid late activated is are first second newly p q i hp hq =
    items_are_listed_once s (f.entry ∷ past) p q i is.legal (in_end p hp) (in_end q hq)
  where
    in_end : (p : PoolId) → lists_item i (pool_listing s.queues activated late p) ≡ true
        → lists_item i (pool_of s (f.entry ∷ past) p) ≡ true
    in_end p h = ⊎_elim here nowhere (cases_lt p.cpu.0 s.cpus)
      where
        here : p.cpu.0 < s.cpus → lists_item i (pool_of s (f.entry ∷ past) p) ≡ true
        here less =
            let e = f.entry in
            ap (lists_item i) (sym (ap₂ (λ xs l. pool_after_activation s (filter (is_in s p) xs) l) newly
            (second.each p
            ∙ ap₂ (pool_after_cancel s p e) is.ended
            (first.each p ∙ ap (pool_after_worker p e.who e.reply) (are.each p less)))
            ∙ sym (pools_refine s past e p is.legal))) ∙ h

        nowhere : s.cpus ≤ p.cpu.0 → lists_item i (pool_of s (f.entry ∷ past) p) ≡ true
        nowhere most =
            let none = none_there s past f activated is newly p most in
            let past_all : length late ≤ pool_place p = omega (arith, second.many, first.many, are.many) in
            absurd (false≢true
            (sym (ap (λ xs. lists_item i (pool_after_activation (only s.queues) xs (pool_in late p))) none
            ∙ ap (lists_item i) (get_or_past late (pool_place p) no_pool past_all)) ∙ h))

-- ---- flush books

pub numbers_apply : (s : Layout) (past : List Entry) (f : Effect) → IsEffect s past f
    → numbers_after_opening f.opened (numbers_after_end f.ended (numbers_of s past)) ≡ numbers_of s (f.entry ∷ past)
numbers_apply s past f is =
    ap₂ (λ o x. numbers_after_opening o (numbers_after_end x (numbers_of s past))) is.opened is.ended
    ∙ sym (numbers_refine s past f.entry is.legal)

pub books_applied : (s : Layout) (past : List Entry) (f : Effect) (old mid late end new : FlushState)
    → IsEffect s past f → AreBooks s past old → EachBook (flushes_after_end f.ended) old mid
    → EachBook (flushes_after_opening f.opened) mid late → EachBook (flushes_after_done f.done) late end
    → EachBook (flushes_after_begun f.begun) end new
    → mid.opened ≡ numbers_after_end f.ended old.opened → late.opened ≡ numbers_after_opening f.opened mid.opened
    → end.opened ≡ late.opened → new.opened ≡ end.opened → AreBooks s (f.entry ∷ past) new
books_applied s past f old mid late end new is are first second third fourth ended opened done begun = record {
  room = fourth.room ∙ (third.room ∙ (second.room ∙ (first.room ∙ are.room)));
  many = fourth.many ∙ (third.many ∙ (second.many ∙ (first.many ∙ are.many)));
  each = λ q here. subst (AreFlushes s (f.entry ∷ past) q)
      (sym (fourth.each q ∙ ap₂ (λ o b. flushes_after_begun o q b) is.begun
      (third.each q ∙ ap₂ (λ o b. flushes_after_done o q b) is.done
      (second.each q ∙ ap₂ (λ o b. flushes_after_opening o q b) is.opened
      (first.each q ∙ ap (λ o. flushes_after_end o q (book_in old.books q)) is.ended)))))
      (flushes_refine s past f.entry q (book_in old.books q) is.legal (are.each q here));
  numbers =
      begun ∙ (done
      ∙ (opened
      ∙ (ap (numbers_after_opening f.opened) (ended ∙ ap (numbers_after_end f.ended) are.numbers)
      ∙ numbers_apply s past f is)));
}

-- ---- timers

applied_by : (e : Entry) (past : List Entry) (rows : TimerRows) (b : Bool) → settles e.reply ≡ b
    → timers_after_settling (if b then item_of e else None) (booking_of e (length past)) rows
    ≡ (if b then timers_after_settling (item_of e) (booking_of e (length past)) rows else rows)
applied_by e past rows b h = grind arith

pub timers_applied : (s : Layout) (past : List Entry) (f : Effect) → IsEffect s past f
    → timers_after_settling (item_number f.settled) f.booked (timers_of s past) ≡ timers_of s (f.entry ∷ past)
timers_applied s past f is = ap₂ (λ o b. timers_after_settling o b (timers_of s past)) is.settled is.booked
    ∙ (applied_by f.entry past (timers_of s past) (settles f.entry.reply) refl
    ∙ sym (timers_refine s past f.entry is.legal))

-- ---- flights

abbrev pub flights_applied : Effect → List Flight → List Flight
flights_applied f rows =
    flights_after_opening f.opened (flights_after_start f.started (flights_after_end f.entry.reply f.ended rows))

same_applied : (s : Layout) (past : List Entry) (f : Effect) (rows : List Flight) → IsEffect s past f
    → flights_applied f rows ≡ flights_after past f.entry rows
same_applied s past f rows is = rw (is.ended, is.started, is.opened) refl

pub flights_apply : (s : Layout) (past : List Entry) (f : Effect) → IsEffect s past f
    → flights_applied f (flights_of s past) ≡ flights_of s (f.entry ∷ past)
flights_apply s past f is = same_applied s past f (flights_of s past) is ∙ sym (flights_refine s past f.entry is.legal)

-- ---- tickets

abbrev pub tickets_applied : Effect → TicketBook → TicketBook
tickets_applied f b = tickets_after_giving f.begun (tickets_after_end f.done b)

pub tickets_apply : (s : Layout) (past : List Entry) (f : Effect) → IsEffect s past f
    → tickets_applied f (tickets_of s past) ≡ tickets_of s (f.entry ∷ past)
tickets_apply s past f is = rw (is.done, is.begun) (tickets_refine s past f.entry is.legal)

-- ---- pool workqueues

pub pwqs_applied : (s : Layout) (past : List Entry) (f : Effect) (l new : PwqState) (wide : ℕ → ℕ) → IsEffect s past f
    → Limits s → IsLegal s past → ArePwqsOf s past l →
    ArePassed s past f.entry (pwqs_after_opening f.opened (pwqs_after_end f.ended l)) new wide
    → ArePwqsOf s (f.entry ∷ past) new × (new.activated ≡ newly_active s past f.entry)
pwqs_applied s past f l new wide is limits before are passed =
    let mid = (pwqs_ended s past f.entry is.legal limits.cpus.1 l are before).0 in
    let ready = (pwqs_opened s past f.entry is.legal limits.cpus.1 (pwqs_after_end (ending past f.entry) l) mid).0 in
    let same : pwqs_after_opening f.opened (pwqs_after_end f.ended l)
    ≡ pwqs_after_opening (opening past f.entry) (pwqs_after_end (ending past f.entry) l) =
    ap₂ (λ o x. pwqs_after_opening o (pwqs_after_end x l)) is.opened is.ended in
    pwqs_passed s past f.entry is.legal limits.cpus.1
    (pwqs_after_opening (opening past f.entry) (pwqs_after_end (ending past f.entry) l)) new wide ready
    (subst (λ m. ArePassed s past f.entry m new wide) same passed)

-- ---- and each part takes it

pub open_there : (s : Layout) (past : List Entry) (f : Effect) (x : Queueing) → IsEffect s past f → IsLegal s past
    → f.ended ≡ Some x → places.IsQueueingThere s x
open_there s past f x is before h =
    open_are_there s past x before
    (in_contained (still_open past) x (found (is_ended past f.entry) (still_open past) x (sym is.ended ∙ h)).0)

pub may_cancel : (s : Layout) (past : List Entry) (f : Effect) (old : List PoolState) → IsEffect s past f
    → IsLegal s past → length old ≡ 2 * s.cpus → MayCancelInPools f.ended s.queues old
may_cancel s past f old is before many = grind (arith, open_there)

pub may_end_books : (s : Layout) (past : List Entry) (f : Effect) (old : FlushState) → IsEffect s past f
    → IsLegal s past → AreBooks s past old → MayEndInBooks f.ended old
may_end_books s past f old is before are = by f.ended refl
  where
    of_item : MayEndInNumbers f.ended old.opened
    of_item = rw (is.ended, are.numbers) (entries_apply_to_numbers s past f.entry is.legal).ended

    by : (o : Option Queueing) → f.ended ≡ o → MayEndInBooks o old
    by None h = tt
    by (Some x) h =
        let there = open_there s past f x is before h in
        let q = x.place.queue.0 in
        let may =
        (entries_apply_to_flushes s past f.entry q (book_in old.books q) is.legal (are.each q there.queue)).ended in
        let same : ending past f.entry ≡ Some x = sym is.ended ∙ h in
        let mine = subst (λ o. MayEndInFlushes o q (book_in old.books q)) same may in
        record {
          queue = rw are.many there.queue;
          on = mine (eq-eqb q q refl);
          of =
              subst (λ o. MayEndInNumbers o old.opened) h of_item;
        }

pub may_open_books : (s : Layout) (past : List Entry) (f : Effect) (old mid : FlushState)
    → length past < 9223372036854775808 → IsEffect s past f → AreBooks s past old
    → EachBook (flushes_after_end f.ended) old mid → mid.opened ≡ numbers_after_end f.ended old.opened
    → MayOpenInBooks f.opened mid
may_open_books s past f old mid few is are applied ended = by f.opened refl
  where
    of_item : MayOpenInNumbers f.opened mid.opened
    of_item = rw (ended, is.opened, is.ended, are.numbers) (entries_apply_to_numbers s past f.entry is.legal).opened

    book_is : (q : ℕ) → book_in mid.books q ≡ flushes_after_end (ending past f.entry) q (book_in old.books q)
    book_is q = applied.each q ∙ ap (λ o. flushes_after_end o q (book_in old.books q)) is.ended

    -- the number comes after all that were opened, of whichever queue
    latest : (n : ℕ) → n ≡ length past → All (λ b. b.next ≤ n) mid.books
    latest n number k d lt =
        let many = are.many in
        let size = applied.many in
        let here : get_or mid.books k d ≡ book_in mid.books k = get_or_default mid.books k d no_book lt in
        let next : (get_or mid.books k d).next ≡ (book_in old.books k).next =
        ap (λ (b : FlushBook). b.next) (here ∙ book_is k)
        ∙ ended_next (ending past f.entry) k (book_in old.books k) in
        let le = (are.each k (omega arith)).next in
        omega arith

    by : (o : Option Queueing) → f.opened ≡ o → MayOpenInBooks o mid
    by None h = tt
    by (Some x) h =
        let same : opening past f.entry ≡ Some x = sym is.opened ∙ h in
        let there = opened_are_there s past f.entry x is.legal same in
        let q = x.place.queue.0 in
        let may =
        (entries_apply_to_flushes s past f.entry q (book_in old.books q) is.legal
        (are.each q there.queue)).opened in
        let mine =
        subst (λ o. MayOpenInFlushes o q (flushes_after_end (ending past f.entry) q (book_in old.books q))) same
        may in
        let number : x.number ≡ length past = opening_number past f.entry x same in
        let item = subst (λ o. MayOpenInNumbers o mid.opened) h of_item in (
          record {
            queue = rw (applied.many, are.many) there.queue;
            can = rw (book_is q) (mine (eq-eqb q q refl));
            latest = latest x.number number;
            item = item.0;
            one = item.1;
          },
          omega arith,
        )

set_by : (e : Entry) (past : List Entry) (rows : TimerRows) (b : Bool) → settles e.reply ≡ b
    → MayBeSet (item_of e) (booking_of e (length past)) rows
    → MayBeSet (if b then item_of e else None) (booking_of e (length past)) rows
set_by e past rows b h may = grind arith

pub may_set_timers : (s : Layout) (past : List Entry) (f : Effect) → IsEffect s past f
    → MayBeSet (item_number f.settled) f.booked (timers_of s past)
may_set_timers s past f is =
    rw (is.settled, is.booked)
    (set_by f.entry past (timers_of s past) (settles f.entry.reply) refl (timers_may_be_set s past f.entry is.legal))

-- ---- waits

queue_there : (s : Layout) (q : ℕ) → nat_lt q (length s.queues) ≡ true → (n : ℕ) → n ≡ length s.queues → q < n
queue_there s q h n many = rw many (ltb-true q (length s.queues) h)

pub may_be_done : (s : Layout) (past : List Entry) (f : Effect) (old mid late : FlushState) → IsEffect s past f
    → IsLegal s past → AreBooks s past old → EachBook (flushes_after_end f.ended) old mid
    → EachBook (flushes_after_opening f.opened) mid late → MayBeDoneInBooks f.done late
may_be_done s past f old mid late is before are first second = by f.done refl
  where
    many : length late.books ≡ length s.queues
    many = second.many ∙ (first.many ∙ are.many)

    may : (t : Ticket) (q : ℕ) → f.done ≡ Some t → q < length s.queues
        → MayBeDoneInFlushes (Some t) q (book_in late.books q)
    may t q h here =
        let applied : book_in late.books q ≡ flushes_after_queueings past f.entry q (book_in old.books q) =
        second.each q
        ∙ ap₂ (λ o b. flushes_after_opening o q b) is.opened
        (first.each q ∙ ap (λ o. flushes_after_end o q (book_in old.books q)) is.ended) in
        let m = (entries_apply_to_flushes s past f.entry q (book_in old.books q) is.legal (are.each q here)).done in
        rw applied
        (subst (λ o. MayBeDoneInFlushes o q (flushes_after_queueings past f.entry q (book_in old.books q)))
        (sym is.done ∙ h) m)

    by_call : (t : Ticket) → f.done ≡ Some t → (c : Call) → t.call ≡ c → has_numbers s c ≡ true
        → MayEndFlush c t.number late
    by_call t h (call.Flush q) same fit =
        let here = queue_there s q.0 fit (length s.queues) refl in let m =
        may t q.0 h here (ap (flushes_queue q.0) same ∙ eq-eqb q.0 q.0 refl) in
        (rw many here, m.0, m.1)
    by_call t h c same fit = tt

    by : (o : Option Ticket) → f.done ≡ o → MayBeDoneInBooks o late
    by None h = tt
    by (Some t) h =
        by_call t h t.call refl
        (unended_fit s past t before (ended_ready s past f.entry t is.legal (sym is.done ∙ h)).stands)

pub may_begin : (s : Layout) (past : List Entry) (f : Effect) (old mid late end : FlushState) → IsEffect s past f
    → AreBooks s past old → EachBook (flushes_after_end f.ended) old mid
    → EachBook (flushes_after_opening f.opened) mid late → EachBook (flushes_after_done f.done) late end
    → MayBeginInBooks f.begun end
may_begin s past f old mid late end is are first second third = by f.begun refl
  where
    many : length end.books ≡ length old.books
    many = third.many ∙ (second.many ∙ first.many)

    applied : (q : ℕ)
        → book_in end.books q
        ≡ flushes_after_done (ticket_ended past f.entry) q
        (flushes_after_queueings past f.entry q (book_in old.books q))
    applied q =
        third.each q
        ∙ ap₂ (λ o b. flushes_after_done o q b) is.done
        (second.each q
        ∙ ap₂ (λ o b. flushes_after_opening o q b) is.opened
        (first.each q ∙ ap (λ o. flushes_after_end o q (book_in old.books q)) is.ended))

    latest : (t : Ticket) (q : ℕ) → f.begun ≡ Some t → q < length s.queues
        → MayBeginInFlushes (Some t) q (book_in end.books q)
    latest t q h here =
        let m = (entries_apply_to_flushes s past f.entry q (book_in old.books q) is.legal (are.each q here)).begun in
        rw (applied q)
        (subst (λ o.
        MayBeginInFlushes o q
        (flushes_after_done (ticket_ended past f.entry) q
        (flushes_after_queueings past f.entry q (book_in old.books q)))) (sym is.begun ∙ h) m)

    room : (t : Ticket) → f.begun ≡ Some t → overflow_count end.books < end.room
    room t h =
        let begun : AreBegun s past f.entry old.books end.books =
        record { many = many; before = λ q there. are.each q (rw (← are.many) there); after = applied } in
        let less = given_flushes_have_room s past f.entry t old.books end.books is.legal (sym is.begun ∙ h) begun in
        rw (third.room ∙ (second.room ∙ (first.room ∙ are.room))) less

    by_call : (t : Ticket) → f.begun ≡ Some t → (c : Call) → t.call ≡ c → has_numbers s c ≡ true
        → MayBeginFlush c t.number end
    by_call t h (call.Flush q) same fit =
        let here = queue_there s q.0 fit (length s.queues) refl in (
          rw (many, are.many) here,
          record {
            latest = latest t q.0 h here (ap (flushes_queue q.0) same ∙ eq-eqb q.0 q.0 refl);
            room =
                room t h;
          },
        )
    by_call t h c same fit = tt

    by : (o : Option Ticket) → f.begun ≡ o → MayBeginInBooks o end
    by None h = tt
    by (Some t) h =
        by_call t h t.call refl (ap (has_numbers s) (ticket_in_is f.entry (length past) t (sym is.begun ∙ h)).call
        ∙ numbers_fit s past f.entry is.legal)

-- ---- what waits

pub may_end_in_pwqs : (s : Layout) (past : List Entry) (f : Effect) (l : PwqState) → IsEffect s past f → Limits s
    → IsLegal s past → ArePwqsOf s past l → MayEndInPwqs f.ended l
may_end_in_pwqs s past f l is limits before are =
    rw is.ended (pwqs_ended s past f.entry is.legal limits.cpus.1 l are before).1

pub pwqs_ready : (s : Layout) (past : List Entry) (f : Effect) (l : PwqState) → IsEffect s past f → Limits s
    → IsLegal s past → ArePwqsOf s past l →
    IsReadyToPass s past f.entry (pwqs_after_opening f.opened (pwqs_after_end f.ended l))
    × MayOpenInPwqs f.opened (pwqs_after_end f.ended l)
pwqs_ready s past f l is limits before are =
    let mid = (pwqs_ended s past f.entry is.legal limits.cpus.1 l are before).0 in
    rw (is.opened, is.ended)
    (pwqs_opened s past f.entry is.legal limits.cpus.1 (pwqs_after_end (ending past f.entry) l) mid)

-- ---- widths

pub may_set_width : (s : Layout) (past : List Entry) (f : Effect) (most : List ℕ) → IsEffect s past f
    → length most ≡ length s.queues → MaySetWidth f.entry.call most
may_set_width s past f most is many = grind (arith, numbers_fit, queue_there)

-- ---- the pass, as it is called

pub passed_by : (s : Layout) (past : List Entry) (f : Effect) (l : PwqState) (queues : List QueueShape) (most : List ℕ)
    (frozen : Bool) (new : PwqState) → queues ≡ s.queues → AreWidths s (f.entry ∷ past) most frozen
    → IsPassed (width_by queues most frozen) (pwqs_after_opening f.opened (pwqs_after_end f.ended l)) new
    → ArePassed s past f.entry (pwqs_after_opening f.opened (pwqs_after_end f.ended l)) new
    (width_by s.queues most frozen)
passed_by s past f l queues most frozen new those are passed = grind (arith, widths_are)

pub may_pass : (s : Layout) (past : List Entry) (f : Effect) (l : PwqState) (queues : List QueueShape)
    → IsEffect s past f → Limits s → IsLegal s past → ArePwqsOf s past l → queues ≡ s.queues →
    ArePlaced (length queues) (pwqs_after_opening f.opened (pwqs_after_end f.ended l)).waiting
may_pass s past f l queues is limits before pwqs those = rw those
    (are_placed s past f.entry is.legal limits.cpus.1 (pwqs_after_opening f.opened (pwqs_after_end f.ended l))
    (pwqs_ready s past f l is limits before pwqs).0)

pub may_have_run : (s : Layout) (past : List Entry) (f : Effect) (l : PwqState) → IsEffect s past f → IsLegal s past
    → ArePwqsOf s past l → is_some (number_finished f.entry.reply) ≡ true → IfSome f.ended (λ x. is_waiting l x ≡ false)
may_have_run s past f l is before pwqs h = rw is.ended (finished_waits_not s past f.entry l is.legal before pwqs h)

pub may_be_placed : (s : Layout) (past : List Entry) (f : Effect) (queues : List QueueShape) → IsEffect s past f
    → Limits s → IsLegal s past → queues ≡ s.queues → IsPlacedIf (length queues) f.ended
    × IsPlacedIf (length queues) f.opened
may_be_placed s past f queues is limits before those =
    rw those (
      ended_placed s past f.entry f.ended before limits.cpus.1 (sym is.ended),
      opened_placed s past f.entry f.opened is.legal limits.cpus.1 (sym is.opened),
    )

-- ---- flights and tickets

pub may_end_flights : (s : Layout) (past : List Entry) (f : Effect) → IsEffect s past f
    → MayEndInFlight f.entry.reply f.ended (flights_of s past)
may_end_flights s past f is = rw is.ended (entries_apply_to_flights s past f.entry is.legal).ended

pub may_start_flights : (s : Layout) (past : List Entry) (f : Effect) → IsEffect s past f
    → MayStartInFlight f.started (flights_after_end f.entry.reply f.ended (flights_of s past))
may_start_flights s past f is = rw (is.ended, is.started) (entries_apply_to_flights s past f.entry is.legal).started

pub may_open_flights : (s : Layout) (past : List Entry) (f : Effect) → IsEffect s past f
    → MayOpenInFlight f.opened
    (flights_after_start f.started (flights_after_end f.entry.reply f.ended (flights_of s past)))
may_open_flights s past f is =
    rw (is.ended, is.started, is.opened) (entries_apply_to_flights s past f.entry is.legal).opened

pub may_end_tickets : (s : Layout) (past : List Entry) (f : Effect) → IsEffect s past f
    → MayEndTicket f.done (tickets_of s past)
may_end_tickets s past f is = rw is.done (entries_apply_to_tickets s past f.entry is.legal).ended

pub may_give_tickets : (s : Layout) (past : List Entry) (f : Effect) → IsEffect s past f
    → MayGiveTicket f.begun (tickets_after_end f.done (tickets_of s past))
may_give_tickets s past f is = rw (is.done, is.begun) (entries_apply_to_tickets s past f.entry is.legal).given

pub may_lose_queue : (s : Layout) (past : List Entry) (f : Effect) (gone : List Bool) → IsEffect s past f
    → IsLegal s past → AreGone s past gone → MayLoseQueue f.done gone
may_lose_queue s past f gone is before are =
    subst (λ o. MayLoseQueue o gone) (sym is.done) (may_lose_destroyed s past f.entry gone is.legal before are)
