-- What is opened and what is waited for is of items, queues and CPUs that the layout has.
use Rattle.cmwq_refinement.specs.Common.{◌≡◌, ◌<◌, ℕ, true, List, [], ◌∷◌, length, Option, Some, None, refl, sym, ap}
use Rattle.cmwq_refinement.specs.Common.{◌∙◌, subst, option_map, Contains, option_map_or, AllByRecursion, same_Some}
use Rattle.cmwq_refinement.specs.Common.{Call, Entry, Booking, Queueing, Start, Ticket, Layout, has_numbers, booking}
use Rattle.cmwq_refinement.specs.Common.{item_run, queueings, has_number, is_live, still_open, opening, place_called}
use Rattle.cmwq_refinement.specs.Common.{place_booked, place_wanted, cpu_for, queued_at, tickets, unended_tickets}
use Rattle.cmwq_refinement.specs.Common.{is_unended, ticket_in, IsLegal, opening_item, items_are_run, runs_are_in_pools}
use Rattle.cmwq_refinement.specs.Common.{arith}
use Rattle.cmwq_refinement.proofs.Numbers.{In, all_more, contained_in, found, in_filter, of_in}
use Rattle.cmwq_model.specs.declared.id.CpuId.{CpuId}
use Rattle.cmwq_model.specs.declared.record.Place.{Place}
use Rattle.cmwq_model.specs.declared.call.Call.TheVariants as call
use Rattle.cmwq_theory_steps.proofs.Pending.{opening_opens}
use Rattle.cmwq_theory_steps.proofs.StateSteps.{opens_as_asked}
use Rattle.cmwq_refinement.specs.Places.{IsQueueingThere}
use Rattle.cmwq_refinement.proofs.Settled.{numbers_fit, place_fits}
use Rattle.cmwq_refinement.proofs.FirstDue.{in_standing, standing_fits, entries_apply_to_timers}
use Rattle.cmwq_refinement.proofs.TicketSteps.{ticket_in_is}

record IsPlaceOf (s : Layout) (p : Place) : Type 0 where
  queue : p.queue.0 < length s.queues
  cpu : p.cpu.0 < s.cpus

-- ---- the place that is asked for

called_there : (s : Layout) (c : Call) (p : Place) → has_numbers s c ≡ true → place_called c ≡ Some p → IsPlaceOf s p
called_there s (call.Queue i q c) p fits h = grind (arith, place_fits s i.0 q.0 c.0 fits, h)
called_there s (call.Delay i q c t) p fits h = grind (arith, place_fits s i.0 q.0 c.0 fits, h)
called_there s (call.Modify i q c t) p fits h = grind (arith, place_fits s i.0 q.0 c.0 fits, h)
called_there s c p fits h = cc

booked_there : (s : Layout) (past : List Entry) (i : ℕ) (p : Place) → IsLegal s past → place_booked past i ≡ Some p
    → IsPlaceOf s p
booked_there s past i p legal h = by (booking past i) refl h
  where
    by : (o : Option Booking) → booking past i ≡ o → option_map (λ (b : Booking). b.place) o ≡ Some p → IsPlaceOf s p
    by None is k = cc
    by (Some b) is k = grind (arith, standing_fits s past b legal (in_standing past i b is), k)

wanted_there : (s : Layout) (past : List Entry) (c : Call) (i : ℕ) (p : Place) → IsLegal s past → has_numbers s c ≡ true
    → place_wanted past c i ≡ Some p → IsPlaceOf s p
wanted_there s past c i p legal fits h = grind (arith, booked_there s past i p legal, called_there s c p fits, h)

-- ---- the CPU where the item runs, or the one that is asked for

abbrev AllThere : Layout → List Entry → Type 0
AllThere s past = AllByRecursion (IsQueueingThere s) (queueings past)

cpu_there : (s : Layout) (past : List Entry) (i : ℕ) (c : CpuId) → IsLegal s past → AllThere s past → c.0 < s.cpus
    → (cpu_for past i c).0 < s.cpus
cpu_there s past i c legal there less = by (item_run past i) refl
  where
    by : (o : Option Start) → item_run past i ≡ o
        → (option_map_or (λ (start : Start). start.worker.pool.cpu) o c).0 < s.cpus
    by None is = less
    by (Some start) is =
        let runs = items_are_run s past i start legal is in
        let r = runs_are_in_pools s past start.worker start.number legal runs.0 in
        let made = (found (has_number start.number) (queueings past) r.queueing r.found).0 in
        subst (λ p. p.cpu.0 < s.cpus) r.pool (of_in (IsQueueingThere s) (queueings past) r.queueing there made).cpu

opened_fits : (s : Layout) (past : List Entry) (e : Entry) (x : Queueing) → IsLegal s (e ∷ past) → AllThere s past
    → opening past e ≡ Some x → IsQueueingThere s x
unfolding IsLegal
opened_fits s past e x legal there h =
    let k = opens_as_asked s past e legal (opening_opens past e x h) in
    let same : queued_at past k.item k.place ≡ x = same_Some (queued_at past k.item k.place) x (sym k.opened ∙ h) in
    let place = wanted_there s past e.call k.item k.place legal.2 (numbers_fit s past e legal) k.is_place in
    record {
      item = (entries_apply_to_timers s past e legal).item x.item.0 (opening_item e past x h);
      queue =
          rw (← same) place.queue;
      cpu = rw (← same) (cpu_there s past k.item k.place.cpu legal.2 there place.cpu);
    }

queueings_fit : (s : Layout) (past : List Entry) → IsLegal s past → AllThere s past
unfolding queueings IsLegal
queueings_fit s [] legal = tt
queueings_fit s (e ∷ past) legal =
    all_more (IsQueueingThere s) (queueings past) (opening past e) (queueings_fit s past legal.2)
    (λ x h. opened_fits s past e x legal (queueings_fit s past legal.2) h)

pub opened_are_there : (s : Layout) (past : List Entry) (e : Entry) (x : Queueing) → IsLegal s (e ∷ past)
    → opening past e ≡ Some x → IsQueueingThere s x
unfolding IsLegal
opened_are_there s past e x legal h = opened_fits s past e x legal (queueings_fit s past legal.2) h

pub open_there : (s : Layout) (past : List Entry) (x : Queueing) → IsLegal s past → In x (still_open past)
    → IsQueueingThere s x
open_there s past x legal i =
    of_in (IsQueueingThere s) (queueings past) x (queueings_fit s past legal)
    (in_filter (is_live past) (queueings past) x i).0

pub open_are_there : (s : Layout) (past : List Entry) (x : Queueing) → IsLegal s past → Contains (still_open past) x
    → IsQueueingThere s x
open_are_there s past x legal here = open_there s past x legal (contained_in (still_open past) x here)

-- ---- each ticket is of a call that fits

tickets_fit : (s : Layout) (past : List Entry) → IsLegal s past
    → AllByRecursion (λ t. has_numbers s t.call ≡ true) (tickets past)
unfolding tickets IsLegal
tickets_fit s [] legal = tt
tickets_fit s (e ∷ past) legal =
    all_more (λ t. has_numbers s t.call ≡ true) (tickets past) (ticket_in e (length past)) (tickets_fit s past legal.2)
    (λ t h. ap (has_numbers s) (ticket_in_is e (length past) t h).call ∙ numbers_fit s past e legal)

pub unended_fit : (s : Layout) (past : List Entry) (t : Ticket) → IsLegal s past → In t (unended_tickets past)
    → has_numbers s t.call ≡ true
unended_fit s past t legal i =
    of_in (λ u. has_numbers s u.call ≡ true) (tickets past) t (tickets_fit s past legal)
    (in_filter (is_unended past) (tickets past) t i).0

pub unended_tickets_fit : (s : Layout) (past : List Entry) (t : Ticket) → IsLegal s past
    → Contains (unended_tickets past) t → has_numbers s t.call ≡ true
unended_tickets_fit s past t legal here = unended_fit s past t legal (contained_in (unended_tickets past) t here)
