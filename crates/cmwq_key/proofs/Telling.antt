-- What is told of a stand is told apart again: what of two stands with the same key is the same.
use Rattle.std.proofs.Common.{ℕ, ◌≡◌, true, false, List, [], ◌∷◌, ◌++◌, length, ap, sym, ◌∙◌, append_assoc}
use Rattle.std.proofs.Common.{Option, Some, None}
use Rattle.std.specs.Prelude.{is_some}
use Rattle.std.specs.List.{AllByRecursion, flat_map, range_with_len}
use Rattle.cmwq_model.specs.Prelude.{Layout, holds_up, is_active, is_asleep, is_enlisted, is_frozen, is_gone}
use Rattle.cmwq_model.specs.Prelude.{max_active, now, run, serving_from, worker_at, worklist}
use Rattle.cmwq_model.specs.declared.call.Call.{Call}
use Rattle.cmwq_model.specs.declared.call.Call.TheVariants as call
use Rattle.cmwq_model.specs.declared.entry.Entry.{Entry}
use Rattle.cmwq_model.specs.declared.id.CallerId.{CallerId}
use Rattle.cmwq_model.specs.declared.id.ItemId.{ItemId}
use Rattle.cmwq_model.specs.declared.id.PoolId.{PoolId}
use Rattle.cmwq_model.specs.declared.id.QueueId.{QueueId}
use Rattle.cmwq_model.specs.declared.id.WorkerId.{WorkerId}
use Rattle.cmwq_model.specs.declared.record.Booking.{Booking}
use Rattle.cmwq_model.specs.declared.record.Place.{Place}
use Rattle.cmwq_model.specs.declared.record.Queueing.{Queueing}
use Rattle.cmwq_model.specs.declared.record.Ticket.{Ticket}
use Rattle.cmwq_json_script.specs.declared.action.Holder.{Holder}
use Rattle.cmwq_json_script.specs.declared.action.Holder.TheVariants as holders
use Rattle.cmwq_kinds.specs.Numbers.{numbers_of_call}
use Rattle.cmwq_kinds.proofs.Apart.{calls_split}
use Rattle.cmwq_key.specs.Alike.{ListsMatch, OptionsMatch}
use Rattle.cmwq_key.specs.Codes.{flag, told_flag, told_list}
use Rattle.cmwq_play.specs.Firsts.{pool_of}
use Rattle.cmwq_key.specs.Keys.{told_booking, told_cpu, told_flush, told_gathered, told_held_up, told_history}
use Rattle.cmwq_key.specs.Keys.{told_lock, told_number, told_pool, told_pools, told_queue, told_queues, told_rank}
use Rattle.cmwq_key.specs.Keys.{told_running, told_slot, told_slots, told_ticket, told_times, told_unstarted}
use Rattle.cmwq_key.specs.Numbered.{Gathered, mark, rank}
use Rattle.cmwq_key.proofs.Splitting.{flags_same, lists_split, rows_split}

-- ---- what is open, unended or booked

module _ (s : Layout) (past other : List Entry) (g h : Gathered) where
  pub record IsSameQueueing (x y : Queueing) : Type 0 where
    pub rank : rank g.numbers x.number ≡ rank h.numbers y.number
    pub item : y.item ≡ x.item
    pub place : y.place ≡ x.place

  pub record IsSameUnstarted (x y : Queueing) : Type 0 where
    pub queueing : IsSameQueueing x y
    pub active : is_active s other y ≡ is_active s past x

  pub record IsSameBooking (b c : Booking) : Type 0 where
    pub rank : rank g.booked b.number ≡ rank h.booked c.number
    pub item : c.item ≡ b.item
    pub place : c.place ≡ b.place
    pub due : c.due ≡ b.due

  same_item : (i j : ItemId) → i.0 ≡ j.0 → j ≡ i
  same_item i j e = ap (λ n. record { 0 = n }) (sym e)

  same_place : (p r : Place) → p.queue.0 ≡ r.queue.0 → p.cpu.0 ≡ r.cpu.0 → r ≡ p
  same_place p r e f =
      let q = sym e in
      let c = sym f in
      ap (λ n. record { queue = record { 0 = n }; cpu = record { 0 = r.cpu.0 } }) q
      ∙ ap (λ n. record { queue = record { 0 = p.queue.0 }; cpu = record { 0 = n } }) c

  running_split : (x y : Queueing) (r t : List ℕ) → told_running g x ++ r ≡ told_running h y ++ t
      → IsSameQueueing x y × (r ≡ t)
  running_split x y r t e =
      let ranks : rank g.numbers x.number ≡ rank h.numbers y.number = cc in
      let items : x.item.0 ≡ y.item.0 = cc in
      let queues : x.place.queue.0 ≡ y.place.queue.0 = cc in
      let cpus : x.place.cpu.0 ≡ y.place.cpu.0 = cc in
      let rest : r ≡ t = cc in (
        record { rank = ranks; item = same_item x.item y.item items; place = same_place x.place y.place queues cpus },
        rest,
      )

  unstarted_split : (x y : Queueing) (r t : List ℕ) → told_unstarted s past g x ++ r ≡ told_unstarted s other h y ++ t
      → IsSameUnstarted x y × (r ≡ t)
  unstarted_split x y r t e =
      let ranks : rank g.numbers x.number ≡ rank h.numbers y.number = cc in
      let items : x.item.0 ≡ y.item.0 = cc in
      let queues : x.place.queue.0 ≡ y.place.queue.0 = cc in
      let cpus : x.place.cpu.0 ≡ y.place.cpu.0 = cc in
      let actives : flag (is_active s past x) ≡ flag (is_active s other y) = cc in
      let rest : r ≡ t = cc in (
        record {
          queueing = record
              { rank = ranks; item = same_item x.item y.item items; place = same_place x.place y.place queues cpus };
          active = sym (flags_same (is_active s past x) (is_active s other y) actives);
        },
        rest,
      )

  booking_split : (b c : Booking) (r t : List ℕ) → told_booking g b ++ r ≡ told_booking h c ++ t
      → IsSameBooking b c × (r ≡ t)
  booking_split b c r t e =
      let ranks : rank g.booked b.number ≡ rank h.booked c.number = cc in
      let items : b.item.0 ≡ c.item.0 = cc in
      let queues : b.place.queue.0 ≡ c.place.queue.0 = cc in
      let cpus : b.place.cpu.0 ≡ c.place.cpu.0 = cc in
      let dues : b.due ≡ c.due = cc in
      let rest : r ≡ t = cc in (
        record {
          rank = ranks;
          item = same_item b.item c.item items;
          place = same_place b.place c.place queues cpus;
          due = sym dues;
        },
        rest,
      )

  -- ---- tickets: a flush is held up by the same

  abbrev pub AreHeldAlike : Ticket → Ticket → Call → Queueing → Queueing → Type 0
  AreHeldAlike t u c x y = holds_up other u.number u.call y ≡ holds_up past t.number t.call x

  pub record IsSameFlush (q : QueueId) (t u : Ticket) : Type 0 where
    pub served : is_some (serving_from other q.0 u.number) ≡ is_some (serving_from past q.0 t.number)
    pub unstarted : ListsMatch (AreHeldAlike t u t.call) g.unstarted h.unstarted
    pub running : ListsMatch (AreHeldAlike t u t.call) g.running h.running

  abbrev pub AreFlushesAlike : Ticket → Ticket → Call → Type 0
  AreFlushesAlike t u (call.Flush q) = IsSameFlush q t u
  AreFlushesAlike t u c = Unit {0}

  pub record IsSameTicket (t u : Ticket) : Type 0 where
    pub rank : rank g.numbers t.number ≡ rank h.numbers u.number
    pub caller : u.caller ≡ t.caller
    pub call : u.call ≡ t.call
    pub flush : AreFlushesAlike t u t.call

  held_split : (t u : Ticket) (xs ys : List Queueing) (r v : List ℕ)
      → told_held_up past t xs ++ r ≡ told_held_up other u ys ++ v
      → ListsMatch (AreHeldAlike t u t.call) xs ys × (r ≡ v)
  unfolding told_held_up
  held_split t u xs ys r v e =
      lists_split (AreHeldAlike t u t.call) (λ (x : Queueing). told_flag (holds_up past t.number t.call x))
      (λ (y : Queueing). told_flag (holds_up other u.number u.call y))
      (λ x y a b same.
      let flags : flag (holds_up past t.number t.call x) ≡ flag (holds_up other u.number u.call y) = cc in
      let rest : a ≡ b = cc in
      (sym (flags_same (holds_up past t.number t.call x) (holds_up other u.number u.call y) flags), rest)) xs ys r v e

  flush_split : (t u : Ticket) (c : Call) (r v : List ℕ) → told_flush past g t c ++ r ≡ told_flush other h u c ++ v
      → AreFlushesAlike t u c × (r ≡ v)
  unfolding told_flush
  flush_split t u (call.Flush q) r v e =
      let flags : flag (is_some (serving_from past q.0 t.number))
      ≡ flag (is_some (serving_from other q.0 u.number)) = cc in
      let both : (told_held_up past t g.unstarted ++ told_held_up past t g.running) ++ r
      ≡ (told_held_up other u h.unstarted ++ told_held_up other u h.running) ++ v = cc in
      let apart =
      sym (append_assoc (told_held_up past t g.unstarted) (told_held_up past t g.running) r) ∙ both
      ∙ append_assoc (told_held_up other u h.unstarted) (told_held_up other u h.running) v in
      let first = held_split t u g.unstarted h.unstarted (told_held_up past t g.running ++ r)
      (told_held_up other u h.running ++ v) apart in
      let second = held_split t u g.running h.running r v first.1 in (
        record {
          served = sym
              (flags_same (is_some (serving_from past q.0 t.number)) (is_some (serving_from other q.0 u.number)) flags);
          unstarted = first.0;
          running = second.0;
        },
        second.1,
      )
  flush_split t u c r v e = (tt, e)

  ticket_split : (t u : Ticket) (r v : List ℕ) → told_ticket past g t ++ r ≡ told_ticket other h u ++ v
      → IsSameTicket t u × (r ≡ v)
  ticket_split t u r v e =
      let ranks : rank g.numbers t.number ≡ rank h.numbers u.number = cc in
      let callers : t.caller.0 ≡ u.caller.0 = cc in
      let both : (numbers_of_call t.call ++ told_flush past g t t.call) ++ r
      ≡ (numbers_of_call u.call ++ told_flush other h u u.call) ++ v = cc in
      let apart =
      sym (append_assoc (numbers_of_call t.call) (told_flush past g t t.call) r) ∙ both
      ∙ append_assoc (numbers_of_call u.call) (told_flush other h u u.call) v in
      let calls = calls_split t.call u.call (told_flush past g t t.call ++ r) (told_flush other h u u.call ++ v)
      apart in
      let flush = flush_split t u t.call r v (calls.1 ∙ ap (λ c. told_flush other h u c ++ v) calls.0) in (
        record {
          rank = ranks;
          caller = ap (λ n. record { 0 = n }) (sym callers);
          call = calls.0;
          flush = flush.0;
        },
        flush.1,
      )

  -- ---- queues, pools and workers

  pub record IsSameQueue (q : ℕ) : Type 0 where
    pub gone : is_gone other q ≡ is_gone past q
    pub width : max_active s other q ≡ max_active s past q

  queue_split : (q : ℕ) (r t : List ℕ) → told_queue s past q ++ r ≡ told_queue s other q ++ t
      → IsSameQueue q × (r ≡ t)
  queue_split q r t e =
      let flags : flag (is_gone past q) ≡ flag (is_gone other q) = cc in
      let widths : max_active s past q ≡ max_active s other q = cc in
      let rest : r ≡ t = cc in
      (record { gone = sym (flags_same (is_gone past q) (is_gone other q) flags); width = sym widths }, rest)

  pub record IsSameSlot (w : WorkerId) : Type 0 where
    pub run : mark g.numbers (run past w) ≡ mark h.numbers (run other w)
    pub asleep : is_asleep other w ≡ is_asleep past w
    pub enlisted : is_enlisted other w ≡ is_enlisted past w

  slot_split : (w : WorkerId) (r t : List ℕ) → told_slot past g w ++ r ≡ told_slot other h w ++ t
      → IsSameSlot w × (r ≡ t)
  slot_split w r t e =
      let marks : mark g.numbers (run past w) ≡ mark h.numbers (run other w) = cc in
      let sleeps : flag (is_asleep past w) ≡ flag (is_asleep other w) = cc in
      let enlists : flag (is_enlisted past w) ≡ flag (is_enlisted other w) = cc in
      let rest : r ≡ t = cc in (
        record {
          run = marks;
          asleep = sym (flags_same (is_asleep past w) (is_asleep other w) sleeps);
          enlisted = sym (flags_same (is_enlisted past w) (is_enlisted other w) enlists);
        },
        rest,
      )

  abbrev pub AreListedAlike : Queueing → Queueing → Type 0
  AreListedAlike x y = rank g.numbers x.number ≡ rank h.numbers y.number

  pub record IsSamePool (p : PoolId) : Type 0 where
    pub listed : ListsMatch AreListedAlike (worklist s past p) (worklist s other p)
    pub slots : AllByRecursion (λ k. IsSameSlot (worker_at p k)) (range_with_len 0 s.workers)

  listed_split : (x y : Queueing) (r t : List ℕ) → told_rank g x ++ r ≡ told_rank h y ++ t
      → AreListedAlike x y × (r ≡ t)
  listed_split x y r t e =
      let ranks : rank g.numbers x.number ≡ rank h.numbers y.number = cc in
      let rest : r ≡ t = cc in
      (ranks, rest)

  pool_split : (p : PoolId) (r t : List ℕ) → told_pool s past g p ++ r ≡ told_pool s other h p ++ t
      → IsSamePool p × (r ≡ t)
  pool_split p r t e =
      let apart =
      sym (append_assoc (told_list (told_rank g) (worklist s past p)) (told_slots s past g p) r) ∙ e
      ∙ append_assoc (told_list (told_rank h) (worklist s other p)) (told_slots s other h p) t in
      let first =
      lists_split AreListedAlike (told_rank g) (told_rank h) listed_split (worklist s past p) (worklist s other p)
      (told_slots s past g p ++ r) (told_slots s other h p ++ t) apart in
      let second =
      rows_split (λ k. IsSameSlot (worker_at p k)) (λ k. told_slot past g (worker_at p k))
      (λ k. told_slot other h (worker_at p k)) (λ k. slot_split (worker_at p k)) (range_with_len 0 s.workers) r t
      first.1 in
      (record { listed = first.0; slots = second.0 }, second.1)

  abbrev pub AreSamePools : ℕ → Type 0
  AreSamePools cpu = IsSamePool (pool_of cpu false) × IsSamePool (pool_of cpu true)

  cpu_split : (cpu : ℕ) (r t : List ℕ) → told_cpu s past g cpu ++ r ≡ told_cpu s other h cpu ++ t
      → AreSamePools cpu × (r ≡ t)
  cpu_split cpu r t e =
      let apart =
      sym (append_assoc (told_pool s past g (pool_of cpu false)) (told_pool s past g (pool_of cpu true)) r) ∙ e
      ∙ append_assoc (told_pool s other h (pool_of cpu false)) (told_pool s other h (pool_of cpu true)) t in
      let first =
      pool_split (pool_of cpu false) (told_pool s past g (pool_of cpu true) ++ r)
      (told_pool s other h (pool_of cpu true) ++ t) apart in
      let second = pool_split (pool_of cpu true) r t first.1 in
      ((first.0, second.0), second.1)

  -- ---- the whole history

  pub record IsSameHistory : Type 0 where
    pub long : length other ≡ length past
    pub time : now other ≡ now past
    pub frozen : is_frozen other ≡ is_frozen past
    pub unstarted : ListsMatch IsSameUnstarted g.unstarted h.unstarted
    pub running : ListsMatch IsSameQueueing g.running h.running
    pub tickets : ListsMatch IsSameTicket g.tickets h.tickets
    pub bookings : ListsMatch IsSameBooking g.bookings h.bookings
    pub queues : AllByRecursion IsSameQueue (range_with_len 0 (length s.queues))
    pub pools : AllByRecursion AreSamePools (range_with_len 0 s.cpus)

  four : (a b c d r : List ℕ) → (a ++ b ++ c ++ d) ++ r ≡ a ++ (b ++ (c ++ (d ++ r)))
  four a b c d r = simp append_assoc

  pub history_split : (r t : List ℕ) → told_history s past g ++ r ≡ told_history s other h ++ t
      → IsSameHistory × (r ≡ t)
  unfolding told_history told_gathered told_queues told_pools
  history_split r t e =
      let apart =
      sym (four (told_times past) (told_gathered s past g) (told_queues s past) (told_pools s past g) r) ∙ e
      ∙ four (told_times other) (told_gathered s other h) (told_queues s other) (told_pools s other h) t in
      let longs : length past ≡ length other = cc in
      let times : now past ≡ now other = cc in
      let frozen : flag (is_frozen past) ≡ flag (is_frozen other) = cc in
      let rest : told_gathered s past g ++ (told_queues s past ++ (told_pools s past g ++ r))
      ≡ told_gathered s other h ++ (told_queues s other ++ (told_pools s other h ++ t)) = cc in
      let lists =
      sym (four (told_list (told_unstarted s past g) g.unstarted) (told_list (told_running g) g.running)
      (told_list (told_ticket past g) g.tickets) (told_list (told_booking g) g.bookings)
      (told_queues s past ++ (told_pools s past g ++ r))) ∙ rest
      ∙ four (told_list (told_unstarted s other h) h.unstarted) (told_list (told_running h) h.running)
      (told_list (told_ticket other h) h.tickets) (told_list (told_booking h) h.bookings)
      (told_queues s other ++ (told_pools s other h ++ t)) in
      let unstarted =
      lists_split IsSameUnstarted (told_unstarted s past g) (told_unstarted s other h) unstarted_split g.unstarted
      h.unstarted _ _ lists in
      let running =
      lists_split IsSameQueueing (told_running g) (told_running h) running_split g.running h.running _ _ unstarted.1 in
      let tickets =
      lists_split IsSameTicket (told_ticket past g) (told_ticket other h) ticket_split g.tickets h.tickets _ _
      running.1 in
      let bookings =
      lists_split IsSameBooking (told_booking g) (told_booking h) booking_split g.bookings h.bookings _ _ tickets.1 in
      let queues =
      rows_split IsSameQueue (told_queue s past) (told_queue s other) queue_split (range_with_len 0 (length s.queues))
      _ _
      bookings.1 in
      let pools =
      rows_split AreSamePools (told_cpu s past g) (told_cpu s other h) cpu_split (range_with_len 0 s.cpus) _ _
      queues.1 in (
        record {
          long = sym longs;
          time = sym times;
          frozen = sym (flags_same (is_frozen past) (is_frozen other) frozen);
          unstarted = unstarted.0;
          running = running.0;
          tickets = tickets.0;
          bookings = bookings.0;
          queues = queues.0;
          pools = pools.0;
        },
        pools.1,
      )
