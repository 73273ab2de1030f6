-- Answers are alike.
use Rattle.std.specs.Prelude.{◌&&◌, ◌==◌, ◌+◌, if◌then◌else◌, nat_le}
use Rattle.cmwq_alike.specs.Common.{◌≡◌, ℕ, Bool, true, false, not, nat_lt, List, length, find, Option, Some, None}
use Rattle.cmwq_alike.specs.Common.{option_map}
use Rattle.cmwq_alike.specs.Common.{arith, refl, sym, ap, ap₂, ◌∙◌, inr, subst, found, nat_tests}
use Rattle.cmwq_alike.specs.Common.{all_in, of_in, In, in_mapped, Entry, Queueing, Start, Ticket, Booking, Layout, Who}
use Rattle.cmwq_alike.specs.Common.{Caller, Worker, WorkerId, Call}
use Rattle.cmwq_alike.specs.Common.{still_open, unended_tickets, IsLegal, run, item_run, waits_for, ticket_of}
use Rattle.cmwq_alike.specs.Common.{is_flush_of, holds_up, waiting_for, end_of_ticket, taken_back_answer}
use Rattle.cmwq_alike.specs.Common.{taken_back_for, start_of, started_answer, fired_answer, is_booked}
use Rattle.cmwq_alike.specs.Common.{unstarted_queueing, is_ticket}
use Rattle.cmwq_model.specs.Prelude.{may_call, is_cancelling, runs_elsewhere, is_shut, own_answer, finished_answer}
use Rattle.cmwq_model.specs.Prelude.{least_waited, is_unstarted, is_pending}
unfoldable use Rattle.cmwq_model.specs.Prelude.{is_gone, now, queue_answer, modify_answer, cancel_answer, wait_answer}
unfoldable use Rattle.cmwq_model.specs.Prelude.{destroy_answer, set_max_answer, flush_item_answer, flush_delayed_answer}
unfoldable use Rattle.cmwq_model.specs.Prelude.{cancel_sync_answer, take_answer, finish_answer, retire_answer, answer}
unfoldable use Rattle.cmwq_model.specs.Prelude.{next, runnable, enlisted_by, may_retire, first_due}
use Rattle.cmwq_model.specs.declared.call.Call.TheVariants as call
use Rattle.cmwq_model.specs.declared.reply.Reply.TheVariants as reply
use Rattle.cmwq_alike.specs.Alike.{queueing_by, start_by, ticket_by, call_by, reply_by, unnumbered, IsAlike}
use Rattle.cmwq_alike.specs.Alike.{IsOpenNumber, IsTicketNumber, IsServedAlike, number_of, ticket_number, Matters}
use Rattle.cmwq_alike.specs.Alike.{next_by, Asks}
use Rattle.cmwq_theory_steps.proofs.Unstarted.{next_unstarted}
use Rattle.cmwq_alike.proofs.Lemmas.{both_parts, find_mapped}
use Rattle.cmwq_alike.proofs.Numbers.{old_stays, new_is, matters_below, open_matters}
use Rattle.cmwq_alike.proofs.Rest.{ticket_found}
use Rattle.cmwq_alike.proofs.Runs.{item_run_open, run_number}
use Rattle.cmwq_alike.proofs.Looks.{may_alike, cancelling_alike, destroyed_alike, crowded_alike, booked_alike}
use Rattle.cmwq_alike.proofs.Looks.{held_back_alike, unstarted_alike, pending_alike, item_open_alike, elsewhere_alike}
use Rattle.cmwq_alike.proofs.Looks.{shut_alike, due_alike, timers_alike, next_alike, runnable_alike, enlisting_alike}
use Rattle.cmwq_alike.proofs.Looks.{retiring_alike, has_alike, awake_alike, asleep_alike}

queue_cases : (g : ℕ → ℕ) (a b c d e h z : Bool) (k n : ℕ)
    → (if not a then reply.Misuse else if b then reply.Gone else if c then reply.No else if d then reply.No
    else if e then reply.Foreign else if h then reply.Draining else if z then reply.Yes (g k) else reply.Booked n)
    ≡ reply_by g (if not a then reply.Misuse else if b then reply.Gone else if c then reply.No else if d then reply.No
    else if e then reply.Foreign else if h then reply.Draining else if z then reply.Yes k else reply.Booked n)
queue_cases g false b c d e h z k n = refl
queue_cases g true true c d e h z k n = refl
queue_cases g true false true d e h z k n = refl
queue_cases g true false false true e h z k n = refl
queue_cases g true false false false true h z k n = refl
queue_cases g true false false false false true z k n = refl
queue_cases g true false false false false false true k n = refl
queue_cases g true false false false false false false k n = refl

modify_cases : (g : ℕ → ℕ) (a b c d e h z : Bool) (k n : ℕ)
    → (if not a then reply.Misuse else if b then reply.Gone else if c then reply.No
    else if e then reply.Foreign else if h then reply.Draining else if d
    then (if z then reply.Again (g k) else reply.Rebooked n)
    else if z then reply.Yes (g k) else reply.Booked n)
    ≡ reply_by g (if not a then reply.Misuse else if b then reply.Gone else if c then reply.No
    else if e then reply.Foreign else if h then reply.Draining else if d
    then (if z then reply.Again k else reply.Rebooked n)
    else if z then reply.Yes k else reply.Booked n)
modify_cases g false b c d e h z k n = refl
modify_cases g true true c d e h z k n = refl
modify_cases g true false true d e h z k n = refl
modify_cases g true false false d true h z k n = refl
modify_cases g true false false d false true z k n = refl
modify_cases g true false false true false false true k n = refl
modify_cases g true false false true false false false k n = refl
modify_cases g true false false false false false true k n = refl
modify_cases g true false false false false false false k n = refl

module _ {s : Layout} {f : ℕ → ℕ} {past other : List Entry} (a : IsAlike s f past other) (legal : IsLegal s past) where
  new : next_by f past other (length past) ≡ length other
  new = new_is f past other

  open_stays : (n : ℕ) → IsOpenNumber past n → next_by f past other n ≡ f n
  open_stays n m = old_stays f past other n (matters_below past n m)

  pub queue_is_alike : (who : Who) (i q t : ℕ)
      → queue_answer other who i q t ≡ reply_by (next_by f past other) (queue_answer past who i q t)
  unfolding queue_answer
  queue_is_alike who i q t =
      rw (
        may_alike a legal who,
        a.gone q,
        cancelling_alike a legal i,
        pending_alike a legal i,
        elsewhere_alike a legal i q,
        shut_alike a legal who q t,
        a.time,
        sym new,
      )
      (queue_cases (next_by f past other) (may_call past who) (is_gone past q) (is_cancelling past i)
      (is_pending past i)
      (runs_elsewhere past i q) (is_shut past who q t) (t == 0) (length past) (now past + t))

  pub modify_is_alike : (who : Who) (i q t : ℕ)
      → modify_answer other who i q t ≡ reply_by (next_by f past other) (modify_answer past who i q t)
  unfolding modify_answer
  modify_is_alike who i q t =
      rw (
        may_alike a legal who,
        a.gone q,
        cancelling_alike a legal i,
        pending_alike a legal i,
        elsewhere_alike a legal i q,
        shut_alike a legal who q t,
        a.time,
        sym new,
      )
      (modify_cases (next_by f past other) (may_call past who) (is_gone past q) (is_cancelling past i)
      (is_pending past i)
      (runs_elsewhere past i q) (is_shut past who q t) (t == 0) (length past) (now past + t))

  unstarted_stays : (i : ℕ) (o : Option Queueing) → unstarted_queueing past i ≡ o
      → option_map (queueing_by f) o ≡ option_map (queueing_by (next_by f past other)) o
  unstarted_stays i None h = refl
  unstarted_stays i (Some x) h =
      ap (λ n. Some (record x { number = n }))
      (sym (open_stays x.number (in_mapped number_of (still_open past) x
      (found (is_unstarted past i) (still_open past) x h).0)))

  taken : (g : ℕ → ℕ) (o : Option Queueing) (b : Bool)
      → taken_back_answer (option_map (queueing_by g) o) b ≡ reply_by g (taken_back_answer o b)
  taken g o b = grind arith

  taken_for : (g : ℕ → ℕ) (k : ℕ) (o : Option Queueing) (b : Bool)
      → taken_back_for (g k) (option_map (queueing_by g) o) b ≡ reply_by g (taken_back_for k o b)
  taken_for g k o b = grind arith

  pub cancel_is_alike : (who : Who) (i : ℕ)
      → cancel_answer other who i ≡ reply_by (next_by f past other) (cancel_answer past who i)
  unfolding cancel_answer
  cancel_is_alike who i =
      rw (
        may_alike a legal who,
        unstarted_alike a legal i ∙ unstarted_stays i (unstarted_queueing past i) refl,
        booked_alike a legal i,
      )
      (grind (arith, taken (next_by f past other) (unstarted_queueing past i) (is_booked past i)))

  pub cancel_sync_is_alike : (who : Who) (i : ℕ)
      → cancel_sync_answer other who i ≡ reply_by (next_by f past other) (cancel_sync_answer past who i)
  unfolding cancel_sync_answer
  cancel_sync_is_alike who i =
      rw (
        crowded_alike a legal who,
        unstarted_alike a legal i ∙ unstarted_stays i (unstarted_queueing past i) refl,
        booked_alike a legal i,
        sym new,
      )
      (grind (arith, taken_for (next_by f past other) (length past) (unstarted_queueing past i) (is_booked past i)))

  pub wait_is_alike : (who : Who) (q : ℕ)
      → wait_answer other who q ≡ reply_by (next_by f past other) (wait_answer past who q)
  unfolding wait_answer
  wait_is_alike who q = rw (a.gone q, crowded_alike a legal who) (grind (arith, new))

  pub destroy_is_alike : (who : Who) (q : ℕ)
      → destroy_answer other who q ≡ reply_by (next_by f past other) (destroy_answer past who q)
  unfolding destroy_answer
  destroy_is_alike who q =
      rw (a.gone q, destroyed_alike a legal q, timers_alike a legal q, crowded_alike a legal who) (grind (arith, new))

  pub set_max_is_alike : (q n : ℕ)
      → set_max_answer other q n ≡ reply_by (next_by f past other) (set_max_answer past q n)
  unfolding set_max_answer
  set_max_is_alike q n = rw (a.gone q) (grind arith)

  pub flush_item_is_alike : (who : Who) (i : ℕ)
      → flush_item_answer other who i ≡ reply_by (next_by f past other) (flush_item_answer past who i)
  unfolding flush_item_answer
  flush_item_is_alike who i = rw (crowded_alike a legal who, item_open_alike a legal i) (grind (arith, new))

  pub flush_delayed_is_alike : (who : Who) (i : ℕ)
      → flush_delayed_answer other who i ≡ reply_by (next_by f past other) (flush_delayed_answer past who i)
  unfolding flush_delayed_answer
  flush_delayed_is_alike who i =
      rw (crowded_alike a legal who, held_back_alike a legal i, booked_alike a legal i, item_open_alike a legal i)
      (grind (arith, new))

  pub fire_is_alike : fired_answer (first_due other) (length other)
      ≡ reply_by (next_by f past other) (fired_answer (first_due past) (length past))
  fire_is_alike = at (first_due other) (first_due past) (due_alike a legal)
    where
      at : (o p : Option Booking) → option_map unnumbered o ≡ option_map unnumbered p
          → fired_answer o (length other) ≡ reply_by (next_by f past other) (fired_answer p (length past))
      at None None h = refl
      at None (Some c) h = absurd (grind arith)
      at (Some b) None h = absurd (grind arith)
      at (Some b) (Some c) h = let same : b.item ≡ c.item = grind arith in ap₂ (λ i n. reply.Fired i n) same (sym new)

  -- ---- ends of tickets
  not_later : (n m : ℕ) → Matters past n → Matters past m → nat_le (f n) (f m) ≡ nat_le n m
  not_later n m hn hm = let q = a.order m n hm hn in at n m (f n) (f m) q
    where
      at : (n m i j : ℕ) → nat_lt j i ≡ nat_lt m n → nat_le i j ≡ nat_le n m
      at n m i j h = grind (arith, nat_tests)

  holds_alike : (t : Ticket) → In t (unended_tickets past) → (x : Queueing) → In x (still_open past) → (c : Call)
      → t.call ≡ c
      → holds_up other (f t.number) c (queueing_by f x) ≡ holds_up past t.number c x
  holds_alike t i x j (call.Flush q) is =
      let flush : is_flush_of q.0 t ≡ true = grind (arith, nat_tests) in
      let h : IsServedAlike f past other q.0 t.number = of_in _ (unended_tickets past) t (a.served q.0) i flush in
      both_parts (x.place.queue.0 == q.0) _ _ (of_in _ (still_open past) x h.within j)
  holds_alike t i x j (call.FlushItem l) is =
      ap (λ b. (x.item.0 == l.0) && b)
      (not_later x.number t.number (open_matters past x j)
      (inr (in_mapped ticket_number (unended_tickets past) t i)))
  holds_alike t i x j (call.FlushDelayed l) is =
      ap (λ b. (x.item.0 == l.0) && b)
      (not_later x.number t.number (open_matters past x j)
      (inr (in_mapped ticket_number (unended_tickets past) t i)))
  holds_alike t i x j c is = refl

  least_alike : (t : Ticket) → In t (unended_tickets past)
      → least_waited other (f t.number) t.call ≡ option_map f (least_waited past t.number t.call)
  least_alike t i =
      ap (option_map number_of)
      (ap (find (holds_up other (f t.number) t.call)) a.opened
      ∙ find_mapped (queueing_by f) (holds_up other (f t.number) t.call) (holds_up past t.number t.call)
      (still_open past)
      (all_in _ (still_open past) (λ x j. holds_alike t i x j t.call refl)))
      ∙ at (find (holds_up past t.number t.call) (still_open past))
    where
      at : (o : Option Queueing) → option_map number_of (option_map (queueing_by f) o)
          ≡ option_map f (option_map number_of o)
      at None = refl
      at (Some x) = refl

  waits_alike : (t : Ticket) → In t (unended_tickets past) → (c : Call) → t.call ≡ c
      → waits_for other (f t.number) c ≡ option_map f (waits_for past t.number c)
  waits_alike t i (call.CancelSync l) is =
      ap (option_map (λ (x : Start). x.number)) (a.item_runs l.0) ∙ at (item_run past l.0)
    where
      at : (o : Option Start) → option_map (λ (x : Start). x.number) (option_map (start_by f) o)
          ≡ option_map f (option_map (λ (x : Start). x.number) o)
      at None = refl
      at (Some x) = refl
  waits_alike t i c is = subst (λ c. least_waited other (f t.number) c ≡ option_map f (least_waited past t.number c)) is
      (least_alike t i)

  waited_open : (n : ℕ) (c : Call) (m : ℕ) → waits_for past n c ≡ Some m → IsOpenNumber past m
  waited_open n (call.CancelSync l) m h = at (item_run past l.0) refl h
    where
      at : (o : Option Start) → item_run past l.0 ≡ o → option_map (λ (x : Start). x.number) o ≡ Some m
          → IsOpenNumber past m
      at None is h = absurd (grind arith)
      at (Some x) is h = subst (IsOpenNumber past) (grind arith) (item_run_open s past l.0 x legal is)
  waited_open n c m h = at (find (holds_up past n c) (still_open past)) refl h
    where
      at : (o : Option Queueing) → find (holds_up past n c) (still_open past) ≡ o → option_map number_of o ≡ Some m
          → IsOpenNumber past m
      at None is h = absurd (grind arith)
      at (Some x) is h = subst (IsOpenNumber past) (grind arith)
          (in_mapped number_of (still_open past) x (found (holds_up past n c) (still_open past) x is).0)

  pub end_is_alike : (who : Who) (n : ℕ) → IsTicketNumber past n
      → end_of_ticket other (ticket_of other who (f n))
      ≡ reply_by (next_by f past other) (end_of_ticket past (ticket_of past who n))
  end_is_alike who n m = ap (end_of_ticket other) (ticket_found s f past other who n a m)
      ∙ at (ticket_of past who n) refl
    where
      told : (o : Option ℕ) → ((m : ℕ) → o ≡ Some m → IsOpenNumber past m)
          → waiting_for (option_map f o) ≡ reply_by (next_by f past other) (waiting_for o)
      told None h = refl
      told (Some m) h = ap (λ n. reply.Waiting n) (sym (open_stays m (h m refl)))

      at : (o : Option Ticket) → ticket_of past who n ≡ o
          → end_of_ticket other (option_map (ticket_by f) o) ≡ reply_by (next_by f past other) (end_of_ticket past o)
      at None is = refl
      at (Some t) is =
          ap waiting_for (waits_alike t (found (is_ticket who n) (unended_tickets past) t is).0 t.call refl)
          ∙ told (waits_for past t.number t.call) (λ m h. waited_open t.number t.call m h)

  -- ---- workers
  pub take_is_alike : (w : WorkerId) → take_answer s other w ≡ reply_by (next_by f past other) (take_answer s past w)
  unfolding take_answer
  take_is_alike w = rw (a.enlisted w, has_alike a legal w, next_alike a legal w.pool)
      (grind (arith, at (next s past w.pool) refl))
    where
      started : (n : ℕ) (o : Option ℕ) → IsOpenNumber past n
          → started_answer (f n) o ≡ reply_by (next_by f past other) (started_answer n o)
      started n None m = ap (λ k. reply.Started k) (sym (open_stays n m))
      started n (Some x) m = ap (λ k. reply.StartedEnlist k x) (sym (open_stays n m))

      at : (o : Option Queueing) → next s past w.pool ≡ o
          → start_of s other w (option_map (queueing_by f) o) ≡ reply_by (next_by f past other) (start_of s past w o)
      at None is = refl
      at (Some x) is =
          let unstarted = next_unstarted s past legal w.pool x is in
          let m : IsOpenNumber past x.number =
          in_mapped number_of (still_open past) x (found _ (still_open past) x unstarted).0 in
          rw (runnable_alike a legal w.pool, enlisting_alike a legal w)
          (grind (arith, started x.number (enlisted_by s past w) m))

  pub finish_is_alike : (w : WorkerId) → finish_answer other w ≡ reply_by (next_by f past other) (finish_answer past w)
  unfolding finish_answer
  finish_is_alike w = rw (awake_alike a legal w, a.runs w) (grind (arith, at (run past w) refl))
    where
      at : (o : Option ℕ) → run past w ≡ o
          → finished_answer (option_map f o) ≡ reply_by (next_by f past other) (finished_answer o)
      at None is = refl
      at (Some n) is = ap (λ k. reply.Finished k) (sym (old_stays f past other n (run_number s past w n legal is)))

  pub retire_is_alike : (w : WorkerId)
      → retire_answer s other w ≡ reply_by (next_by f past other) (retire_answer s past w)
  unfolding retire_answer
  retire_is_alike w = rw (a.enlisted w, has_alike a legal w, retiring_alike a legal w.pool) (grind arith)

  own_is_alike : (who : Who) (c : Call)
      → own_answer s other who (call_by f c) ≡ reply_by (next_by f past other) (own_answer s past who c)
  own_is_alike (Caller l) c = refl
  own_is_alike (Worker w) call.Take = take_is_alike w
  own_is_alike (Worker w) call.Finish = finish_is_alike w
  own_is_alike (Worker w) call.Sleep = rw (awake_alike a legal w) (grind arith)
  own_is_alike (Worker w) call.Wake = rw (asleep_alike a legal w) (grind arith)
  own_is_alike (Worker w) call.Retire = retire_is_alike w
  own_is_alike (Worker w) c = refl

  pub answers_are_alike : (who : Who) (c : Call) → Asks past c
      → answer s other who (call_by f c) ≡ reply_by (next_by f past other) (answer s past who c)
  unfolding answer
  answers_are_alike who (call.Queue i q c) h = queue_is_alike who i.0 q.0 0
  answers_are_alike who (call.Delay i q c t) h = queue_is_alike who i.0 q.0 t
  answers_are_alike who (call.Modify i q c t) h = modify_is_alike who i.0 q.0 t
  answers_are_alike who (call.Cancel i) h = cancel_is_alike who i.0
  answers_are_alike who (call.Tick t) h = ap (λ n. reply.Now (n + t)) a.time
  answers_are_alike who call.Fire h = fire_is_alike
  answers_are_alike who (call.Flush q) h = wait_is_alike who q.0
  answers_are_alike who (call.Drain q) h = wait_is_alike who q.0
  answers_are_alike who (call.FlushItem i) h = flush_item_is_alike who i.0
  answers_are_alike who (call.FlushDelayed i) h = flush_delayed_is_alike who i.0
  answers_are_alike who (call.CancelSync i) h = cancel_sync_is_alike who i.0
  answers_are_alike who (call.End n) h = end_is_alike who n h
  answers_are_alike who call.Take h = own_is_alike who call.Take
  answers_are_alike who call.Finish h = own_is_alike who call.Finish
  answers_are_alike who call.Sleep h = own_is_alike who call.Sleep
  answers_are_alike who call.Wake h = own_is_alike who call.Wake
  answers_are_alike who call.Retire h = own_is_alike who call.Retire
  answers_are_alike who (call.SetMax q n) h = set_max_is_alike q.0 n
  answers_are_alike who call.Freeze h = rw a.frozen (grind arith)
  answers_are_alike who call.Thaw h = rw a.frozen (grind arith)
  answers_are_alike who (call.Destroy q) h = destroy_is_alike who q.0
