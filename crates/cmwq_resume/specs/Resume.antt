-- What a history leaves to a new program, and the calls by which a new history takes it over.
use Rattle.std.specs.Prelude.{◌≡◌, ◌<◌, ◌+◌, ◌-◌, ◌==◌, ◌&&◌, if◌then◌else◌, ◌∷◌, ◌++◌}
use Rattle.cmwq_resume.specs.Common.{ℕ, Bool, false, not, List, [], map, filter, length, nat_le, nat_lt, flat_map}
use Rattle.cmwq_resume.specs.Common.{range_with_len, Call, Entry, Queueing, Booking, Layout, still_open, is_started}
use Rattle.cmwq_resume.specs.Common.{has_not_started, is_pending, is_cancelling, standing_bookings, now, max_active}
use Rattle.cmwq_resume.specs.Common.{first_width, is_frozen, unended_tickets, is_gone}
use Rattle.cmwq_model.specs.declared.call.Call.TheVariants as call

-- ---- what is left

-- a queueing without its number, and a booking without its number and with the ticks that are left
abbrev pub asked : Queueing → Queueing
asked x = record x { number = 0 }

abbrev pub left_at : ℕ → Booking → Booking
left_at t b = record b { due = b.due - t; number = 0 }

-- A run that was broken off is queued again, unless its item is pending, so that it runs anyway, or is being cancelled,
-- or is to be left out.
abbrev pub is_broken_off : (ℕ → Bool) → List Entry → Queueing → Bool
is_broken_off again past x =
    is_started past x.number
    && (not (is_pending past x.item.0) && (not (is_cancelling past x.item.0) && again x.item.0))

abbrev pub broken_off : (ℕ → Bool) → List Entry → List Queueing
broken_off again past = map asked (filter (is_broken_off again past) (still_open past))

abbrev pub waiting : List Entry → List Queueing
waiting past = map asked (filter (has_not_started past) (still_open past))

-- what is queued: first what was broken off, then what was pending, both by number
abbrev pub kept : (ℕ → Bool) → List Entry → List Queueing
kept again past = broken_off again past ++ waiting past

-- what is booked is due, or booked for later
abbrev pub is_due : List Entry → Booking → Bool
is_due past b = nat_le b.due (now past)

abbrev pub is_later : List Entry → Booking → Bool
is_later past b = not (is_due past b)

-- in the order in which they would fire: by the tick, and at the same tick by number
abbrev pub put_by_due : Booking → List Booking → List Booking
put_by_due b [] = b ∷ []
put_by_due b (a ∷ bs) = if nat_lt a.due b.due then a ∷ put_by_due b bs else b ∷ a ∷ bs

abbrev pub by_due : List Booking → List Booking
by_due [] = []
by_due (b ∷ bs) = put_by_due b (by_due bs)

abbrev pub overdue : List Entry → List Booking
overdue past = map (left_at (now past)) (by_due (filter (is_due past) (standing_bookings past)))

abbrev pub later : List Entry → List Booking
later past = map (left_at (now past)) (filter (is_later past) (standing_bookings past))

-- ---- a history that has all of that, and in which nothing has begun

pub record Resumes (s : Layout) (again : ℕ → Bool) (old new : List Entry) : Type 0 where
  pub widths : (q : ℕ) → max_active s new q ≡ max_active s old q
  pub frozen : is_frozen new ≡ is_frozen old
  pub gone : (q : ℕ) → q < length s.queues → is_gone new q ≡ is_gone old q
  pub queued : map asked (still_open new) ≡ kept again old
  pub overdue : overdue new ≡ overdue old
  pub later : later new ≡ later old
  pub none_started : (n : ℕ) → is_started new n ≡ false
  pub no_tickets : unended_tickets new ≡ []

-- ---- the calls

abbrev pub widen : Layout → (ℕ → ℕ) → ℕ → List Call
widen s w q = if w q == first_width s q then [] else call.SetMax (record { 0 = q }) (w q) ∷ []

abbrev pub widths_calls : Layout → (ℕ → ℕ) → List ℕ → List Call
widths_calls s w qs = flat_map (widen s w) qs

-- the destroy of a queue that is gone, and its end, of the ticket with the number of its entry
abbrev pub gone_calls : ℕ → List ℕ → List Call
gone_calls n [] = []
gone_calls n (q ∷ qs) = call.Destroy (record { 0 = q }) ∷ call.End n ∷ gone_calls (n + 2) qs

abbrev pub gone_queues : Layout → List Entry → List ℕ
gone_queues s past = filter (is_gone past) (range_with_len 0 (length s.queues))

abbrev pub freeze_calls : Bool → List Call
freeze_calls f = if f then call.Freeze ∷ [] else []

abbrev pub queue_call : Queueing → Call
queue_call x = call.Queue x.item x.place.queue x.place.cpu

-- what is due is booked for one tick, which then goes by
abbrev pub due_call : Booking → Call
due_call b = call.Delay b.item b.place.queue b.place.cpu 1

abbrev pub tick_calls : List Booking → List Call
tick_calls [] = []
tick_calls (b ∷ bs) = call.Tick 1 ∷ []

abbrev pub later_call : Booking → Call
later_call b = call.Delay b.item b.place.queue b.place.cpu b.due

abbrev pub first_calls : Layout → (ℕ → ℕ) → List Call
first_calls s w = widths_calls s w (range_with_len 0 (length s.queues))

abbrev pub plan_calls : Layout → (ℕ → ℕ) → List ℕ → Bool → List Queueing → List Booking → List Booking → List Call
plan_calls s w gs f ks os ls =
    first_calls s w ++ (gone_calls (length (first_calls s w)) gs ++ (freeze_calls f
    ++ (map queue_call ks ++ (map due_call os ++ (tick_calls os ++ map later_call ls)))))

abbrev pub resume_calls : Layout → (ℕ → Bool) → List Entry → List Call
resume_calls s again past =
    plan_calls s (max_active s past) (gone_queues s past) (is_frozen past) (kept again past) (overdue past) (later past)
