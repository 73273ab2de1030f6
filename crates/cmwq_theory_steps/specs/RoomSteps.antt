-- What a history owes after one more entry, and so which replies are never refused for want of room.
use Rattle.std.specs.Prelude.{◌≡◌, ◌+◌, ◌*◌, ◌≤◌, ◌&&◌, ◌∷◌}
use Rattle.cmwq_theory_steps.specs.Common.{ℕ, [], Bool, true, false, List, length, count_by, is_some, range_with_len}
use Rattle.cmwq_theory_steps.specs.Common.{option_map_or, Reply, Entry, Layout, item_of, settles, booking_of, is_booked}
use Rattle.cmwq_theory_steps.specs.Common.{number_started, number_finished, has_run, runs_asleep, still_open, opening}
use Rattle.cmwq_theory_steps.specs.Common.{gives_ticket, is_done, unended_tickets, is_frozen, owed, workers}
use Rattle.cmwq_theory_steps.specs.Common.{has_not_started, room_needed}
use Rattle.cmwq_model.specs.declared.reply.Reply.TheVariants as reply
use Rattle.cmwq_theory_steps.specs.Endings.{ending}
use Rattle.cmwq_theory_steps.specs.Histories.{one, OfEntries}

-- ---- the five numbers of which what is owed is made

abbrev pub waiting_count : List Entry → ℕ
waiting_count past = count_by (has_not_started past) (still_open past)

abbrev pub run_count : Layout → List Entry → ℕ
run_count s past = count_by (has_run past) (workers s)

abbrev pub sleeper_count : Layout → List Entry → ℕ
sleeper_count s past = count_by (runs_asleep past) (workers s)

abbrev pub booked_count : Layout → List Entry → ℕ
booked_count s past = count_by (is_booked past) (range_with_len 0 s.items)

-- ---- each after one more entry

-- one less waits for what is started, and for what is ended unstarted, and one more for what is opened
abbrev pub ends_unstarted : List Entry → Entry → Bool
ends_unstarted past e = option_map_or (has_not_started past) (ending past e) false

abbrev pub WaitingAreCounted : Type 0
WaitingAreCounted =
    OfEntries
    (λ s past e. waiting_count (e ∷ past) + one (is_some (number_started e.reply)) + one (ends_unstarted past e)
    ≡ waiting_count past + one (is_some (opening past e)))

abbrev pub RunsAreCounted : Type 0
RunsAreCounted =
    OfEntries (λ s past e. run_count s (e ∷ past) + one (is_some (number_finished e.reply))
    ≡ run_count s past + one (is_some (number_started e.reply)))

abbrev pub is_slept : Reply → Bool
is_slept reply.Slept = true
is_slept r = false

abbrev pub is_woke : Reply → Bool
is_woke reply.Woke = true
is_woke r = false

abbrev pub SleepersAreCounted : Type 0
SleepersAreCounted =
    OfEntries (λ s past e. sleeper_count s (e ∷ past) + one (is_woke e.reply)
    ≡ sleeper_count s past + one (is_slept e.reply))

-- the entry settles an item that was booked
abbrev pub settles_booked : List Entry → Entry → Bool
settles_booked past e = settles e.reply && option_map_or (is_booked past) (item_of e) false

abbrev pub BookedAreCounted : Type 0
BookedAreCounted =
    OfEntries (λ s past e. booked_count s (e ∷ past) + one (settles_booked past e)
    ≡ booked_count s past + one (is_some (booking_of e (length past))))

abbrev pub TicketsAreCounted : Type 0
TicketsAreCounted =
    OfEntries (λ s past e. length (unended_tickets (e ∷ past)) + one (is_done e.reply)
    ≡ length (unended_tickets past) + one (gives_ticket e.reply))

-- one more while it is frozen
abbrev pub is_frozen_now : Reply → Bool
is_frozen_now reply.Frozen = true
is_frozen_now r = false

abbrev pub is_thawed_now : Reply → Bool
is_thawed_now reply.Thawed = true
is_thawed_now r = false

abbrev pub FrozenAreCounted : Type 0
FrozenAreCounted =
    OfEntries (λ s past e. one (is_frozen (e ∷ past)) + one (is_thawed_now e.reply)
    ≡ one (is_frozen past) + one (is_frozen_now e.reply))

-- ---- so what is owed: what it was, less what the entry pays off, and what it takes on

abbrev pub room_paid : List Entry → Entry → ℕ
room_paid past e =
    2 * one (is_some (number_started e.reply)) + 2 * one (ends_unstarted past e) + one
    (is_some (number_finished e.reply)) + one (is_woke e.reply)
    + 3 * one (settles_booked past e) + one (is_done e.reply) + one (is_thawed_now e.reply)

abbrev pub taken_on : List Entry → Entry → ℕ
taken_on past e =
    2 * one (is_some (opening past e)) + one (is_some (number_started e.reply)) + one (is_slept e.reply)
    + 3 * one (is_some (booking_of e (length past))) + one (gives_ticket e.reply) + one (is_frozen_now e.reply)

abbrev pub OwedGoesOn : Type 0
OwedGoesOn = OfEntries (λ s past e. owed s (e ∷ past) + room_paid past e ≡ owed s past + taken_on past e)

-- nothing at first
abbrev pub NothingOwedAtFirst : Type 0
NothingOwedAtFirst = (s : Layout) → owed s [] ≡ 0

-- ---- room

-- the replies of which room is promised
abbrev pub is_promised : Reply → Bool
is_promised (reply.Started n) = true
is_promised (reply.StartedEnlist n x) = true
is_promised (reply.Finished n) = true
is_promised reply.Woke = true
is_promised (reply.Fired i k) = true
is_promised (reply.Cancelled n) = true
is_promised reply.Unbooked = true
is_promised reply.Done = true
is_promised (reply.TicketCancelled k n) = true
is_promised (reply.TicketUnbooked k) = true
is_promised reply.Thawed = true
is_promised r = false

-- they need no more room than the history did before
abbrev pub PromisedNeedNoMore : Type 0
PromisedNeedNoMore = OfEntries (λ s past e. is_promised e.reply ≡ true → room_needed s (e ∷ past) ≤ room_needed s past)
