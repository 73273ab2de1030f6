-- The history that the calls of a plan make, and what the laws say of it.
use Rattle.std.specs.Prelude.{◌≡◌, ◌+◌, ◌<◌, ◌≤◌, ◌==◌, ◌++◌, ◌∷◌}
use Rattle.cmwq_resume.specs.Common.{ℕ, Bool, true, false, List, [], map, length, list_any, AllByRecursion, Call, Entry}
use Rattle.cmwq_resume.specs.Common.{Queueing, Booking, Layout, CallerId, Caller, Who, Reply, entry_for, answer}
use Rattle.cmwq_resume.specs.Common.{IsLegal, has_place, most_active, max_active, is_frozen, still_open}
use Rattle.cmwq_resume.specs.Common.{standing_bookings}
use Rattle.cmwq_resume.specs.Common.{is_started, unended_tickets, now, first_width, is_gone, is_pending}
use Rattle.cmwq_model.specs.Prelude.{is_cancelling, item_runs}
use Rattle.std.specs.Prelude.{◌*◌}
use Rattle.cmwq_model.specs.Prelude.{is_layout, most_time, room_needed, steps}
use Rattle.cmwq_resume.specs.Resume.{asked, plan_calls, resume_calls, Resumes}
use Rattle.cmwq_model.specs.declared.reply.Reply.TheVariants as reply

-- the history after one caller has made these calls
abbrev pub played : Layout → Who → List Entry → List Call → List Entry
played s who past [] = past
played s who past (c ∷ cs) = played s who (entry_for s past who c ∷ past) cs

-- a reply that says that the call did what it asks for
abbrev pub is_success : Reply → Bool
is_success (reply.Yes k) = true
is_success (reply.Booked d) = true
is_success (reply.Now t) = true
is_success (reply.Width n) = true
is_success reply.Frozen = true
is_success (reply.Ticket k) = true
is_success reply.Done = true
is_success r = false

abbrev pub AllSucceed : Layout → Who → List Entry → List Call → Type 0
AllSucceed s who past [] = Unit {0}
AllSucceed s who past (c ∷ cs) =
    (is_success (answer s past who c) ≡ true) × AllSucceed s who (entry_for s past who c ∷ past) cs

-- the items of what is queued and booked, and that no number is twice in a list
abbrev pub item_queued : Queueing → ℕ
item_queued x = x.item.0

abbrev pub item_booked : Booking → ℕ
item_booked b = b.item.0

abbrev pub is_number : ℕ → ℕ → Bool
is_number i j = j == i

abbrev pub AreApart : List ℕ → Type 0
AreApart [] = Unit {0}
AreApart (i ∷ is) = (list_any (is_number i) is ≡ false) × AreApart is

abbrev pub HasPlace : Layout → Queueing → Type 0
HasPlace s x = has_place s x.item.0 x.place.queue.0 x.place.cpu.0 ≡ true

abbrev pub IsBookable : Layout → Booking → Type 0
IsBookable s b = has_place s b.item.0 b.place.queue.0 b.place.cpu.0 ≡ true

-- its queue is none of these, which are gone
abbrev pub IsAlive : List ℕ → Queueing → Type 0
IsAlive gs x = list_any (is_number x.place.queue.0) gs ≡ false

abbrev pub IsBookedAlive : List ℕ → Booking → Type 0
IsBookedAlive gs b = list_any (is_number b.place.queue.0) gs ≡ false

-- What a plan needs so that none of its calls is refused: the queues that are gone are there, and each only once; the
-- widths are those of a shape; what is queued and booked is inside the shape, on queues that are there, and of each
-- item there is one thing.
pub record IsSound (s : Layout) (w : ℕ → ℕ) (gs : List ℕ) (ks : List Queueing) (os ls : List Booking) : Type 0 where
  pub gone_there : AllByRecursion (λ q. q < length s.queues) gs
  pub gone_apart : AreApart gs
  pub alive : AllByRecursion (IsAlive gs) ks
  pub due_alive : AllByRecursion (IsBookedAlive gs) os
  pub later_alive : AllByRecursion (IsBookedAlive gs) ls
  pub narrow : (q : ℕ) → q < length s.queues → (1 ≤ w q) × (w q ≤ most_active)
  pub beyond : (q : ℕ) → length s.queues ≤ q → w q ≡ first_width s q
  pub places : AllByRecursion (HasPlace s) ks
  pub due_places : AllByRecursion (IsBookable s) os
  pub later_places : AllByRecursion (IsBookable s) ls
  pub later : AllByRecursion (λ (b : Booking). 0 < b.due) ls
  pub apart : AreApart (map item_queued ks ++ (map item_booked os ++ map item_booked ls))

-- one tick goes by if something is due: what is due is so at tick 1 then, and the rest after the tick that it is then
abbrev pub ticks_of : List Booking → ℕ
ticks_of [] = 0
ticks_of (b ∷ bs) = 1

abbrev pub due_at : ℕ → Booking → Booking
due_at t b = record b { due = t; number = 0 }

abbrev pub due_after : ℕ → Booking → Booking
due_after t b = record b { due = t + b.due; number = 0 }

abbrev pub unnumbered : Booking → Booking
unnumbered b = record b { number = 0 }

-- the history has what the plan says, and nothing else
pub record Leaves (s : Layout) (w : ℕ → ℕ) (gs : List ℕ) (f : Bool) (ks : List Queueing) (os ls : List Booking)
    (past : List Entry) : Type 0 where
  pub gone : (q : ℕ) → is_gone past q ≡ list_any (is_number q) gs
  pub legal : IsLegal s past
  pub widths : (q : ℕ) → max_active s past q ≡ w q
  pub frozen : is_frozen past ≡ f
  pub queued : map asked (still_open past) ≡ map asked ks
  pub booked : map unnumbered (standing_bookings past) ≡ map (due_at 1) os ++ map (due_after (ticks_of os)) ls
  pub time : now past ≡ ticks_of os
  pub none_started : (n : ℕ) → is_started past n ≡ false
  pub no_tickets : unended_tickets past ≡ []

abbrev pub PlansPlay : Type 0
PlansPlay = (s : Layout) (c : CallerId) (w : ℕ → ℕ) (gs : List ℕ) (f : Bool) (ks : List Queueing)
    (os ls : List Booking) → c.0 < s.callers → IsSound s w gs ks os ls
    → AllSucceed s (Caller c) [] (plan_calls s w gs f ks os ls)
    × Leaves s w gs f ks os ls (played s (Caller c) [] (plan_calls s w gs f ks os ls))

-- The calls that resume a legal history all succeed, and make a history that resumes it. To resume that one takes the
-- same calls.
abbrev pub ResumesPlay : Type 0
ResumesPlay = (s : Layout) (c : CallerId) (again : ℕ → Bool) (old : List Entry) → is_layout s ≡ true → c.0 < s.callers
    → IsLegal s old → AllSucceed s (Caller c) [] (resume_calls s again old)
    × IsLegal s (played s (Caller c) [] (resume_calls s again old))
    × Resumes s again old (played s (Caller c) [] (resume_calls s again old))

abbrev pub ResumedAreSteady : Type 0
ResumedAreSteady = (s : Layout) (again : ℕ → Bool) (old new : List Entry) → Resumes s again old new
    → resume_calls s again new ≡ resume_calls s again old

-- where there is room for four entries a call, no call is left out
abbrev pub by_caller : CallerId → Call → Who × Call
by_caller c k = (Caller c, k)

abbrev pub ResumesHaveRoom : Type 0
ResumesHaveRoom = (s : Layout) (c : CallerId) (again : ℕ → Bool) (old : List Entry) (room : ℕ) → is_layout s ≡ true
    → c.0 < s.callers → IsLegal s old → 4 * length (resume_calls s again old) ≤ room
    → length (resume_calls s again old) ≤ most_time
    → steps s room (map (by_caller c) (resume_calls s again old))
    ≡ record { past = played s (Caller c) [] (resume_calls s again old); left_out = 0 }

-- the resumed history, with all that it owes, takes no more room than the old one
abbrev pub ResumesNeedNoMoreRoom : Type 0
ResumesNeedNoMoreRoom = (s : Layout) (c : CallerId) (again : ℕ → Bool) (old : List Entry) → is_layout s ≡ true
    → c.0 < s.callers → IsLegal s old
    → room_needed s (played s (Caller c) [] (resume_calls s again old)) ≤ room_needed s old

-- so no call is left out in a room in which the old one has a place
abbrev pub ResumesFitAgain : Type 0
ResumesFitAgain = (s : Layout) (c : CallerId) (again : ℕ → Bool) (old : List Entry) (room : ℕ) → is_layout s ≡ true
    → c.0 < s.callers → IsLegal s old → room_needed s old ≤ room
    → length (resume_calls s again old) ≤ most_time
    → steps s room (map (by_caller c) (resume_calls s again old))
    ≡ record { past = played s (Caller c) [] (resume_calls s again old); left_out = 0 }

-- Nothing that was pending is lost. Of the runs only those are lost that were being cancelled, or are left out.
pub record NothingIsLost (again : ℕ → Bool) (old new : List Entry) : Type 0 where
  pub pending : (i : ℕ) → is_pending old i ≡ true → is_pending new i ≡ true
  pub broken : (i : ℕ) → item_runs old i ≡ true → is_cancelling old i ≡ false → again i ≡ true
      → is_pending new i ≡ true

abbrev pub ResumedLoseNothing : Type 0
ResumedLoseNothing = (s : Layout) (again : ℕ → Bool) (old new : List Entry) → IsLegal s old → Resumes s again old new
    → NothingIsLost again old new

-- so of the calls that resume a legal history: each of them succeeds, and they make a legal history that resumes it and
-- loses nothing
pub record IsTakenOver (s : Layout) (c : CallerId) (again : ℕ → Bool) (old : List Entry) (calls : List Call)
    : Type 0 where
  pub success : AllSucceed s (Caller c) [] calls
  pub legal : IsLegal s (played s (Caller c) [] calls)
  pub resumes : Resumes s again old (played s (Caller c) [] calls)
  pub lost : NothingIsLost again old (played s (Caller c) [] calls)
