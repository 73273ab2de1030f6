-- Where widths don't change and no queue is destroyed, the active queueings are the first open ones, and a history is
-- legal exactly where it was before they could.
use Rattle.std.specs.Prelude.{◌≡◌, ◌==◌, ◌+◌, ◌&&◌, ◌||◌, if◌then◌else◌, ◌∷◌, ◌++◌}
use Rattle.cmwq_theory_laws.specs.Common.{ℕ, length, Bool, true, false, not, List, [], filter, find, count_by, Option}
use Rattle.cmwq_theory_laws.specs.Common.{IsTrue, nat_lt, AllByRecursion, PoolId, WorkerId, Who, Worker, Call, Reply}
use Rattle.cmwq_theory_laws.specs.Common.{Entry, Queueing, Layout, first_width, pool_at, fits, width, same_pool}
use Rattle.cmwq_theory_laws.specs.Common.{serial_of, now, is_started, has_run, queueings, still_open, is_live}
use Rattle.cmwq_theory_laws.specs.Common.{is_pending, runs_elsewhere, is_ahead, is_active, became_active, is_startable}
use Rattle.cmwq_theory_laws.specs.Common.{is_enlisted, is_cancelling, is_crowded, destroys, is_gone, answer, start_of}
use Rattle.cmwq_theory_laws.specs.Common.{may_call, is_shut, IsLegal}
use Rattle.cmwq_model.specs.declared.call.Call.TheVariants as call
use Rattle.cmwq_model.specs.declared.reply.Reply.TheVariants as reply

-- as it was: active is what is open with fewer older open ones on its queue and CPU than the layout says
abbrev pub is_first : Layout → List Entry → Queueing → Bool
is_first s past x = is_live past x && nat_lt (count_by (is_ahead x) (still_open past)) (first_width s x.place.queue.0)

abbrev pub is_newly_first : Layout → List Entry → Entry → Queueing → Bool
is_newly_first s past e x = is_first s (e ∷ past) x && not (is_first s past x)

unfoldable pub ever_first : Layout → List Entry → List Queueing
ever_first s [] = []
ever_first s (e ∷ past) = ever_first s past ++ filter (is_newly_first s past e) (queueings (e ∷ past))

abbrev pub is_listed_before : Layout → List Entry → PoolId → Queueing → Bool
is_listed_before s past p x = is_first s past x && not (is_started past x.number) && same_pool (pool_at s x.place) p

unfoldable pub next_before : Layout → List Entry → PoolId → Option Queueing
next_before s past p = find (is_startable past) (filter (is_listed_before s past p) (ever_first s past))

-- the width of each queue was that of the layout all the time
abbrev pub HasFirstWidths : Layout → List Entry → Type 0
HasFirstWidths s [] = Unit {0}
HasFirstWidths s (e ∷ past) = ((q : ℕ) → width s (e ∷ past) q ≡ first_width s q) × HasFirstWidths s past

abbrev pub ActiveAsBefore : Type 0
ActiveAsBefore = (s : Layout) (past : List Entry) → HasFirstWidths s past
    → ((x : Queueing) → is_active s past x ≡ is_first s past x) × (became_active s past ≡ ever_first s past)

-- no call that there wasn't before
abbrev pub is_old : Call → Bool
is_old (call.SetMax q n) = false
is_old call.Freeze = false
is_old call.Thaw = false
is_old (call.Destroy q) = false
is_old c = true

-- as it was: a worker takes the next of those
unfoldable pub take_before : Layout → List Entry → WorkerId → Reply
take_before s past w =
    if not (is_enlisted past w) || has_run past w then reply.Misuse
    else start_of s past w (next_before s past w.pool)

-- and no queue was ever gone
unfoldable pub queue_before : List Entry → Who → ℕ → ℕ → ℕ → Reply
queue_before past who i q ticks =
    if not (may_call past who) then reply.Misuse
    else if is_cancelling past i then reply.No
    else if is_pending past i then reply.No
    else if runs_elsewhere past i q then reply.Foreign
    else if is_shut past who q ticks then reply.Draining
    else if ticks == 0 then reply.Yes (length past)
    else reply.Booked (now past + ticks)

unfoldable pub modify_before : List Entry → Who → ℕ → ℕ → ℕ → Reply
modify_before past who i q ticks =
    if not (may_call past who) then reply.Misuse
    else if is_cancelling past i then reply.No
    else if runs_elsewhere past i q then reply.Foreign
    else if is_shut past who q ticks then reply.Draining
    else if is_pending past i then (if ticks == 0 then reply.Again (length past) else reply.Rebooked (now past + ticks))
    else if ticks == 0 then reply.Yes (length past)
    else reply.Booked (now past + ticks)

unfoldable pub wait_before : List Entry → Who → Reply
wait_before past who = if is_crowded past who then reply.Crowded else reply.Ticket (length past)

-- all other answers are word for word what they were
abbrev pub answer_before : Layout → List Entry → Who → Call → Reply
answer_before s past who (call.Queue i q c) = queue_before past who i.0 q.0 0
answer_before s past who (call.Delay i q c ticks) = queue_before past who i.0 q.0 ticks
answer_before s past who (call.Modify i q c ticks) = modify_before past who i.0 q.0 ticks
answer_before s past who (call.Flush q) = wait_before past who
answer_before s past who (call.Drain q) = wait_before past who
answer_before s past (Worker w) call.Take = take_before s past w
answer_before s past who c = answer s past who c

abbrev pub entry_before : Layout → List Entry → Who → Call → Entry
entry_before s past who call =
    record { who = who; serial = serial_of past who; call = call; reply = answer_before s past who call }

unfoldable pub IsLegalBefore : Layout → List Entry → Type 0
IsLegalBefore s [] = Unit {0}
IsLegalBefore s (e ∷ past) = IsTrue (fits s e.who e.call) × (e ≡ entry_before s past e.who e.call)
    × IsLegalBefore s past

-- without a destroy of it no queue is gone
abbrev pub NoneGoneBefore : Type 0
NoneGoneBefore = (past : List Entry) (q : ℕ) → AllByRecursion (λ e. destroys q e.call ≡ false) past
    → is_gone past q ≡ false

abbrev pub LegalAsBefore : Type 0
LegalAsBefore = (s : Layout) (past : List Entry) → AllByRecursion (λ e. is_old e.call ≡ true) past
    → (IsLegal s past → IsLegalBefore s past) × (IsLegalBefore s past → IsLegal s past)
