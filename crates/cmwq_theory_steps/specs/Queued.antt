-- Queueings by number, the queues of runs, and which items are pending and run, after one more entry.
use Rattle.std.specs.Prelude.{◌≡◌, ◌+◌, ◌==◌, ◌&&◌, ◌||◌, if◌then◌else◌, ◌∷◌}
use Rattle.cmwq_theory_steps.specs.Common.{ℕ, Bool, not, List, length, Option, None, is_some, option_or, WorkerId}
use Rattle.cmwq_theory_steps.specs.Common.{Worker, Reply, Entry, Queueing, is_by, is_of_item, settles, due_in}
use Rattle.cmwq_theory_steps.specs.Common.{number_cancelled, starts_item, item_run, item_runs, opens, opening}
use Rattle.cmwq_theory_steps.specs.Common.{is_pending, queueing_at, queue_of, run_queue, bits}
use Rattle.cmwq_model.specs.declared.reply.Reply.TheVariants as reply
use Rattle.cmwq_theory_steps.specs.Histories.{OfEntries}
use Rattle.cmwq_theory_steps.specs.RunSteps.{ends_run}

-- the queueing with a number: as it was, or what the entry with this number opens
abbrev pub opening_at : List Entry → Entry → ℕ → Option Queueing
opening_at past e n = if length past == n then opening past e else None

abbrev pub QueueingsGoOn : Type 0
QueueingsGoOn = (past : List Entry) (e : Entry) (n : ℕ)
    → queueing_at (e ∷ past) n ≡ option_or (queueing_at past n) (opening_at past e n)

-- the queue of a worker's run: of what its own entry starts, none where that finishes, else as it was
abbrev pub run_queue_after : List Entry → Reply → Option ℕ → Option ℕ
run_queue_after past (reply.Started n) o = queue_of past n
run_queue_after past (reply.StartedEnlist n x) o = queue_of past n
run_queue_after past (reply.Finished n) o = None
run_queue_after past r o = o

abbrev pub RunQueuesGoOn : Type 0
RunQueuesGoOn =
    OfEntries (λ s past e. (w : WorkerId)
    → run_queue (e ∷ past) w
    ≡ (if is_by (Worker w) e then run_queue_after past e.reply (run_queue past w) else run_queue past w))

-- an item is pending where its last entry that settles it queued or booked it, until what was queued is started or
-- cancelled
abbrev pub is_settled : Entry → ℕ → Bool
is_settled e i = settles e.reply && is_of_item i e

abbrev pub makes_pending : Reply → Bool
makes_pending r = opens r || is_some (due_in r)

abbrev pub is_taken_back : Entry → ℕ → Bool
is_taken_back e i = is_some (number_cancelled e.reply) && is_of_item i e

abbrev pub pending_after : List Entry → Entry → ℕ → Bool
pending_after past e i = if is_settled e i then makes_pending e.reply else is_pending past i
    && not (starts_item past e i) && not (is_taken_back e i)

abbrev pub PendingGoesOn : Type 0
PendingGoesOn = OfEntries (λ s past e. (i : ℕ) → is_pending (e ∷ past) i ≡ pending_after past e i)

-- an item runs from a start of it until that is finished
abbrev pub runs_after : List Entry → Entry → ℕ → Bool
runs_after past e i = starts_item past e i || (item_runs past i && not (ends_run e (item_run past i)))

abbrev pub ItemRunsGoOn : Type 0
ItemRunsGoOn = OfEntries (λ s past e. (i : ℕ) → item_runs (e ∷ past) i ≡ runs_after past e i)

-- so the bits of each item, that of the entry too
abbrev pub BitsGoOn : Type 0
BitsGoOn =
    OfEntries (λ s past e. (i : ℕ)
    → bits (e ∷ past) i ≡ (if pending_after past e i then 1 else 0) + (if runs_after past e i then 2 else 0))
