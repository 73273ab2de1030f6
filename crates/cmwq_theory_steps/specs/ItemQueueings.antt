-- An item's unstarted queueing and its run, as queueings, and the queueing that an entry ends, read off its reply.
use Rattle.std.specs.Prelude.{◌≡◌, ◌==◌, ◌∷◌, if◌then◌else◌}
use Rattle.cmwq_theory_steps.specs.Common.{ℕ, true, List, Option, Some, None, option_and_then, option_or, PoolId, Who}
use Rattle.cmwq_theory_steps.specs.Common.{Caller, Worker, Reply, Entry, Queueing, Start, Layout, pool_at, item_of, run}
use Rattle.cmwq_theory_steps.specs.Common.{item_run, opening, unstarted_queueing, queueing_at, is_live, next}
use Rattle.cmwq_model.specs.declared.reply.Reply.TheVariants as reply
use Rattle.cmwq_theory_steps.specs.Histories.{OfLegal, OfEntries}
use Rattle.cmwq_theory_steps.specs.Endings.{ending}
use Rattle.cmwq_theory_steps.specs.Activations.{is_left}

-- ---- an item's unstarted queueing after an entry: the old one, unless that ends or starts, else what the entry opens of the item

abbrev pub still_unstarted : List Entry → Entry → Option Queueing → Option Queueing
still_unstarted past e None = None
still_unstarted past e (Some x) = if is_left past e x then Some x else None

abbrev pub of_item : ℕ → Option Queueing → Option Queueing
of_item i None = None
of_item i (Some x) = if x.item.0 == i then Some x else None

abbrev pub UnstartedGoesOn : Type 0
UnstartedGoesOn =
    OfEntries (λ s past e. (i : ℕ)
    → unstarted_queueing (e ∷ past) i
    ≡ option_or (still_unstarted past e (unstarted_queueing past i)) (of_item i (opening past e)))

-- what a pool starts next is its item's unstarted queueing
abbrev pub NextAreUnstarted : Type 0
NextAreUnstarted =
    OfLegal (λ s past. (p : PoolId) (x : Queueing) → next s past p ≡ Some x → unstarted_queueing past x.item.0 ≡ Some x)

-- ---- an item's run is an open queueing of the item, in the pool of its worker

pub record IsRunOf (s : Layout) (past : List Entry) (i : ℕ) (start : Start) : Type 0 where
  pub queueing : Queueing
  pub found : queueing_at past start.number ≡ Some queueing
  pub live : is_live past queueing ≡ true
  pub item : queueing.item.0 ≡ i
  pub pool : pool_at s queueing.place ≡ start.worker.pool

abbrev pub RunsAreQueueings : Type 0
RunsAreQueueings = OfLegal (λ s past. (i : ℕ) (start : Start) → item_run past i ≡ Some start → IsRunOf s past i start)

-- ---- the queueing that an entry ends: that of its worker's run where it finishes, the item's unstarted one where that is cancelled or replaced

abbrev pub queueing_run : List Entry → Who → Option Queueing
queueing_run past (Worker w) = option_and_then (queueing_at past) (run past w)
queueing_run past (Caller c) = None

abbrev pub ended_by : List Entry → Who → Option ℕ → Reply → Option Queueing
ended_by past who item (reply.Finished n) = queueing_run past who
ended_by past who item (reply.Cancelled n) = option_and_then (unstarted_queueing past) item
ended_by past who item (reply.TicketCancelled k n) = option_and_then (unstarted_queueing past) item
ended_by past who item (reply.Again k) = option_and_then (unstarted_queueing past) item
ended_by past who item (reply.Rebooked d) = option_and_then (unstarted_queueing past) item
ended_by past who item r = None

abbrev pub EndsAsTold : Type 0
EndsAsTold = OfEntries (λ s past e. ending past e ≡ ended_by past e.who (item_of e) e.reply)
