-- What an item does, as numbers. cmwq.h has the same table.
use Rattle.cmwq_c.specs.Common.{Worker}
use Rattle.cmwq_c.specs.Numbers.{who_numbers}
use Rattle.std.specs.Prelude.{ℕ, Option, None, Some}
use Rattle.cmwq_model.specs.declared.record.Place.{Place}
use Rattle.cmwq_model.specs.declared.record.Start.{Start}
use Rattle.cmwq_board.specs.declared.item_state.ItemState.{ItemState}
use Rattle.cmwq_board.specs.declared.item_state.Pending.{Pending}
use Rattle.cmwq_board.specs.declared.item_state.Pending.TheVariants.{No, Booked, Queued}
use Rattle.cmwq_c.specs.declared.numbers.WhoNumbers.{WhoNumbers}
use Rattle.cmwq_c.specs.declared.numbers.ItemNumbers.{ItemNumbers}

-- the numbers of no worker
abbrev pub no_worker : WhoNumbers
no_worker = record { kind = 0; index = 0; cpu = 0 }

abbrev pub not_pending : ItemNumbers
not_pending = record { number = 0; run = 0; pending = 0; queue = 0; cpu = 0; runs = 0; worker = no_worker }

abbrev pub pending_at : ℕ → Place → ℕ → ItemNumbers
pending_at kind p n =
    record { number = n; run = 0; pending = kind; queue = p.queue.0; cpu = p.cpu.0; runs = 0; worker = no_worker }

-- 0 not pending, 1 delayed until a tick, 2 queued by the queueing of this number
abbrev pub pending_numbers : Pending → ItemNumbers
pending_numbers No = not_pending
pending_numbers (Booked p due) = pending_at 1 p due
pending_numbers (Queued p n) = pending_at 2 p n

-- the worker that runs it, and the queueing that is run
abbrev pub with_run : ItemNumbers → Option Start → ItemNumbers
with_run n None = n
with_run n (Some r) = record n { run = r.number; runs = 1; worker = who_numbers (Worker r.worker) }

abbrev pub item_numbers : ItemState → ItemNumbers
item_numbers s = with_run (pending_numbers s.pending) s.run
