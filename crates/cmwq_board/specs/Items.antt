-- What an item does.
use Rattle.std.specs.Prelude.{◌≡◌, ◌≤◌, ◌<◌, ℕ, Option, Some, None, List, if◌then◌else◌, nat_le, option_and_then}
use Rattle.cmwq_model.specs.Prelude.{booking, is_draining, item_run, unstarted_queueing}
use Rattle.cmwq_model.specs.declared.entry.Entry.{Entry}
use Rattle.cmwq_model.specs.declared.record.Booking.{Booking}
use Rattle.cmwq_model.specs.declared.record.Queueing.{Queueing}
use Rattle.cmwq_board.specs.declared.item_state.ItemState.{ItemState}
use Rattle.cmwq_board.specs.declared.item_state.Pending.{Pending}
use Rattle.cmwq_board.specs.declared.item_state.Pending.TheVariants.{No, Booked, Queued}

abbrev pub pending_of : Option Queueing → Option Booking → Pending
pending_of (Some x) o = Queued x.place x.number
pending_of None (Some b) = Booked b.place b.due
pending_of None None = No

-- where the item is queued or booked, and which worker runs it
abbrev pub item_state : List Entry → ℕ → ItemState
item_state past i = record {
  pending = pending_of (unstarted_queueing past i) (booking past i);
  run = item_run past i;
}

-- when the item may fire: as it is booked, if no drain holds its queue back
abbrev pub due_unless_held : List Entry → Booking → Option ℕ
due_unless_held past b = if is_draining past b.place.queue.0 then None else Some b.due

abbrev pub due_of : List Entry → ℕ → Option ℕ
due_of past i = option_and_then (due_unless_held past) (booking past i)

-- an item may fire at this tick
pub record MayFireAt (past : List Entry) (items due : ℕ) : Type 0 where
  pub item : ℕ
  pub there : item < items
  pub when : due_of past item ≡ Some due

-- The least tick at which an item may fire.
abbrev pub IsDue : List Entry → ℕ → Option ℕ → Type 0
IsDue past items (Some due) = MayFireAt past items due × ((d : ℕ) → MayFireAt past items d → due ≤ d)
IsDue past items None = (d : ℕ) → MayFireAt past items d → ⊥

-- the lesser of two ticks
abbrev pub lesser : Option ℕ → Option ℕ → Option ℕ
lesser None o = o
lesser (Some d) None = Some d
lesser (Some d) (Some e) = if nat_le d e then Some d else Some e
