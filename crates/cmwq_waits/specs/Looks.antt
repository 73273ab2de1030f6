-- What a look at a state takes for granted, and what it finds of one item.
use Rattle.std.specs.Prelude.{◌&&◌, ◌++◌, ◌≡◌}
use Rattle.std.specs.Prelude.{◌<◌, ◌==◌, if◌then◌else◌, false}
use Rattle.cmwq_waits.specs.Common.{option_map_or}
use Rattle.cmwq_model.specs.declared.id.ItemId.{ItemId}
use Rattle.cmwq_waits.specs.Common.{ℕ, Bool, true, List, not, length, list_any, Option, Some, None, Contains}
use Rattle.cmwq_waits.specs.Common.{Layout, Entry, Call, Queueing, Ticket, RunWait, is_started, still_open}
use Rattle.cmwq_waits.specs.Common.{unstarted_queueing}
use Rattle.cmwq_model.specs.Prelude.{IsLegal, has_numbers, is_unstarted}
use Rattle.cmwq_model.specs.declared.call.Call.TheVariants as call
use Rattle.cmwq_state.specs.Waits.{IsUnendedOrNext}
use Rattle.cmwq_waits.specs.Common.{filter, option_to_list}
use Rattle.cmwq_model.specs.declared.id.QueueId.{QueueId}
use Rattle.cmwq_waits.specs.HeldUp.{Scene, awaits, have_all_places, have_all_workers, is_held_up_by}
use Rattle.cmwq_waits.specs.HeldUp.{is_kept_unstarted}
use Rattle.cmwq_waits.specs.declared.look.Awaited.{Awaited}
use Rattle.cmwq_waits.specs.declared.look.Awaited.TheVariants.{Item, Queue}
use Rattle.cmwq_waits.specs.Refused.{stays_open}

-- an item's unstarted queueing, unless it is taken back
abbrev pub unstarted_left : List Entry → Option ItemId → ℕ → Option Queueing
unstarted_left past taken i = if option_map_or (λ (j : ItemId). j.0 == i) taken false then None
    else unstarted_queueing past i

-- what is queued has the next number, and is of an item without one
pub record IsNext (s : Layout) (past : List Entry) (x : Queueing) : Type 0 where
  pub number : x.number ≡ length past
  pub unstarted : is_started past x.number ≡ false
  pub alone : unstarted_queueing past x.item.0 ≡ None
  pub item : x.item.0 < s.items
  pub queue : x.place.queue.0 < length s.queues
  pub cpu : x.place.cpu.0 < s.cpus

abbrev pub IsQueuedNext : Layout → List Entry → Option Queueing → Type 0
IsQueuedNext s past o = (x : Queueing) → o ≡ Some x → IsNext s past x

-- the scene of a legal history, without what is taken back of an item, and with what is queued
pub record IsScene (c : Scene) : Type 0 where
  pub taken : Option ItemId
  pub more : Option Queueing
  pub opened : c.opened ≡ filter (stays_open c.past taken) (still_open c.past) ++ option_to_list more
  pub legal : IsLegal c.layout c.past
  pub next : IsQueuedNext c.layout c.past more

-- a ticket of which it may be asked what it waits for
pub record IsKnown (c : Scene) (t : Ticket) : Type 0 where
  pub there : has_numbers c.layout t.call ≡ true
  pub is_unended : IsUnendedOrNext c.past t

-- runs that wait, where one may be about to begin
pub record IsSeen (past : List Entry) (w : RunWait) : Type 0 where
  pub is_open : Contains (still_open past) w.run
  pub has_started : is_started past w.run.number ≡ true

abbrev pub AreSeen : List Entry → List RunWait → Type 0
AreSeen past set = (w : RunWait) → Contains set w → IsSeen past w

-- the ticket waits for an unstarted queueing of this item that these runs keep
abbrev pub holds_of_item : Scene → List RunWait → Ticket → ℕ → Queueing → Bool
holds_of_item c set t i x = is_unstarted c.past i x && is_held_up_by c set t x

abbrev pub is_item_held : Scene → List RunWait → Ticket → ℕ → Bool
is_item_held c set t i = list_any (holds_of_item c set t i) c.opened

-- or of any item
abbrev pub holds_unstarted : Scene → List RunWait → Ticket → Queueing → Bool
holds_unstarted c set t x = not (is_started c.past x.number) && is_held_up_by c set t x

-- what is queued that a ticket of a call waits for
abbrev pub awaited_by : Call → Option Awaited
awaited_by (call.FlushItem i) = Some (Item i)
awaited_by (call.FlushDelayed i) = Some (Item i)
awaited_by (call.Flush q) = Some (Queue q)
awaited_by (call.Drain q) = Some (Queue q)
awaited_by (call.Destroy q) = Some (Queue q)
awaited_by c = None

-- what the ticket waits for of what has not started is on this queue
abbrev pub WaitsForQueue : Scene → Ticket → ℕ → Type 0
WaitsForQueue c t q = (x : Queueing) → is_started c.past x.number ≡ false → awaits c.past t x ≡ true
    → x.place.queue.0 ≡ q

-- a queueing that comes after all that is open at its place
abbrev pub last_at : Scene → QueueId → ℕ → Queueing
last_at c q cpu =
    record {
      item = record { 0 = 0 };
      place = record { queue = q; cpu = record { 0 = cpu } };
      number = length c.past;
    }

-- the runs have neither all workers nor all places of the queue on this CPU
abbrev pub LeavesSome : Scene → List RunWait → QueueId → ℕ → Type 0
LeavesSome c set q cpu = (have_all_workers c.layout set (last_at c q cpu).place ≡ false)
    × (have_all_places c set (last_at c q cpu) ≡ false)

-- so they keep nothing of the queue but of their own items
abbrev pub KeepNone : Scene → List RunWait → ℕ → Type 0
KeepNone c set q =
    (x : Queueing) → Contains c.opened x → x.place.queue.0 ≡ q → is_kept_unstarted c set x ≡ false
