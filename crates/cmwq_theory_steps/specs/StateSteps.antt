-- What is kept of workers, items, time and serials after one more entry.
use Rattle.std.specs.Prelude.{◌≡◌, ◌+◌, ◌&&◌, ◌||◌, if◌then◌else◌, ◌∷◌}
use Rattle.cmwq_theory_steps.specs.Common.{ℕ, true, false, not, List, length, Some, ItemId, WorkerId, Who, Worker}
use Rattle.cmwq_theory_steps.specs.Common.{Entry, Place, Layout, same_who, is_by, is_of_item, item_called, item_of}
use Rattle.cmwq_theory_steps.specs.Common.{serial_of, ticks_told, now, settles, due_in, booking, booking_of}
use Rattle.cmwq_theory_steps.specs.Common.{asleep_after, is_asleep, opens, opening, place_called, place_wanted}
use Rattle.cmwq_theory_steps.specs.Common.{queued_at, enlists, is_retired, is_enlisted, IsLegal}
use Rattle.cmwq_theory_steps.specs.Histories.{one}

-- a worker sleeps as its own last entry left it
abbrev pub SleepersGoOn : Type 0
SleepersGoOn = (past : List Entry) (e : Entry) (w : WorkerId)
    → is_asleep (e ∷ past) w
    ≡ (if is_by (Worker w) e then asleep_after e.reply (is_asleep past w) else is_asleep past w)

-- a worker is enlisted if the entry enlists it, or it was and doesn't retire
abbrev pub EnlistedGoOn : Type 0
EnlistedGoOn = (past : List Entry) (e : Entry) (w : WorkerId)
    → is_enlisted (e ∷ past) w ≡ (enlists e w || (not (is_by (Worker w) e && is_retired e.reply) && is_enlisted past w))

-- an item is booked as the last entry that settles it booked it
abbrev pub BookingsGoOn : Type 0
BookingsGoOn = (past : List Entry) (e : Entry) (i : ℕ)
    → booking (e ∷ past) i ≡ (if settles e.reply && is_of_item i e then booking_of e (length past) else booking past i)

abbrev pub TimeGoesOn : Type 0
TimeGoesOn = (past : List Entry) (e : Entry) → now (e ∷ past) ≡ now past + ticks_told e.call

abbrev pub SerialsGoOn : Type 0
SerialsGoOn = (past : List Entry) (e : Entry) (who : Who)
    → serial_of (e ∷ past) who ≡ one (is_by who e) + serial_of past who

-- so its own caller's or worker's serial rises by one, and no other's
abbrev pub SerialsRise : Type 0
SerialsRise = (past : List Entry) (e : Entry) → (serial_of (e ∷ past) e.who ≡ serial_of past e.who + 1)
    × ((who : Who) → same_who e.who who ≡ false → serial_of (e ∷ past) who ≡ serial_of past who)

-- a reply that says so many ticks books the item of the call, on its place, until then
pub record BooksAsAsked (past : List Entry) (e : Entry) (d : ℕ) : Type 0 where
  pub item : ItemId
  pub place : Place
  pub is_item : item_called e.call ≡ Some item.0
  pub is_place : place_called e.call ≡ Some place
  pub books : booking_of e (length past) ≡ Some (record { item = item; place = place; due = d; number = length past })

abbrev pub EntriesBookAsAsked : Type 0
EntriesBookAsAsked = (s : Layout) (past : List Entry) (e : Entry) (d : ℕ) → IsLegal s (e ∷ past)
    → due_in e.reply ≡ Some d → BooksAsAsked past e d

-- a reply that opens a queueing opens one of the item, on the place that is asked for or booked
pub record OpensAsAsked (past : List Entry) (e : Entry) : Type 0 where
  pub item : ℕ
  pub place : Place
  pub is_item : item_of e ≡ Some item
  pub is_place : place_wanted past e.call item ≡ Some place
  pub opened : opening past e ≡ Some (queued_at past item place)

abbrev pub EntriesOpenAsAsked : Type 0
EntriesOpenAsAsked = (s : Layout) (past : List Entry) (e : Entry) → IsLegal s (e ∷ past) → opens e.reply ≡ true
    → OpensAsAsked past e
