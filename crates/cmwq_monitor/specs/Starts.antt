-- What a worker starts.
use Rattle.std.specs.Prelude.{◌≡◌}
use Rattle.cmwq_monitor.specs.Common.{ℕ, List, Some, ItemId, Reply, Entry, Queueing, Layout, number_started}
use Rattle.cmwq_monitor.specs.Common.{queueing_at, past_of}
use Rattle.cmwq_model.specs.declared.call.Call.TheVariants as call
use Rattle.cmwq_monitor.specs.Participants.{View}
use Rattle.cmwq_monitor.specs.Calls.{Extends, own_entry}

-- the entry starts a queueing, and this is its item
abbrev pub StartsItem : List Entry → Entry → ItemId → Type 0
StartsItem past e item = (n : ℕ) × (x : Queueing) × (number_started e.reply ≡ Some n) × (queueing_at past n ≡ Some x)
    × (item ≡ x.item)

-- a worker made one entry, which starts a queueing of this item
abbrev pub StartsOne : Layout → View → ItemId → View → Type 0
StartsOne s v item w = (r : Reply) × (taken : Extends s v call.Take r w)
    × StartsItem (past_of taken.before) (own_entry s taken.before v call.Take) item
