-- What a hub's end leaves to those who were handed in.
use Rattle.std.specs.Prelude.{◌≡◌}
use Rattle.cmwq_monitor.specs.Common.{ℕ, List, Some, slice_get, IsPrefix, Entry, serial_of, past_of}
use Rattle.cmwq_monitor.specs.Participants.{View}

-- it sees all of the history, which begins with what it had seen and has as many entries of it as its serial says
abbrev pub Settles : List Entry → View → View → Type 0
Settles history v w = (w ≡ record v { seen = history }) × IsPrefix v.seen history
    × (serial_of (past_of history) v.who ≡ v.serial)

abbrev pub AllSettle : List Entry → List View → List View → Type 0
AllSettle history old new = (k : ℕ) (v w : View) → slice_get old k ≡ Some v → slice_get new k ≡ Some w
    → Settles history v w
