-- What a fault says: a call that answers one has made no entry, or it had begun and tells its ticket.
use Rattle.std.specs.Prelude.{◌≡◌, ◌≢◌, ◌⊎◌, ◌<◌}
use Rattle.cmwq_monitor.specs.Common.{ℕ, Bool, true, false, [], length, None, Call, Layout, past_of, has_room}
use Rattle.cmwq_monitor.specs.Participants.{View, Gains, is_caller}
use Rattle.cmwq_monitor.specs.declared.fault.RunFault.{RunFault}
use Rattle.cmwq_monitor.specs.declared.fault.RunFault.TheVariants.{NoMemory, Full, Unfinished, NoPlace, Closed}
use Rattle.cmwq_monitor.specs.declared.fault.RunFault.TheVariants.{Stranger, NoThread}

-- a hub that isn't the participant's own has another count of its entries, or a shorter history than it has seen
abbrev pub Differs : View → ℕ → ℕ → Type 0
Differs w own book = ((own ≡ w.serial) × (book ≢ own)) ⊎ ((own ≡ length w.seen) × (book < own))

abbrev pub IsStranger : View → RunFault → Type 0
IsStranger w f = (own : ℕ) × (book : ℕ) × (f ≡ Stranger own book) × Differs w own book

-- There was no room for the call after all that it now sees; or the hub isn't its own; or it takes none of this one,
-- which is told to callers alone. A call of one entry begins no ticket, and answers no other fault.
abbrev pub SaysFault : Layout → View → Call → RunFault → Type 0
SaysFault s w call (NoMemory ticket) = ticket ≡ None
SaysFault s w call Full = has_room s s.room (past_of w.seen) w.who call ≡ false
SaysFault s w call Unfinished = ⊥
SaysFault s w call NoPlace = ⊥
SaysFault s w call Closed = is_caller w.who ≡ true
SaysFault s w call (Stranger own book) = Differs w own book
SaysFault s w call NoThread = ⊥

abbrev pub is_full : RunFault → Bool
is_full Full = true
is_full f = false

-- a call of one entry that answered this fault: it made none
abbrev pub Refused : Layout → View → Call → RunFault → View → Type 0
Refused s v call f w = Gains v [] w × SaysFault s w call f
