-- What callers do.
use Rattle.std.specs.Prelude.{ℕ}
use Rattle.cmwq_model.specs.Prelude.{Layout}
use Rattle.cmwq_model.specs.declared.id.Who.{Who}
use Rattle.cmwq_model.specs.declared.id.Who.TheVariants.{Caller}
use Rattle.cmwq_monitor.specs.Participants.{View}

abbrev pub caller_numbered : ℕ → Who
caller_numbered n = Caller (record { 0 = n })

-- what a caller with this number leaves in a hub of this shape, where so many of its calls were left out: what it sees
-- at last
abbrev pub Conduct : Type 1
Conduct = Layout → ℕ → ℕ → View → Type 0
