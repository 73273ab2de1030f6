-- Who may sleep by the lock of a hub.
use Rattle.std.specs.Prelude.{◌≡◌, ◌⊎◌, Contains}
use Rattle.cmwq_rt.specs.Common.{true, None, Some, Layout, Who, ℕ, past_of}
use Rattle.cmwq_model.specs.Prelude.{ticket_of}
use Rattle.cmwq_model.specs.declared.id.CallerId.{CallerId}
use Rattle.cmwq_model.specs.declared.id.Who.TheVariants as who
use Rattle.cmwq_model.specs.declared.record.Ticket.{Ticket}
use Rattle.cmwq_dispatch.specs.Pools.{rests}
use Rattle.cmwq_monitor.specs.Held.{Held, is_over}
use Rattle.cmwq_turns.specs.declared.party.Awaited.{Awaited}
use Rattle.cmwq_turns.specs.declared.party.Awaited.TheVariants as awaited

-- The caller is registered as asleep for this ticket, so that it is named once the wait is ready.
pub record IsRegistered (h : Held) (c : CallerId) (n : ℕ) : Type 0 where
  pub ticket : Ticket
  pub given : ticket_of (past_of h.history) (who.Caller c) n ≡ Some ticket
  pub asleep : Contains h.asleep.tickets ticket

-- No wait for this ticket will ever be ready: the hub is over, or the caller has no such ticket.
abbrev pub NeverReady : Layout → Held → CallerId → ℕ → Type 0
NeverReady s h c n = (is_over s h ≡ true) ⊎ (ticket_of (past_of h.history) (who.Caller c) n ≡ None)

-- Under this hold of the lock, whoever has to wake the caller knows that it sleeps, or nobody will have to. Once others
-- have been let in they may have named it already, so that nobody would name it again.
abbrev pub WaitsHere : Layout → Held → CallerId → ℕ → Type 0
WaitsHere s h c n = IsRegistered h c n ⊎ NeverReady s h c n

abbrev pub MaySleepFor : Layout → Held → Who → ℕ → Type 0
MaySleepFor s h w n = (c : CallerId) × (w ≡ who.Caller c) × WaitsHere s h c n

-- So it is also with a worker that has nothing to start, and with one that has no space for its entry.
abbrev pub MaySleep : Layout → Held → Who → Awaited → Type 0
MaySleep s h (who.Caller c) (awaited.Ticket d call n) = (d ≡ c) × WaitsHere s h c n
MaySleep s h (who.Worker w) awaited.Work = rests h.asleep.pools w ≡ true
MaySleep s h w awaited.Space = h.crowded ≡ true
MaySleep s h w a = ⊥
