-- Who of a hub sleeps.
use Rattle.std.specs.Prelude.{◌≡◌, ◌<◌, ◌*◌, ◌&&◌, ◌||◌, ◌∷◌, ◌++◌, ◌⊎◌, true, false, List, [], filter, length, not}
use Rattle.std.specs.Prelude.{Contains}
use Rattle.cmwq_dispatch.specs.Waiting.{is_of_other}
use Rattle.std.specs.List.{AllByRecursion}
use Rattle.cmwq_model.specs.Prelude.{Layout, same_worker}
use Rattle.cmwq_model.specs.declared.entry.Entry.{Entry}
use Rattle.cmwq_model.specs.declared.id.CallerId.{CallerId}
use Rattle.cmwq_model.specs.declared.id.Who.{Who}
use Rattle.cmwq_model.specs.declared.id.Who.TheVariants.{Caller, Worker}
use Rattle.cmwq_model.specs.declared.id.WorkerId.{WorkerId}
use Rattle.cmwq_model.specs.declared.record.Ticket.{Ticket}
use Rattle.cmwq_theory_wakes.specs.Rest.{NoneForgotten}
use Rattle.cmwq_dispatch.specs.Naming.{NamesMore, names_caller, names_worker}
use Rattle.cmwq_dispatch.specs.Pools.{AllRecorded, rests}
use Rattle.cmwq_dispatch.specs.declared.resting.RestingWorkers.{RestingWorkers}
use Rattle.cmwq_dispatch.specs.declared.wakes.Wakes.{Wakes}

-- The tickets for which callers sleep that were not named since, and for each pool which of its workers rest.
pub record Asleep : Type 0 where
  pub tickets : List Ticket
  pub pools : List RestingWorkers

-- Nobody is forgotten, and what is recorded of each pool is true.
pub record IsLookedAfter (s : Layout) (past : List Entry) (a : Asleep) : Type 0 where
  pub none_forgotten : NoneForgotten s past a.tickets (rests a.pools)
  pub callers : AllByRecursion (λ t. t.caller.0 < s.callers) a.tickets
  pub recorded : AllRecorded past a.pools
  pub places : length a.pools ≡ 2 * s.cpus

-- Nobody sleeps, and nothing is recorded.
pub record NobodySleeps (a : Asleep) : Type 0 where
  pub callers : a.tickets ≡ []
  pub workers : (w : WorkerId) → rests a.pools w ≡ false
  pub recorded : (past : List Entry) → AllRecorded past a.pools

-- ---- one begins to sleep, or rises

-- The caller of one more ticket sleeps, which stands among those of the others.
pub record IsAmong (t : Ticket) (old new : List Ticket) : Type 0 where
  pub before : List Ticket
  pub after : List Ticket
  pub was : old ≡ before ++ after
  pub now : new ≡ before ++ t ∷ after

pub record Waits (t : Ticket) (old new : Asleep) : Type 0 where
  pub tickets : IsAmong t old.tickets new.tickets
  pub pools : new.pools ≡ old.pools

-- One more worker rests.
pub record Rests (w : WorkerId) (old new : Asleep) : Type 0 where
  pub tickets : new.tickets ≡ old.tickets
  pub workers : (v : WorkerId) → rests new.pools v ≡ (rests old.pools v || same_worker v w)

-- This caller or worker sleeps no more.
pub record Leaves (c : CallerId) (old new : Asleep) : Type 0 where
  pub tickets : new.tickets ≡ filter (is_of_other c.0) old.tickets
  pub pools : new.pools ≡ old.pools

pub record Rises (w : WorkerId) (old new : Asleep) : Type 0 where
  pub tickets : new.tickets ≡ old.tickets
  pub workers : (v : WorkerId) → rests new.pools v ≡ (rests old.pools v && not (same_worker v w))

abbrev pub IsUpAgain : Who → Asleep → Asleep → Type 0
IsUpAgain (Caller c) old new = Leaves c old new
IsUpAgain (Worker w) old new = Rises w old new

-- ---- an entry is made

-- Whoever slept sleeps on, or is named, or made the entry. Nobody else sleeps.
pub record SleepOn (who : Who) (old new : Asleep) (before after : Wakes) : Type 0 where
  pub callers : (t : Ticket) → Contains old.tickets t
      → Contains new.tickets t ⊎ (names_caller after t.caller.0 ≡ true)
  pub workers : (w : WorkerId) → rests old.pools w ≡ true
      → (rests new.pools w ≡ true) ⊎ (names_worker after w ≡ true) ⊎ (who ≡ Worker w)
  pub no_more_callers : (t : Ticket) → Contains new.tickets t → Contains old.tickets t
  pub no_more_workers : (w : WorkerId) → rests new.pools w ≡ true → rests old.pools w ≡ true
  pub named : NamesMore before after
