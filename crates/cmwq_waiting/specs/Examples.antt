-- Worked examples: which runs wait, and entries that trap a wait.
use Rattle.std.specs.Prelude.{◌++◌, ◌≡◌, ◌∷◌, List, []}
use Rattle.cmwq_model.specs.Prelude.{IsLegal, Layout, past_of}
use Rattle.cmwq_model.specs.declared.entry.Entry.{Entry}
use Rattle.cmwq_model.specs.declared.reply.Reply.TheVariants as reply
use Rattle.cmwq_model_examples.specs.Words.{caller, entry, normal, queue, set_max}
use Rattle.cmwq_waits_laws.specs.Needed.{made_wider, taken_back, taken_back_behind, waits_for_one}
use Rattle.cmwq_waiting.specs.Deadlocks.{NoDeadlock}
use Rattle.cmwq_waiting.specs.Needed.{draining, one_queue, two_places, two_queues}
use Rattle.cmwq_waits.specs.Begun.{waits_of}

-- ---- which runs wait

-- In these histories caller 0 asks for a ticket after a run fell asleep: the run waits for it, if that caller is lent.
-- It does not wait any more once the ticket has ended. Where the run did not fall asleep it does not wait.
pub record WhoWaits : Type 0 where
  pub waits : waits_of 0 (past_of made_wider.first) ≡ waits_for_one 4 ∷ []
  pub behind : waits_of 0 (past_of taken_back_behind.first) ≡ waits_for_one 5 ∷ []
  pub not_lent : waits_of 1 (past_of made_wider.first) ≡ []
  pub ended : waits_of 0 (past_of made_wider.later ++ past_of made_wider.first) ≡ []
  pub no_sleep : waits_of 0 (past_of taken_back.first) ≡ []

-- ---- entries that trap a wait

-- Before the entry no waits are a deadlock, and after it some are.
pub record Traps (s : Layout) (first : List Entry) (e : Entry) : Type 0 where
  pub legal : IsLegal s (e ∷ past_of first)
  pub none : NoDeadlock 1 s (past_of first)
  pub some : NoDeadlock 1 s (e ∷ past_of first) → ⊥

-- the queue gets narrower
abbrev pub narrowing : Entry
narrowing = entry (caller 0) 3 (set_max 0 1) (reply.Width 1)

-- a run queues on the queue that another run drains
abbrev pub queueing : Entry
queueing = entry (normal 1 0) 1 (queue 2 1 0) (reply.Yes 6)

pub record EntriesMayTrap : Type 0 where
  pub narrows : Traps (one_queue 2) two_places narrowing
  pub queues : Traps two_queues draining queueing
