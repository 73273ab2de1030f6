-- How the waits of a history go on from entry to entry, and the tickets of lent callers.
use Rattle.std.specs.Prelude.{◌++◌, ◌∷◌, ◌≡◌, Contains, List, None, Some, ℕ, false, filter, is_some, length, true, []}
use Rattle.cmwq_model.specs.Prelude.{IsLegal, Layout, gives_ticket, ticket_in, unended_tickets}
use Rattle.cmwq_model.specs.declared.entry.Entry.{Entry}
use Rattle.cmwq_model.specs.declared.id.Who.TheVariants.{Caller, Worker}
use Rattle.cmwq_model.specs.declared.id.WorkerId.{WorkerId}
use Rattle.cmwq_model.specs.declared.record.Ticket.{Ticket}
use Rattle.cmwq_model.specs.declared.reply.Reply.TheVariants as reply
use Rattle.cmwq_theory_steps.specs.Histories.{OfEachEntry}
use Rattle.cmwq_theory_steps.specs.ItemQueueings.{queueing_run}
use Rattle.cmwq_waits.specs.Begun.{is_lent, laid, wait_begun, waits_of, waits_on}
use Rattle.cmwq_waits.specs.Registered.{is_run_of}
use Rattle.cmwq_waits.specs.declared.run_wait.RunWait.{RunWait}

-- ---- how they go on

-- an entry that begins no wait takes out those whose run makes it or whose ticket it ends
abbrev pub EntriesGoOn : Type 0
EntriesGoOn = (first : ℕ) (past : List Entry) (e : Entry) → wait_begun first past e ≡ None
    → waits_of first (e ∷ past) ≡ filter (waits_on past e) (waits_of first past)

-- a sleep alone changes nothing
abbrev pub SleepsAddNone : Type 0
SleepsAddNone = (first : ℕ) (s : Layout) (past : List Entry) (e : Entry) → IsLegal s (e ∷ past)
    → e.reply ≡ reply.Slept → waits_of first (e ∷ past) ≡ waits_of first past

-- A wait begins by two entries: the worker's sleep, and a lent caller's call that is given a ticket.
pub record IsPair (first : ℕ) (past : List Entry) (sleep call : Entry) (w : RunWait) : Type 0 where
  pub worker : WorkerId
  pub by_worker : sleep.who ≡ Worker worker
  pub slept : sleep.reply ≡ reply.Slept
  pub runs : queueing_run past (Worker worker) ≡ Some w.run
  pub lent : is_lent first call.who ≡ true
  pub given : ticket_in call (length (sleep ∷ past)) ≡ Some w.ticket

-- after it that run waits too, for this ticket, and no other wait has ended
abbrev pub PairsAddOne : Type 0
PairsAddOne = (first : ℕ) (s : Layout) (past : List Entry) (sleep call : Entry) (w : RunWait)
    → IsLegal s (call ∷ sleep ∷ past) → IsPair first past sleep call w
    → waits_of first (call ∷ sleep ∷ past) ≡ waits_of first past ++ w ∷ []

-- ---- the tickets of lent callers

-- A lent caller is given a ticket only right after a run fell asleep.
abbrev pub LentFollowSleeps : ℕ → List Entry → Type 0
LentFollowSleeps first = OfEachEntry (λ past e. is_lent first e.who ≡ true → gives_ticket e.reply ≡ true
    → is_some (laid past) ≡ true)

-- A run that waits makes no entry.
abbrev pub WaitersMakeNone : ℕ → List Entry → Type 0
WaitersMakeNone first = OfEachEntry (λ past e. (w : RunWait) → Contains (waits_of first past) w
    → is_run_of (queueing_run past e.who) w ≡ false)

-- the wait by this ticket
pub record WaitsFor (first : ℕ) (past : List Entry) (t : Ticket) : Type 0 where
  pub wait : RunWait
  pub there : Contains (waits_of first past) wait
  pub ticket : wait.ticket ≡ t

-- Then each unended ticket of a lent caller is one for which a run waits.
abbrev pub LentTicketsAreWaits : Type 0
LentTicketsAreWaits = (first : ℕ) (s : Layout) (past : List Entry) → IsLegal s past → LentFollowSleeps first past
    → WaitersMakeNone first past → (t : Ticket) → Contains (unended_tickets past) t
    → is_lent first (Caller t.caller) ≡ true → WaitsFor first past t
