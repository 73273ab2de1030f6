-- What the parts of a state are of the past.
use Rattle.std.specs.Prelude.{◌≡◌, ◌+◌, ◌≤◌}
use Rattle.cmwq_state.specs.Common.{ℕ, true, Bool, List, length, Entry, Layout, is_layout, most_room, now, IsLegal}
use Rattle.cmwq_state.specs.Common.{past_of, owed, most_time, PoolState, TimerRows, timers_of, PwqState, Flight}
use Rattle.cmwq_state.specs.Common.{flights_of}
use Rattle.cmwq_flush.specs.FlushBooks.{FlushState}
use Rattle.cmwq_ticket.specs.Rows.{TicketBook}
use Rattle.cmwq_refinement.specs.Tickets.{tickets_of}
use Rattle.cmwq_state.specs.Gone.{AreGone}
use Rattle.cmwq_state.specs.Pwqs.{ArePwqsOf}
use Rattle.cmwq_state.specs.Widths.{AreWidths}
use Rattle.cmwq_state.specs.Tables.{ArePools, AreBooks, AreSerials}

-- the parts, as plain values
pub record Parts : Type 0 where
  pub pools : List PoolState
  pub books : FlushState
  pub timers : TimerRows
  pub time : ℕ
  pub serials : List ℕ
  pub flights : List Flight
  pub tickets : TicketBook
  pub gone : List Bool
  pub pwqs : PwqState
  pub most : List ℕ
  pub frozen : Bool
  pub owing : ℕ

-- what each part is of the past
pub record AreParts (s : Layout) (past : List Entry) (parts : Parts) : Type 0 where
  pub pools : ArePools s past parts.pools
  pub books : AreBooks s past parts.books
  pub timers : parts.timers ≡ timers_of s past
  pub time : parts.time ≡ now past
  pub serials : AreSerials s past parts.serials
  pub flights : parts.flights ≡ flights_of s past
  pub tickets : parts.tickets ≡ tickets_of s past
  pub gone : AreGone s past parts.gone
  pub pwqs : ArePwqsOf s past parts.pwqs
  pub widths : AreWidths s past parts.most parts.frozen
  pub owing : parts.owing ≡ owed s past

pub record IsState (s : Layout) (room : ℕ) (entries : List Entry) (parts : Parts) : Type 0 where
  pub inside : is_layout s ≡ true
  pub few : room ≤ most_room
  pub legal : IsLegal s (past_of entries)
  pub parts_are : AreParts s (past_of entries) parts
  pub within : length entries + parts.owing ≤ room
  pub soon : parts.time ≤ most_time

-- there are as many CPUs, workers, callers, items and queues of both, so that their tables are as long
pub record AreOfOneSize (s t : Layout) : Type 0 where
  pub cpus : s.cpus ≡ t.cpus
  pub workers : s.workers ≡ t.workers
  pub callers : s.callers ≡ t.callers
  pub items : s.items ≡ t.items
  pub queues : length s.queues ≡ length t.queues
