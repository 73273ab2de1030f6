-- What holds a wait up, and which waits of runs could never end.
use Rattle.std.specs.Prelude.{◌&&◌, ◌==◌, ◌||◌, ◌≡◌}
use Rattle.cmwq_waits.specs.Common.{ℕ, Bool, true, List, not, nat_le, filter, count_by, list_any}
use Rattle.cmwq_waits.specs.Common.{sum_by, Contains, Layout, Entry, Place, Queueing, Ticket, RunWait, cancels_sync}
use Rattle.cmwq_waits.specs.Common.{holds_up, is_ahead, is_started, is_active, max_active, pool_at, same_pool}
use Rattle.cmwq_waits.specs.Common.{still_open, unended_tickets}

-- ---- runs that wait

-- the run has started and is open, and the ticket for which it waits is unended
pub record IsWaiting (past : List Entry) (w : RunWait) : Type 0 where
  pub is_open : Contains (still_open past) w.run
  pub has_started : is_started past w.run.number ≡ true
  pub is_unended : Contains (unended_tickets past) w.ticket

abbrev pub AreWaiting : List Entry → List RunWait → Type 0
AreWaiting past waits = (w : RunWait) → Contains waits w → IsWaiting past w

-- ---- what they hold up

-- a history, and the queueings that are open
pub record Scene : Type 0 where
  pub layout : Layout
  pub past : List Entry
  pub opened : List Queueing

-- a ticket waits for an open queueing: that of a cancel_sync for the item's run
abbrev pub awaits : List Entry → Ticket → Queueing → Bool
awaits past t x = holds_up past t.number t.call x || (cancels_sync x.item.0 t.call && is_started past x.number)

-- the item has one of these runs
abbrev pub is_of_item : ℕ → RunWait → Bool
is_of_item i w = w.run.item.0 == i

abbrev pub has_run_of : List RunWait → ℕ → Bool
has_run_of set i = list_any (is_of_item i) set

-- these runs have all workers of the pool to which a place belongs
abbrev pub is_in_pool : Layout → Place → RunWait → Bool
is_in_pool s p w = same_pool (pool_at s w.run.place) (pool_at s p)

abbrev pub have_all_workers : Layout → List RunWait → Place → Bool
have_all_workers s set p = nat_le s.workers (count_by (is_in_pool s p) set)

-- These runs, and what their items have queued behind them, have all places that come before a queueing's: of the
-- older queueings on its queue and CPU, those of their items are as many as max_active, which is the width that the
-- queue has when it is thawed.
abbrev pub is_ahead_of_item : Queueing → ℕ → Queueing → Bool
is_ahead_of_item x i y = (y.item.0 == i) && is_ahead x y

abbrev pub places_ahead : Scene → Queueing → RunWait → ℕ
places_ahead c x w = count_by (is_ahead_of_item x w.run.item.0) c.opened

abbrev pub have_all_places : Scene → List RunWait → Queueing → Bool
have_all_places c set x = nat_le (max_active c.layout c.past x.place.queue.0) (sum_by (places_ahead c x) set)

-- An open queueing cannot end before one of these runs has: its item has such a run; or it has not started, and they
-- have all workers of its pool, or it is inactive and they have all places before its own.
abbrev pub is_kept_unstarted : Scene → List RunWait → Queueing → Bool
is_kept_unstarted c set x = have_all_workers c.layout set x.place
    || (not (is_active c.layout c.past x) && have_all_places c set x)

abbrev pub is_kept : Scene → List RunWait → Queueing → Bool
is_kept c set x = has_run_of set x.item.0 || (not (is_started c.past x.number) && is_kept_unstarted c set x)

-- a ticket is held up by these runs if it waits for such a queueing
abbrev pub is_held_up_by : Scene → List RunWait → Ticket → Queueing → Bool
is_held_up_by c set t x = awaits c.past t x && is_kept c set x

abbrev pub is_held_up : Scene → List RunWait → Ticket → Bool
is_held_up c set t = list_any (is_held_up_by c set t) c.opened

-- ---- waits that could never end

-- a set of runs that wait, told by the numbers of their queueings
abbrev pub is_in : (ℕ → Bool) → RunWait → Bool
is_in p w = p w.run.number

abbrev pub members : (ℕ → Bool) → List RunWait → List RunWait
members p waits = filter (is_in p) waits

-- Each wait of the set is held up by the set.
abbrev pub IsDeadlock : Scene → List RunWait → (ℕ → Bool) → Type 0
IsDeadlock c waits p =
    (w : RunWait) → Contains waits w → is_in p w ≡ true → is_held_up c (members p waits) w.ticket ≡ true

-- The wait of this run could never end: it is in such a set.
pub record NeverEnds (c : Scene) (waits : List RunWait) (run : ℕ) : Type 0 where
  pub set : ℕ → Bool
  pub has : set run ≡ true
  pub deadlock : IsDeadlock c waits set
