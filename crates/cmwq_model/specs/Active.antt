-- Active queueings, and the order in which a pool starts them.
use Rattle.std.specs.Prelude.{Bool, false, ◌&&◌, ◌||◌, not, ◌==◌, List, [], ◌∷◌, ◌++◌, filter, find, count_by, Option}
use Rattle.std.specs.Prelude.{nat_lt}
use Rattle.cmwq_model.specs.declared.id.PoolId.{PoolId}
use Rattle.cmwq_model.specs.declared.entry.Entry.{Entry}
use Rattle.cmwq_model.specs.declared.record.Place.{Place}
use Rattle.cmwq_model.specs.declared.record.Queueing.{Queueing}
use Rattle.cmwq_model.specs.Layout.{Layout, pool_at}
use Rattle.cmwq_model.specs.Widths.{width}
use Rattle.cmwq_model.specs.Calls.{same_pool}
use Rattle.cmwq_model.specs.Fate.{is_started}
use Rattle.cmwq_model.specs.Runs.{item_runs}
use Rattle.cmwq_model.specs.Queueings.{queueings, still_open, is_live}

-- on the same queue and CPU
abbrev pub same_place : Place → Place → Bool
same_place p r = (p.queue.0 == r.queue.0) && (p.cpu.0 == r.cpu.0)

abbrev pub is_ahead : Queueing → Queueing → Bool
is_ahead x y = same_place y.place x.place && nat_lt y.number x.number

-- it is below max_active: fewer older ones are open on its queue and CPU than the queue is wide
abbrev pub is_below_max_active : Layout → List Entry → Queueing → Bool
is_below_max_active s past x = nat_lt (count_by (is_ahead x) (still_open past)) (width s past x.place.queue.0)

-- active: open, and active before the last entry or below max_active now; so what has become active stays so while it
-- is open
unfoldable pub is_active : Layout → List Entry → Queueing → Bool
is_active s [] x = false
is_active s (e ∷ past) x = is_live (e ∷ past) x && (is_active s past x || is_below_max_active s (e ∷ past) x)

-- what an entry made active, by number
abbrev pub is_newly_active : Layout → List Entry → Entry → Queueing → Bool
is_newly_active s past e x = is_active s (e ∷ past) x && not (is_active s past x)

abbrev pub newly_active : Layout → List Entry → Entry → List Queueing
newly_active s past e = filter (is_newly_active s past e) (queueings (e ∷ past))

-- all that ever became active, by the event that made them so, and those of one event by number
unfoldable pub became_active : Layout → List Entry → List Queueing
became_active s [] = []
became_active s (e ∷ past) = became_active s past ++ newly_active s past e

-- a pool's worklist: its active queueings that haven't started, in that order
abbrev pub is_listed : Layout → List Entry → PoolId → Queueing → Bool
is_listed s past p x = is_active s past x && not (is_started past x.number) && same_pool (pool_at s x.place) p

unfoldable pub worklist : Layout → List Entry → PoolId → List Queueing
worklist s past p = filter (is_listed s past p) (became_active s past)

-- the next to start: the first whose item has no run
abbrev pub is_startable : List Entry → Queueing → Bool
is_startable past x = not (item_runs past x.item.0)

unfoldable pub next : Layout → List Entry → PoolId → Option Queueing
next s past p = find (is_startable past) (worklist s past p)
