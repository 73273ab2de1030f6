-- What the first k entries made of it.
use Rattle.std.specs.Prelude.{◌+◌}
use Rattle.cmwq_plain.specs.Common.{ℕ, List, filter, count_by, Option, None, WorkerId, Call, Entry, Queueing, bookings}
use Rattle.cmwq_plain.specs.Common.{standing_bookings, stands, has_run, runs_asleep, may_fire, serving_from, is_ahead}
use Rattle.cmwq_model.specs.declared.record.Booking.{Booking}
use Rattle.cmwq_model.specs.declared.call.Call.TheVariants as call
use Rattle.cmwq_plain.specs.Past.{upto, open_upto}

-- the bookings that may fire, and those of them that the first k entries made
abbrev pub fireable : List Entry → List Booking
fireable past = filter (may_fire past) (standing_bookings past)

unfoldable pub fireable_upto : List Entry → ℕ → List Booking
fireable_upto past k = filter (may_fire past) (filter (stands past) (bookings (upto past k)))

-- the bookings that stand of those that the first k entries made
unfoldable pub standing_upto : List Entry → ℕ → List Booking
standing_upto past k = filter (stands past) (bookings (upto past k))

-- the position from which a flush is served, if it is; no other wait has one
abbrev pub served_by : List Entry → ℕ → Call → Option ℕ
served_by past n (call.Flush q) = serving_from past q.0 n
served_by past n c = None

-- how many of what the first k entries opened are open and ahead of the queueing
unfoldable pub ahead_upto : List Entry → Queueing → ℕ → ℕ
ahead_upto past x k = count_by (is_ahead x) (open_upto past k)

-- what the runs of these workers owe: 1 entry each, and 1 more for each that sleeps
abbrev pub owed_by_runs : List Entry → List WorkerId → ℕ
owed_by_runs past ws = count_by (has_run past) ws + count_by (runs_asleep past) ws
