-- When the unended tickets were given: a row for each caller, by age.
use Rattle.std.specs.Prelude.{ℕ, ◌<◌, ◌==◌, ◌++◌, Bool, not, List, [], ◌∷◌, length, map, filter, find, slice_get}
use Rattle.std.specs.Prelude.{slice_index_or, slice_set, Option, Some, None}
use Rattle.std.specs.Option.{option_map_or}
use Rattle.cmwq_model.specs.declared.entry.Entry.{Entry}
use Rattle.cmwq_model.specs.declared.record.Ticket.{Ticket}
use Rattle.cmwq_model.specs.Prelude.{Layout}
use Rattle.cmwq_refinement.specs.Tickets.{tickets_of}
use Rattle.cmwq_summary.specs.declared.span.Span.{Span}
use Rattle.cmwq_summary.specs.declared.span.TheConstants.{NO_TIME}
use Rattle.cmwq_summary.specs.declared.givings.Giving.{Giving}
use Rattle.cmwq_summary.specs.Spans.{moment, stretch}

abbrev pub giving_at : ℕ → Span → Giving
giving_at n moment = record { number = n; moment = moment }

abbrev pub giving_of : List Entry → Ticket → Giving
giving_of past t = giving_at t.number (moment past t.number)

abbrev pub GivingRows : Type 0
GivingRows = List (List Giving)

-- they are those of the unended tickets
abbrev pub givings_of : Layout → List Entry → GivingRows
givings_of s past = map (map (giving_of past)) (tickets_of s past).rows

-- ---- what is done with them

abbrev pub givings_to : GivingRows → ℕ → List Giving
givings_to rows c = slice_index_or rows c []

abbrev pub is_giving : ℕ → Giving → Bool
is_giving n g = g.number == n

abbrev pub is_other_giving : ℕ → Giving → Bool
is_other_giving n g = not (is_giving n g)

abbrev pub with_giving : GivingRows → Option ℕ → Giving → GivingRows
with_giving rows None g = rows
with_giving rows (Some c) g = slice_set rows c (givings_to rows c ++ g ∷ [])

abbrev pub without_giving : GivingRows → Option Ticket → GivingRows
without_giving rows None = rows
without_giving rows (Some t) =
    slice_set rows t.caller.0 (filter (is_other_giving t.number) (givings_to rows t.caller.0))

-- a caller has fewer than 64 where it is given one more
abbrev pub HasRoomForGiving : GivingRows → Option ℕ → Type 0
HasRoomForGiving rows None = Unit {0}
HasRoomForGiving rows (Some c) = length (givings_to rows c) < 64

-- how long it is since a giving, and so how long the ticket waited that is ended now, and how long a caller's oldest
-- one waits
abbrev pub since_giving : Option Giving → Span → Span
since_giving o to = option_map_or (λ (g : Giving). stretch g.moment to) o NO_TIME

abbrev pub waited_till_end : GivingRows → Option Ticket → Span → Span
waited_till_end rows None to = NO_TIME
waited_till_end rows (Some t) to = since_giving (find (is_giving t.number) (givings_to rows t.caller.0)) to

abbrev pub waits_since : GivingRows → ℕ → Span → Span
waits_since rows c to = since_giving (slice_get (givings_to rows c) 0) to
