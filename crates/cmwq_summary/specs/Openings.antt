-- How long queueings waited for their start, by the queue and the CPU where they were queued.
use Rattle.std.specs.Prelude.{◌≡◌, ℕ, ◌<◌, List, ◌∷◌, length, Some, None, Option, slice_index_or, slice_set}
use Rattle.std.specs.Option.{option_map_or}
use Rattle.cmwq_model.specs.declared.entry.Entry.{Entry}
use Rattle.cmwq_model.specs.declared.record.Queueing.{Queueing}
use Rattle.cmwq_model.specs.Prelude.{unstarted_queueing}
use Rattle.cmwq_refinement.specs.Flights.{starting}
use Rattle.cmwq_summary.specs.declared.counter.Counter.TheVariants.{Starts}
use Rattle.cmwq_summary.specs.declared.span.Span.{Span}
use Rattle.cmwq_summary.specs.declared.span.TheConstants.{NO_TIME}
use Rattle.cmwq_summary.specs.declared.waits.Waited.{Waited}
use Rattle.cmwq_summary.specs.Figures.{key_of}
use Rattle.cmwq_summary.specs.Spans.{moment, since, stretch}
use Rattle.cmwq_summary.specs.Waits.{Wait, waited}

-- since the entry that opened the queueing that an entry starts
abbrev pub start_wait : Wait
start_wait past e = option_map_or (λ (x : Queueing). since (e ∷ past) x.number) (starting past e) NO_TIME

abbrev pub start_waits_at : List Entry → ℕ → Waited
start_waits_at past p = waited (key_of Starts) start_wait past p

-- ---- when queueings were opened, by item

abbrev pub span_at : List Span → ℕ → Span
span_at spans k = slice_index_or spans k NO_TIME

-- it is the moment after the entry with this number
pub record IsMoment (past : List Entry) (n : ℕ) (m : Span) : Type 0 where
  pub known : n < length past
  pub is : m ≡ moment past n

pub record AreOpeningMoments (items : ℕ) (past : List Entry) (moments : List Span) : Type 0 where
  pub many_are : length moments ≡ items
  pub each : (i : ℕ) (x : Queueing) → i < items → unstarted_queueing past i ≡ Some x
      → IsMoment past x.number (span_at moments i)

-- the table after an entry, and how long the queueing waited that is started now
abbrev pub with_opening : List Span → Option Queueing → Span → List Span
with_opening moments None to = moments
with_opening moments (Some x) to = slice_set moments x.item.0 to

abbrev pub wait_at_start : List Span → Option Queueing → Span → Span
wait_at_start moments None to = NO_TIME
wait_at_start moments (Some x) to = stretch (span_at moments x.item.0) to
