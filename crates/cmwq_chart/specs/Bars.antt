-- Bars: the runs of a history, each from the entry that started it to the one that finished it.
use Rattle.std.specs.Prelude.{◌≡◌, ◌<◌, ℕ, if◌then◌else◌, List, [], ◌∷◌, ◌++◌, length, Option, Some, None, option_map}
use Rattle.std.specs.Prelude.{option_and_then, option_to_list, slice_get}
use Rattle.std.specs.Option.{option_or}
use Rattle.cmwq_model.specs.declared.entry.Entry.{Entry}
use Rattle.cmwq_model.specs.declared.record.Queueing.{Queueing}
use Rattle.cmwq_model.specs.declared.record.Start.{Start}
use Rattle.cmwq_model.specs.Prelude.{finishes, start_in, item_at, number_started, queueing_at}
use Rattle.cmwq_chart.specs.declared.bars.Bar.{Bar}

-- the place of the first entry that finishes this queueing
unfoldable pub finish_place : List Entry → ℕ → Option ℕ
finish_place [] n = None
finish_place (e ∷ past) n = option_or (finish_place past n) (if finishes n e then Some (length past) else None)

-- the bar of a run of item i that begins at a place: it ends where the whole history finishes it, if it does
abbrev pub bar_from : List Entry → ℕ → Start → ℕ → Bar
bar_from whole place start i =
    record {
      worker = start.worker;
      item = record { 0 = i };
      number = start.number;
      from = place;
      to =
          finish_place whole start.number;
    }

-- the bar that an entry after past begins, in the whole history
abbrev pub bar_of : List Entry → List Entry → Entry → Option Bar
bar_of whole past e =
    option_and_then (λ (start : Start). option_map (bar_from whole (length past) start) (item_at past start.number))
    (start_in e)

unfoldable pub bars_in : List Entry → List Entry → List Bar
bars_in whole [] = []
bars_in whole (e ∷ past) = bars_in whole past ++ option_to_list (bar_of whole past e)

abbrev pub bars_of : List Entry → List Bar
bars_of past = bars_in past past

-- the queueing that an entry starts
abbrev pub started_by : List Entry → Entry → Option Queueing
started_by past e = option_and_then (queueing_at past) (number_started e.reply)

-- a table of the finishes of the queueings of a past, and what an entry more makes of it
abbrev pub AreFinishes : List Entry → List (Option ℕ) → Type 0
AreFinishes past table =
    (length table ≡ length past) × ((k : ℕ) → k < length past → slice_get table k ≡ Some (finish_place past k))

abbrev pub FinishIsKept : List (Option ℕ) → List (Option ℕ) → Entry → ℕ → Type 0
FinishIsKept old new e place =
    (length new ≡ length old)
    × ((k : ℕ) → k < length old
    → slice_get new k ≡ option_map (λ before. option_or before (if finishes k e then Some place else None))
    (slice_get old k))

-- with the end that the table has
abbrev pub ended_bar : List (Option ℕ) → Bar → Bar
ended_bar table b = record b { to = option_and_then (λ place. place) (slice_get table b.number) }
