-- The queueings in flight: a row for each item, with the one that runs and the one that hasn't started.
use Rattle.std.specs.Prelude.{ℕ, ◌+◌, Bool, List, count_by, slice_index_or, slice_set, Option, Some, None, is_some}
use Rattle.cmwq_model.specs.declared.record.Queueing.{Queueing}

pub record Flight : Type 0 where
  pub run : Option Queueing
  pub unstarted : Option Queueing

abbrev pub no_flight : Flight
no_flight = record { run = None; unstarted = None }

abbrev pub flight_at : List Flight → ℕ → Flight
flight_at flights i = slice_index_or flights i no_flight

abbrev pub flight_has_run : Flight → Bool
flight_has_run f = is_some f.run

abbrev pub has_unstarted : Flight → Bool
has_unstarted f = is_some f.unstarted

-- how many queueings are open: those that run, and those that haven't started
abbrev pub open_count : List Flight → ℕ
open_count flights = count_by flight_has_run flights + count_by has_unstarted flights

-- what becomes of an item's row: its next queueing is opened, cancelled, starts; its run finishes
abbrev pub with_unstarted : Option Queueing → Flight → Flight
with_unstarted o f = record f { unstarted = o }

abbrev pub with_started : Flight → Flight
with_started f = record { run = f.unstarted; unstarted = None }

abbrev pub without_run : Flight → Flight
without_run f = record f { run = None }

-- the rows with one of them changed
abbrev pub with_flight : (Flight → Flight) → ℕ → List Flight → List Flight
with_flight change i flights = slice_set flights i (change (flight_at flights i))

abbrev pub flights_with_open : List Flight → Queueing → List Flight
flights_with_open flights q = with_flight (with_unstarted (Some q)) q.item.0 flights

abbrev pub flights_without_open : List Flight → ℕ → List Flight
flights_without_open flights i = with_flight (with_unstarted None) i flights

abbrev pub flights_with_run : List Flight → ℕ → List Flight
flights_with_run flights i = with_flight with_started i flights

abbrev pub flights_without_run : List Flight → ℕ → List Flight
flights_without_run flights i = with_flight without_run i flights
