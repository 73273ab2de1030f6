-- How the rows and the slab of the queueings in flight hang together.
use Rattle.std.specs.Prelude.{◌≡◌, ◌≢◌, ℕ, ◌+◌, ◌*◌, ◌^◌, ◌<◌, ◌≤◌, Bool, List, length, map, count_by, slice_index_or}
use Rattle.std.specs.Prelude.{Option, Some, None, is_some, option_and_then, IfSome, IsSomeAnd}
use Rattle.slab.specs.Slab.{Slab, get, slab_len}
use Rattle.cmwq_model.specs.declared.record.Queueing.{Queueing}
use Rattle.cmwq_inflight.specs.declared.flights.Keys.{Keys}
use Rattle.cmwq_inflight.specs.Flights.{Flight}

abbrev pub no_keys : Keys
no_keys = record { run = None; unstarted = None }

abbrev pub keys_at : List Keys → ℕ → Keys
keys_at rows i = slice_index_or rows i no_keys

-- the queueings that a row's keys name
abbrev pub flight_by : Slab Queueing → Keys → Flight
flight_by slab keys =
    record { run = option_and_then (get slab) keys.run; unstarted = option_and_then (get slab) keys.unstarted }

abbrev pub flights_by : Slab Queueing → List Keys → List Flight
flights_by slab rows = map (flight_by slab) rows

-- a key, if there is one, names a queueing of item i
abbrev pub NamesOneOf : Slab Queueing → ℕ → Option ℕ → Type 0
NamesOneOf slab i key = IfSome key (λ k. IsSomeAnd (get slab k) (λ q. q.item.0 ≡ i))

-- the keys of item i, which differ
pub record AreKeysOf (slab : Slab Queueing) (i : ℕ) (keys : Keys) : Type 0 where
  pub run : NamesOneOf slab i keys.run
  pub unstarted : NamesOneOf slab i keys.unstarted
  pub differ : (k : ℕ) → keys.run ≡ Some k → keys.unstarted ≢ Some k

abbrev pub has_run_key : Keys → Bool
has_run_key keys = is_some keys.run

abbrev pub has_unstarted_key : Keys → Bool
has_unstarted_key keys = is_some keys.unstarted

abbrev pub key_count : List Keys → ℕ
key_count rows = count_by has_run_key rows + count_by has_unstarted_key rows

-- each key names a queueing of its row's item, no two the same one, and as many are held as there are keys, so nothing
-- else is
pub record AreFlightsKept (slab : Slab Queueing) (rows : List Keys) : Type 0 where
  pub few : length rows < 2 ^ 16
  pub room : 2 * length rows ≤ slab.capacity
  pub few_keys : slab.capacity < 2 ^ 32
  pub keys : (i : ℕ) → AreKeysOf slab i (keys_at rows i)
  pub counted : slab_len slab ≡ key_count rows
