-- What each call does to a row is a step.
use Rattle.std.proofs.Common.{◌≡◌, ◌≢◌, ℕ, ◌+◌, ◌<◌, true, List, length, set, get_or, replicate, map, Option, Some}
use Rattle.std.proofs.Common.{None, refl, sym, ap, ◌∙◌, arith, [], ◌∷◌, zero, suc}
use Rattle.std.specs.Prelude.{is_some}
use Rattle.std.proofs.lemmas.List.{get_or-set_same, length-map, set-set}
use Rattle.slab.specs.Slab.{Slab, get, slab_len, Updates}
use Rattle.cmwq_model.specs.declared.record.Queueing.{Queueing}
use Rattle.cmwq_inflight.specs.declared.flights.Keys.{Keys}
use Rattle.cmwq_inflight.specs.Flights.{Flight, no_flight, flight_at, with_unstarted, with_started, without_run}
use Rattle.cmwq_inflight.specs.Flights.{with_flight, flights_with_open, flights_without_open, flights_with_run}
use Rattle.cmwq_inflight.specs.Flights.{flights_without_run}
use Rattle.cmwq_inflight.specs.Keeping.{no_keys, keys_at, flight_by, flights_by, NamesOneOf, AreKeysOf, AreFlightsKept}
use Rattle.cmwq_inflight.proofs.Rows.{not_vacant, not_of_other, Finds, FindsRow, NamesOneOf-kept, found_alike, no_key}
use Rattle.cmwq_inflight.proofs.Rows.{flight_at_row}
use Rattle.cmwq_inflight.proofs.Upkeep.{IsStep, IsKept-step, flights_by-step}

-- the row that is read at an index
pub row_read : (rows : List Keys) (i : ℕ) (row : Keys) → i < length rows → row ≡ get_or rows i row
    → row ≡ keys_at rows i
row_read rows i row within is = is ∙ any_default rows i within
  where
    any_default : (xs : List Keys) (k : ℕ) → k < length xs → get_or xs k row ≡ get_or xs k no_keys
    any_default [] k h = absurd (omega arith)
    any_default (x ∷ xs) zero h = refl
    any_default (x ∷ xs) (suc k) h = any_default xs k (omega arith)

-- an item of which something is in flight has a row
pub runs_within : (flights : List Flight) (i : ℕ) → is_some (flight_at flights i).run ≡ true → i < length flights
runs_within [] i run = cc
runs_within (f ∷ rest) zero run = omega arith
runs_within (f ∷ rest) (suc i) run = let later = runs_within rest i run in omega arith

pub waits_within : (flights : List Flight) (i : ℕ) → is_some (flight_at flights i).unstarted ≡ true → i < length flights
waits_within [] i waits = cc
waits_within (f ∷ rest) zero waits = omega arith
waits_within (f ∷ rest) (suc i) waits = let later = waits_within rest i waits in omega arith

pub row_within : (slab : Slab Queueing) (rows : List Keys) (i : ℕ) → i < length (flights_by slab rows) → i < length rows
row_within slab rows i within = rw (← length-map rows (flight_by slab)) within

-- a row that shows no queueing has no key
pub no_unstarted_key : (slab : Slab Queueing) (rows : List Keys) (i : ℕ) → AreFlightsKept slab rows
    → (flight_at (flights_by slab rows) i).unstarted ≡ None
    → (keys_at rows i).unstarted ≡ None
no_unstarted_key slab rows i kept none =
    no_key slab i (keys_at rows i).unstarted (kept.keys i).unstarted
    (ap (λ (f : Flight). f.unstarted) (sym (flight_at_row slab rows i)) ∙ none)

pub no_run_key : (slab : Slab Queueing) (rows : List Keys) (i : ℕ) → AreFlightsKept slab rows
    → (flight_at (flights_by slab rows) i).run ≡ None
    → (keys_at rows i).run ≡ None
no_run_key slab rows i kept none =
    no_key slab i (keys_at rows i).run (kept.keys i).run (ap (λ (f : Flight). f.run) (sym (flight_at_row slab rows i))
    ∙ none)

-- what changes under a vacant key is of no row
vacant_spares : (old new : Slab Queueing) (rows : List Keys) (k j : ℕ) (slot : Option Queueing)
    → AreFlightsKept old rows → get old k ≡ None
    → Updates old new k slot → FindsRow old new (keys_at rows j)
vacant_spares old new rows k j slot kept vacant updates = record {
  run = λ x is. updates.others x (not_vacant old j k (keys_at rows j).run (kept.keys j).run vacant x is);
  unstarted =
      λ x is. updates.others x (not_vacant old j k (keys_at rows j).unstarted (kept.keys j).unstarted vacant x is);
}

-- what changes under a key of one row is of no other
own_spares : (old new : Slab Queueing) (rows : List Keys) (i k j : ℕ) (o : Option ℕ) (slot : Option Queueing)
    → AreFlightsKept old rows → NamesOneOf old i o
    → o ≡ Some k → Updates old new k slot → j ≢ i → FindsRow old new (keys_at rows j)
own_spares old new rows i k j o slot kept names is updates differs = record {
  run = λ x found. updates.others x
      (not_of_other old i j k (keys_at rows j).run o names is (kept.keys j).run differs x found);
  unstarted =
      λ x found. updates.others x
      (not_of_other old i j k (keys_at rows j).unstarted o names is (kept.keys j).unstarted differs x found);
}

-- ---- a queueing is opened

pub record IsOpened (old new : Slab Queueing) (k : ℕ) (q : Queueing) : Type 0 where
  pub vacant : get old k ≡ None
  pub updates : Updates old new k (Some q)
  pub more : slab_len new ≡ slab_len old + 1
  pub capacity : new.capacity ≡ old.capacity

pub opened_step : (old new : Slab Queueing) (rows : List Keys) (i k : ℕ) (q : Queueing) (row : Keys)
    → AreFlightsKept old rows → IsOpened old new k q
    → i < length rows → row ≡ keys_at rows i → row.unstarted ≡ None → q.item.0 ≡ i
    → IsStep old new rows i (record { run = row.run; unstarted = Some k })
opened_step old new rows i k q row kept opens within at none of_item = record {
  within = within;
  capacity = opens.capacity;
  others = λ j differs. vacant_spares old new rows k j (Some q) kept opens.vacant opens.updates;
  own = record {
    run = rw at
        (NamesOneOf-kept old new i (keys_at rows i).run
        (vacant_spares old new rows k i (Some q) kept opens.vacant opens.updates).run (kept.keys i).run);
    unstarted = rw opens.updates.changed of_item;
    differ = λ x is same. not_vacant old i k (keys_at rows i).run (kept.keys i).run opens.vacant x (rw at at is) (cc);
  };
  counted = rw (← at, none) (omega (arith, opens.more));
}

pub opened_row : (old new : Slab Queueing) (rows : List Keys) (i k : ℕ) (q : Queueing) (row : Keys)
    → AreFlightsKept old rows → IsOpened old new k q
    → row ≡ keys_at rows i
    → flight_by new (record { run = row.run; unstarted = Some k })
    ≡ with_unstarted (Some q) (flight_by old (keys_at rows i))
opened_row old new rows i k q row kept opens at =
    let run =
    found_alike old new (keys_at rows i).run
    (vacant_spares old new rows k i (Some q) kept opens.vacant opens.updates).run in
    rw (at, opens.updates.changed, run) refl

-- ---- one of a row's queueings is removed

pub record IsRemoved (old new : Slab Queueing) (k : ℕ) : Type 0 where
  pub updates : Updates old new k None
  pub less : slab_len new + 1 ≡ slab_len old
  pub capacity : new.capacity ≡ old.capacity

run_survives : (old new : Slab Queueing) (i k : ℕ) (keys : Keys) → AreKeysOf old i keys → IsRemoved old new k
    → keys.unstarted ≡ Some k → Finds old new keys.run
run_survives old new i k keys own removes is x found =
    removes.updates.others x (λ same. own.differ x found (is ∙ ap (λ n. Some n) (sym same)))

unstarted_survives : (old new : Slab Queueing) (i k : ℕ) (keys : Keys) → AreKeysOf old i keys → IsRemoved old new k
    → keys.run ≡ Some k
    → Finds old new keys.unstarted
unstarted_survives old new i k keys own removes is x found =
    removes.updates.others x (λ same. own.differ k is (found ∙ ap (λ n. Some n) same))

pub taken_back_step : (old new : Slab Queueing) (rows : List Keys) (i k : ℕ) (row : Keys) → AreFlightsKept old rows
    → IsRemoved old new k → i < length rows
    → row ≡ keys_at rows i → row.unstarted ≡ Some k
    → IsStep old new rows i (record { run = row.run; unstarted = None })
taken_back_step old new rows i k row kept removes within at is =
    let has : (keys_at rows i).unstarted ≡ Some k = rw (← at) is in record {
      within = within;
      capacity = removes.capacity;
      others = λ j differs. own_spares old new rows i k j (keys_at rows i).unstarted None kept (kept.keys i).unstarted
          has removes.updates differs;
      own = record {
        run = rw at
            (NamesOneOf-kept old new i (keys_at rows i).run
            (run_survives old new i k (keys_at rows i) (kept.keys i) removes has) (kept.keys i).run);
        unstarted = tt;
        differ = λ x found same. cc;
      };
      counted = rw (← at, is) (omega (arith, removes.less));
    }

pub taken_back_row : (old new : Slab Queueing) (rows : List Keys) (i k : ℕ) (row : Keys) → AreFlightsKept old rows
    → IsRemoved old new k → row ≡ keys_at rows i
    → row.unstarted ≡ Some k
    → flight_by new (record { run = row.run; unstarted = None }) ≡ with_unstarted None (flight_by old (keys_at rows i))
taken_back_row old new rows i k row kept removes at is =
    let has : (keys_at rows i).unstarted ≡ Some k = rw (← at) is in
    let run =
    found_alike old new (keys_at rows i).run
    (run_survives old new i k (keys_at rows i) (kept.keys i) removes has) in
    rw (at, run) refl

pub finished_step : (old new : Slab Queueing) (rows : List Keys) (i k : ℕ) (row : Keys) → AreFlightsKept old rows
    → IsRemoved old new k → i < length rows
    → row ≡ keys_at rows i → row.run ≡ Some k
    → IsStep old new rows i (record { run = None; unstarted = row.unstarted })
finished_step old new rows i k row kept removes within at is =
    let has : (keys_at rows i).run ≡ Some k = rw (← at) is in record {
      within = within;
      capacity = removes.capacity;
      others = λ j differs. own_spares old new rows i k j (keys_at rows i).run None kept (kept.keys i).run has
          removes.updates differs;
      own = record {
        run = tt;
        unstarted =
            rw at (NamesOneOf-kept old new i (keys_at rows i).unstarted
            (unstarted_survives old new i k (keys_at rows i) (kept.keys i) removes has) (kept.keys i).unstarted);
        differ = λ x found same. cc;
      };
      counted = rw (← at, is) (omega (arith, removes.less));
    }

pub finished_row : (old new : Slab Queueing) (rows : List Keys) (i k : ℕ) (row : Keys) → AreFlightsKept old rows
    → IsRemoved old new k → row ≡ keys_at rows i
    → row.run ≡ Some k
    → flight_by new (record { run = None; unstarted = row.unstarted }) ≡ without_run (flight_by old (keys_at rows i))
finished_row old new rows i k row kept removes at is =
    let has : (keys_at rows i).run ≡ Some k = rw (← at) is in
    let other =
    found_alike old new (keys_at rows i).unstarted
    (unstarted_survives old new i k (keys_at rows i) (kept.keys i) removes has) in
    rw (at, other) refl

-- ---- the unstarted one starts

pub started_step : (slab : Slab Queueing) (rows : List Keys) (i : ℕ) (row : Keys) → AreFlightsKept slab rows
    → i < length rows → row ≡ keys_at rows i → row.run ≡ None
    → IsStep slab slab rows i (record { run = row.unstarted; unstarted = None })
started_step slab rows i row kept within at none = record {
  within = within;
  capacity = refl;
  others = λ j differs. record { run = λ x is. refl; unstarted = λ x is. refl };
  own = record {
    run = rw at (kept.keys i).unstarted;
    unstarted = tt;
    differ = λ x found same. cc;
  };
  counted = rw (← at, none) (omega arith);
}

pub started_row : (slab : Slab Queueing) (rows : List Keys) (i : ℕ) (row : Keys) → row ≡ keys_at rows i
    → flight_by slab (record { run = row.unstarted; unstarted = None }) ≡ with_started (flight_by slab (keys_at rows i))
started_row slab rows i row at = rw at refl

-- ---- no rows yet

pub none_at_first : (slab : Slab Queueing) (n : ℕ) → map (flight_by slab) (replicate n no_keys) ≡ replicate n no_flight
none_at_first slab zero = refl
none_at_first slab (suc n) = ap (λ xs. no_flight ∷ xs) (none_at_first slab n)

-- ---- each call

abbrev pub with_keys : List Keys → ℕ → Option ℕ → Option ℕ → List Keys
with_keys rows n run unstarted = set rows n (record { run = run; unstarted = unstarted })

-- the slab and the rows after a call are in order, and show these queueings
pub record Leaves (slab : Slab Queueing) (rows : List Keys) (flights : List Flight) : Type 0 where
  pub kept : AreFlightsKept slab rows
  pub seen : flights_by slab rows ≡ flights

step_leaves : (old new : Slab Queueing) (rows : List Keys) (n i : ℕ) (keys : Keys) (change : Flight → Flight)
    → AreFlightsKept old rows → n ≡ i
    → IsStep old new rows i keys → flight_by new keys ≡ change (flight_by old (keys_at rows i))
    → Leaves new (set rows n keys) (with_flight change i (flights_by old rows))
step_leaves old new rows n i keys change kept at step is = rw at (record {
  kept = IsKept-step old new rows i keys step kept;
  seen = flights_by-step old new rows i keys change step is;
})

pub opened_leaves : (old new : Slab Queueing) (rows : List Keys) (n k : ℕ) (q : Queueing) (row : Keys)
    → AreFlightsKept old rows → IsOpened old new k q
    → n ≡ q.item.0 → q.item.0 < length (flights_by old rows) → row ≡ get_or rows n row
    → (flight_at (flights_by old rows) q.item.0).unstarted ≡ None
    → Leaves new (with_keys rows n row.run (Some k)) (flights_with_open (flights_by old rows) q)
opened_leaves old new rows n k q row kept opens at known read none =
    let i = q.item.0 in
    let within = row_within old rows i known in
    let row_is = row_read rows i row within (rw at at read) in
    let key = no_unstarted_key old rows i kept none in
    step_leaves old new rows n i (record { run = row.run; unstarted = Some k }) (with_unstarted (Some q)) kept at
    (opened_step old new rows i k q row kept opens within row_is (ap (λ (x : Keys). x.unstarted) row_is ∙ key) refl)
    (opened_row old new rows i k q row kept opens row_is)

pub taken_back_leaves : (old new : Slab Queueing) (rows : List Keys) (n i k : ℕ) (row : Keys) → AreFlightsKept old rows
    → IsRemoved old new k → n ≡ i
    → i < length (flights_by old rows) → row ≡ get_or rows n row → row.unstarted ≡ Some k
    → Leaves new (with_keys rows n row.run None) (flights_without_open (flights_by old rows) i)
taken_back_leaves old new rows n i k row kept removes at known read is =
    let within = row_within old rows i known in
    let row_is = row_read rows i row within (rw at at read) in
    step_leaves old new rows n i (record { run = row.run; unstarted = None }) (with_unstarted None) kept at
    (taken_back_step old new rows i k row kept removes within row_is is)
    (taken_back_row old new rows i k row kept removes row_is is)

pub started_leaves : (slab : Slab Queueing) (rows : List Keys) (n i : ℕ) (row : Keys) → AreFlightsKept slab rows → n ≡ i
    → (flight_at (flights_by slab rows) i).run ≡ None → is_some (flight_at (flights_by slab rows) i).unstarted ≡ true
    → row ≡ get_or rows n row
    → Leaves slab (with_keys rows n row.unstarted None) (flights_with_run (flights_by slab rows) i)
started_leaves slab rows n i row kept at free waits read =
    let within = row_within slab rows i (waits_within (flights_by slab rows) i waits) in
    let row_is = row_read rows i row within (rw at at read) in
    let none = no_run_key slab rows i kept free in
    step_leaves slab slab rows n i (record { run = row.unstarted; unstarted = None }) with_started kept at
    (started_step slab rows i row kept within row_is (ap (λ (x : Keys). x.run) row_is ∙ none))
    (started_row slab rows i row row_is)

pub finished_leaves : (old new : Slab Queueing) (rows : List Keys) (n i k : ℕ) (row : Keys) → AreFlightsKept old rows
    → IsRemoved old new k → n ≡ i
    → is_some (flight_at (flights_by old rows) i).run ≡ true → row ≡ get_or rows n row → row.run ≡ Some k
    → Leaves new (with_keys rows n None row.unstarted) (flights_without_run (flights_by old rows) i)
finished_leaves old new rows n i k row kept removes at runs read is =
    let within = row_within old rows i (runs_within (flights_by old rows) i runs) in
    let row_is = row_read rows i row within (rw at at read) in
    step_leaves old new rows n i (record { run = None; unstarted = row.unstarted }) without_run kept at
    (finished_step old new rows i k row kept removes within row_is is)
    (finished_row old new rows i k row kept removes row_is is)

-- ---- a queueing that is opened and starts at once

pub opened_and_started : (flights : List Flight) (i : ℕ) (q : Queueing) (run : Option Queueing) → run ≡ Some q
    → q.item.0 ≡ i → i < length flights
    → flight_at flights i ≡ no_flight
    → flights_with_run (flights_with_open flights q) i ≡ set flights i (record { run = run; unstarted = None })
opened_and_started flights i q run is of_item there none =
    let x : Flight = record (flight_at flights i) { unstarted = Some q } in
    let by : Option Queueing → Flight = λ r. record { run = r; unstarted = None } in
    ap (λ k. flights_with_run (with_flight (with_unstarted (Some q)) k flights) i) of_item
    ∙ ap (λ f. set (set flights i x) i (with_started f)) (get_or-set_same flights i x no_flight there)
    ∙ set-set flights i x (by (Some q))
    ∙ ap (λ r. set flights i (by r)) (sym is)
