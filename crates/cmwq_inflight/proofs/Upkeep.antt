-- The rows and the slab after a call: one row has other keys, and the slab finds the same for all others.
use Rattle.std.proofs.Common.{◌≡◌, ◌≢◌, ℕ, suc, ◌+◌, ◌<◌, ◌≤◌, Bool, cond, List, [], ◌∷◌, length, set, Some, None, refl}
use Rattle.std.proofs.Common.{sym, ap, ap₂, ◌∙◌, arith}
use Rattle.std.specs.Prelude.{is_some, count_by}
use Rattle.std.proofs.lemmas.Bool.{cases_eq}
use Rattle.std.proofs.Common.{⊎_elim}
use Rattle.std.proofs.lemmas.List.{length-set, map-set, get_or-set_same, get_or-set_other}
use Rattle.std.proofs.lemmas.List.Sums.{sum_by-cons, sum_by-set, count_by-le-length}
use Rattle.slab.specs.Slab.{Slab, slab_len}
use Rattle.cmwq_model.specs.declared.record.Queueing.{Queueing}
use Rattle.cmwq_inflight.specs.declared.flights.Keys.{Keys}
use Rattle.cmwq_inflight.specs.Flights.{Flight, flight_has_run, has_unstarted, open_count, with_flight}
use Rattle.cmwq_inflight.specs.Keeping.{no_keys, keys_at, flight_by, flights_by, AreKeysOf, AreFlightsKept, has_run_key}
use Rattle.cmwq_inflight.specs.Keeping.{has_unstarted_key, key_count}
use Rattle.cmwq_inflight.proofs.Rows.{set_agree, FindsRow, same_some, flight_at_row, AreKeysOf-kept, flight_alike}

-- ---- counts

abbrev pub keys_in : Keys → ℕ
keys_in keys = cond (is_some keys.run) 1 0 + cond (is_some keys.unstarted) 1 0

key_count-set : (rows : List Keys) (i : ℕ) (keys : Keys) → i < length rows
    → key_count (set rows i keys) + keys_in (keys_at rows i) ≡ key_count rows + keys_in keys
key_count-set rows i keys within =
    let runs = sum_by-set (λ (k : Keys). cond (has_run_key k) 1 0) rows i keys no_keys within in
    let others = sum_by-set (λ (k : Keys). cond (has_unstarted_key k) 1 0) rows i keys no_keys within in
    omega (arith, runs, others)

-- where an item has no unstarted one there is room for it
pub room_for_one : (slab : Slab Queueing) (rows : List Keys) (i : ℕ) → AreFlightsKept slab rows → i < length rows
    → (keys_at rows i).unstarted ≡ None
    → slab_len slab + 1 ≤ slab.capacity
room_for_one slab rows i kept within none =
    let keys : Keys = record { run = None; unstarted = Some 0 } in
    let others = sum_by-set (λ (k : Keys). cond (has_unstarted_key k) 1 0) rows i keys no_keys within in
    let one_more = rw none at others in
    let few = count_by-le-length has_unstarted_key (set rows i keys) in
    let size = length-set rows i keys in
    let runs = count_by-le-length has_run_key rows in
    omega (arith, one_more, few, size, runs, kept.room, kept.counted)

count_alike : (p : Flight → Bool) (r : Keys → Bool) (slab : Slab Queueing) (rows : List Keys)
    → ((i : ℕ) → p (flight_by slab (keys_at rows i)) ≡ r (keys_at rows i))
    → count_by p (flights_by slab rows) ≡ count_by r rows
count_alike p r slab [] h = refl
count_alike p r slab (x ∷ xs) h =
    sum_by-cons (λ y. cond (p y) 1 0) (flight_by slab x) (flights_by slab xs)
    ∙ ap₂ (λ b n. cond b 1 0 + n) (h 0) (count_alike p r slab xs (λ i. h (suc i)))
    ∙ sym (sum_by-cons (λ y. cond (r y) 1 0) x xs)

-- as many are open as the slab holds
pub open_are_held : (slab : Slab Queueing) (rows : List Keys) → AreFlightsKept slab rows
    → slab_len slab ≡ open_count (flights_by slab rows)
open_are_held slab rows kept =
    let runs =
    count_alike flight_has_run has_run_key slab rows
    (λ i. same_some slab i (keys_at rows i).run (kept.keys i).run) in
    let others =
    count_alike has_unstarted has_unstarted_key slab rows
    (λ i. same_some slab i (keys_at rows i).unstarted (kept.keys i).unstarted) in
    kept.counted ∙ ap₂ (λ m n. m + n) (sym runs) (sym others)

-- ---- a step: item i's row gets other keys

pub record IsStep (old new : Slab Queueing) (rows : List Keys) (i : ℕ) (keys : Keys) : Type 0 where
  pub within : i < length rows
  pub capacity : new.capacity ≡ old.capacity
  pub others : (j : ℕ) → j ≢ i → FindsRow old new (keys_at rows j)
  pub own : AreKeysOf new i keys
  pub counted : slab_len new + keys_in (keys_at rows i) ≡ slab_len old + keys_in keys

pub IsKept-step : (old new : Slab Queueing) (rows : List Keys) (i : ℕ) (keys : Keys) → IsStep old new rows i keys
    → AreFlightsKept old rows
    → AreFlightsKept new (set rows i keys)
IsKept-step old new rows i keys step kept = record {
  few = rw length-set kept.few;
  room = rw (length-set, step.capacity) kept.room;
  few_keys = rw step.capacity kept.few_keys;
  keys = λ j. ⊎_elim (same j) (other j) (cases_eq j i);
  counted = let more = key_count-set rows i keys step.within in omega (arith, more, step.counted, kept.counted);
}
  where
    same : (j : ℕ) → j ≡ i → AreKeysOf new j (keys_at (set rows i keys) j)
    same j is = rw (is, get_or-set_same rows i keys no_keys step.within) step.own

    other : (j : ℕ) → j ≢ i → AreKeysOf new j (keys_at (set rows i keys) j)
    other j differs =
        rw (get_or-set_other rows i j keys no_keys differs)
        (AreKeysOf-kept old new j (keys_at rows j) (step.others j differs) (kept.keys j))

-- and the rows that are seen change in that place alone
pub flights_by-step : (old new : Slab Queueing) (rows : List Keys) (i : ℕ) (keys : Keys) (change : Flight → Flight)
    → IsStep old new rows i keys
    → flight_by new keys ≡ change (flight_by old (keys_at rows i))
    → flights_by new (set rows i keys) ≡ with_flight change i (flights_by old rows)
flights_by-step old new rows i keys change step is =
    map-set (flight_by new) rows i keys
    ∙ set_agree (flight_by new) (flight_by old) no_keys rows i (flight_by new keys)
    (λ j differs. flight_alike old new (keys_at rows j) (step.others j differs))
    ∙ ap (set (flights_by old rows) i) (is ∙ ap change (sym (flight_at_row old rows i)))
