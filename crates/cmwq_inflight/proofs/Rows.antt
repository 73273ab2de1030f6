-- What one row's keys name, and what of it stays where the slab changes under another key.
use Rattle.std.proofs.Common.{◌≡◌, ◌≢◌, ℕ, zero, suc, List, [], ◌∷◌, map, set, get_or, Option, Some, None, refl, sym}
use Rattle.std.proofs.Common.{ap, ap₂, ◌∙◌, arith}
use Rattle.std.specs.Prelude.{true, option_and_then, is_some, IsSomeAnd}
use Rattle.std.proofs.Math.ListN.{get_or-map}
use Rattle.slab.specs.Slab.{Slab, get}
use Rattle.cmwq_model.specs.declared.record.Queueing.{Queueing}
use Rattle.cmwq_inflight.specs.declared.flights.Keys.{Keys}
use Rattle.cmwq_inflight.specs.Flights.{Flight, flight_at}
use Rattle.cmwq_inflight.specs.Keeping.{no_keys, keys_at, flight_by, flights_by, NamesOneOf, AreKeysOf}

module _ {X Y : Type 0} (f g : X → Y) (d : X) where
  map_agree : (xs : List X) → ((j : ℕ) → f (get_or xs j d) ≡ g (get_or xs j d)) → map f xs ≡ map g xs
  map_agree [] h = refl
  map_agree (x ∷ xs) h = ap₂ (λ y ys. y ∷ ys) (h 0) (map_agree xs (λ j. h (suc j)))

  -- where two functions agree but at one place, their tables are one once that place is set
  pub set_agree : (xs : List X) (i : ℕ) (y : Y) → ((j : ℕ) → j ≢ i → f (get_or xs j d) ≡ g (get_or xs j d))
      → set (map f xs) i y ≡ set (map g xs) i y
  set_agree [] i y h = refl
  set_agree (x ∷ xs) zero y h = ap (λ ys. y ∷ ys) (map_agree xs (λ j. h (suc j) (λ e. absurd (omega arith))))
  set_agree (x ∷ xs) (suc i) y h =
      ap₂ (λ z zs. z ∷ zs) (h 0 (λ e. absurd (omega arith)))
      (set_agree xs i y (λ j differs. h (suc j) (λ e. differs (omega arith))))

-- ---- one key

named : (slab : Slab Queueing) (i k : ℕ) (o : Option ℕ) → NamesOneOf slab i o → o ≡ Some k
    → IsSomeAnd (get slab k) (λ q. q.item.0 ≡ i)
named slab i k None names is = cc
named slab i k (Some x) names is = let same : x ≡ k = cc in rw same at names

-- a queueing is of one item
one_item : (o : Option Queueing) (i j : ℕ) → IsSomeAnd o (λ q. q.item.0 ≡ i) → IsSomeAnd o (λ q. q.item.0 ≡ j) → j ≡ i
one_item None i j a b = absurd a
one_item (Some q) i j a b = sym b ∙ a

some_named : (o : Option Queueing) (i : ℕ) → IsSomeAnd o (λ q. q.item.0 ≡ i) → o ≡ None → ⊥
some_named None i a none = a
some_named (Some q) i a none = cc

-- a vacant key isn't that of any item
pub not_vacant : (slab : Slab Queueing) (i k : ℕ) (o : Option ℕ) → NamesOneOf slab i o → get slab k ≡ None → (x : ℕ)
    → o ≡ Some x → x ≢ k
not_vacant slab i k o names vacant x is same = some_named (get slab k) i (rw same at (named slab i x o names is)) vacant

-- the keys of two items differ
pub not_of_other : (slab : Slab Queueing) (i j k : ℕ) (o p : Option ℕ) → NamesOneOf slab i p → p ≡ Some k
    → NamesOneOf slab j o → j ≢ i → (x : ℕ)
    → o ≡ Some x → x ≢ k
not_of_other slab i j k o p here at names differs x is same =
    differs (one_item (get slab k) i j (named slab i k p here at) (rw same at (named slab j x o names is)))

-- a slab finds the same under a key, if there is one
abbrev pub Finds : Slab Queueing → Slab Queueing → Option ℕ → Type 0
Finds old new o = (x : ℕ) → o ≡ Some x → get new x ≡ get old x

pub NamesOneOf-kept : (old new : Slab Queueing) (i : ℕ) (o : Option ℕ) → Finds old new o → NamesOneOf old i o
    → NamesOneOf new i o
NamesOneOf-kept old new i None same names = tt
NamesOneOf-kept old new i (Some x) same names = rw (same x refl) names

pub found_alike : (old new : Slab Queueing) (o : Option ℕ) → Finds old new o
    → option_and_then (get new) o ≡ option_and_then (get old) o
found_alike old new None same = refl
found_alike old new (Some x) same = same x refl

pub no_key : (slab : Slab Queueing) (i : ℕ) (o : Option ℕ) → NamesOneOf slab i o → option_and_then (get slab) o ≡ None
    → o ≡ None
no_key slab i None names none = refl
no_key slab i (Some x) names none = absurd (some_named (get slab x) i names none)

pub same_some : (slab : Slab Queueing) (i : ℕ) (o : Option ℕ) → NamesOneOf slab i o
    → is_some (option_and_then (get slab) o) ≡ is_some o
same_some slab i None names = refl
same_some slab i (Some x) names = by (get slab x) names
  where
    by : (o : Option Queueing) → IsSomeAnd o (λ q. q.item.0 ≡ i) → is_some o ≡ true
    by None a = absurd a
    by (Some q) a = refl

-- ---- rows

pub flight_at_row : (slab : Slab Queueing) (rows : List Keys) (i : ℕ) → flight_at (flights_by slab rows) i
    ≡ flight_by slab (keys_at rows i)
flight_at_row slab rows i = get_or-map (flight_by slab) rows i no_keys

pub record FindsRow (old new : Slab Queueing) (keys : Keys) : Type 0 where
  pub run : Finds old new keys.run
  pub unstarted : Finds old new keys.unstarted

pub AreKeysOf-kept : (old new : Slab Queueing) (i : ℕ) (keys : Keys) → FindsRow old new keys → AreKeysOf old i keys
    → AreKeysOf new i keys
AreKeysOf-kept old new i keys same a = record {
  run = NamesOneOf-kept old new i keys.run same.run a.run;
  unstarted = NamesOneOf-kept old new i keys.unstarted same.unstarted a.unstarted;
  differ = a.differ;
}

pub flight_alike : (old new : Slab Queueing) (keys : Keys) → FindsRow old new keys
    → flight_by new keys ≡ flight_by old keys
flight_alike old new keys same =
    ap₂ (λ r u. flight r u) (found_alike old new keys.run same.run) (found_alike old new keys.unstarted same.unstarted)
  where
    flight : Option Queueing → Option Queueing → Flight
    flight r u = record { run = r; unstarted = u }
