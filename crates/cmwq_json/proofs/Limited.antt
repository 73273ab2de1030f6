-- Numbers, widths and members keep to their limits.
use Rattle.cmwq_json.specs.Common.{◌≡◌, ℕ, zero, suc, ◌<◌, ◌≤◌, ◌&&◌, Bool, true, false, not, nat_lt, nat_le, List, []}
use Rattle.cmwq_json.specs.Common.{◌∷◌, ◌++◌, length, cond, Option, Some, None, refl, sym, ap, subst, arith}
use Rattle.cmwq_json.specs.Common.{if◌then◌else◌, length-append, option_map, option_and_then, codes, IfSome, min}
use Rattle.cmwq_json.specs.Common.{position, AllByRecursion, position_or_len, and_parts, ne_eqb, Data, get, as_bool}
use Rattle.cmwq_json.specs.Common.{as_number, as_u64}
use Rattle.std.proofs.lemmas.Bool.Decides.{nat_tests}
use Rattle.std.proofs.lemmas.Option.{same_Some}
use Rattle.cmwq_json.specs.Names.{Named, add_named, is_in_range, is_taken, name_said}
use Rattle.cmwq_json.specs.Numbers.{number_between, width_for, width_said}
use Rattle.cmwq_json.specs.Queues.{with_parts, parts_said}
use Rattle.cmwq_lemmas.proofs.Lists.{All_push}

-- ---- lists with one more

-- members that each have a name, no more than so many
pub record AreKept {X : Type 0} (most : ℕ) (P : X → Type 0) (m : Named X) : Type 0 where
  pub same : length m.names ≡ length m.values
  pub few : length m.names ≤ most
  pub values : AllByRecursion P m.values

pub added : {X : Type 0} (most : ℕ) (P : X → Type 0) (before after : Named X) (x : List ℕ × X) → AreKept most P before
    → P x.1 → add_named most before x ≡ Some after → AreKept most P after
added {X} most P before after x k one is = at (nat_lt (length before.names) most) refl (is_taken before.names x.0) is
  where
    at : (room : Bool) → nat_lt (length before.names) most ≡ room → (t : Bool)
        → (if room && not t then Some (record { names = before.names ++ x.0 ∷ []; values = before.values ++ x.1 ∷ [] })
        else None) ≡ Some after → AreKept most P after
    at true room false h =
        let less : length before.names < most = grind (arith, nat_tests) in
        let same = k.same in
        let a = length-append before.names (x.0 ∷ []) in
        let b = length-append before.values (x.1 ∷ []) in
        subst (AreKept most P) (same_Some _ after h)
        (record { same = omega arith; few = omega arith; values = All_push P before.values x.1 k.values one })
    at true room true h = cc
    at false room t h = cc

-- ---- numbers

abbrev pub AreBetween : ℕ → ℕ → ℕ → Type 0
AreBetween low high n = (low ≤ n) × (n ≤ high)

pub between : (low high n : ℕ) → is_in_range low high n ≡ true → AreBetween low high n
between low high n h =
    let p = and_parts (nat_le low n) (nat_le n high) h in
    let a : low ≤ n = grind (arith, nat_tests) in
    let b : n ≤ high = grind (arith, nat_tests) in
    (a, b)

pub number_limits : (low high : ℕ) (d : Data) → IfSome (number_between low high d) (AreBetween low high)
number_limits low high d = at (option_and_then as_u64 (as_number d))
  where
    pick : (n : ℕ) (b : Bool) → is_in_range low high n ≡ b → IfSome (if b then Some n else None) (AreBetween low high)
    pick n true h = between low high n h
    pick n false h = tt

    at : (o : Option ℕ)
        → IfSome (option_and_then (λ n. if is_in_range low high n then Some n else None) o) (AreBetween low high)
    at None = tt
    at (Some n) = pick n (is_in_range low high n) refl

pub width_limits : (d : Data) → IfSome (width_said d) (AreBetween 1 512)
width_limits d = at (number_between 0 4294967295 d)
  where
    wide : (n : ℕ) → AreBetween 1 512 (width_for n)
    wide zero = (omega arith, omega arith)
    wide (suc n) =
        let e : width_for (suc n) ≡ min (suc n) 512 =
        ap (λ b. if b then 256 else min (suc n) 512) (ne_eqb (suc n) 0 (λ same. absurd (omega arith))) in
        subst (AreBetween 1 512) (sym e) (omega arith, omega arith)

    at : (o : Option ℕ) → IfSome (option_map width_for o) (AreBetween 1 512)
    at None = tt
    at (Some n) = wide n

pub then_said : {X : Type 0} (P : X → Type 0) (said : Data → Option X) → ((d : Data) → IfSome (said d) P)
    → (o : Option Data) → IfSome (option_and_then said o) P
then_said P said each None = tt
then_said P said each (Some d) = each d

-- ---- queues

pub parts_limits : (d : Data) → IfSome (parts_said d) (λ parts. AreBetween 1 512 parts.1)
parts_limits d =
    at (option_and_then name_said (get (codes "name") d)) (option_and_then width_said (get (codes "max_active") d))
    (option_and_then as_bool (get (codes "intensive") d))
    (then_said (AreBetween 1 512) width_said width_limits (get (codes "max_active") d))
  where
    at : (name : Option (List ℕ)) (w : Option ℕ) (i : Option Bool) → IfSome w (AreBetween 1 512)
        → IfSome (with_parts name w i) (λ parts. AreBetween 1 512 parts.1)
    at None w i h = tt
    at (Some n) None i h = tt
    at (Some n) (Some w) None h = tt
    at (Some n) (Some w) (Some i) h = h

-- ---- places

pub placed : {X : Type 0} (p : X → Bool) (xs : List X) → IfSome (position p xs) (λ i. i < length xs)
placed p xs = at (nat_lt (position_or_len p xs) (length xs)) refl
  where
    at : (b : Bool) → nat_lt (position_or_len p xs) (length xs) ≡ b
        → IfSome (cond b (Some (position_or_len p xs)) None) (λ i. i < length xs)
    at true h = grind (arith, nat_tests)
    at false h = tt
