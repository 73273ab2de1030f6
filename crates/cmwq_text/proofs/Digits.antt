-- Digits that are read one after the other.
use Rattle.cmwq_text.specs.Common.{◌≡◌, ℕ, ◌+◌, ◌-◌, ◌*◌, ◌<◌, ◌≤◌, Bool, false, ◌&&◌, List, [], ◌∷◌, length, drop}
use Rattle.cmwq_text.specs.Common.{get_or, Option, Some, None, ap, sym, ◌∙◌, arith, cond, add-one, drop-cons, drop_all}
use Rattle.cmwq_text.specs.Numbers.{value_from, with_digit, digits_from}
use Rattle.cmwq_lemmas.proofs.Truth.{not_chosen}

value_from-grows : (n : ℕ) (ds : List ℕ) → n ≤ value_from n ds
value_from-grows n [] = omega arith
value_from-grows n (d ∷ ds) = omega (arith, value_from-grows (n * 10 + (d - 48)) ds)

is_none : (b a low all : Bool) (v : ℕ) → (b && low) ≡ false → (low ≡ false → all ≡ false)
    → cond ((b && a) && all) (Some v) None ≡ None
is_none b a low all v e h = grind arith

one_more : (limit n d m : ℕ) (ds : List ℕ) → with_digit limit n d ≡ Some m
    → digits_from limit n (d ∷ ds) ≡ digits_from limit m ds
unfolding digits_from
one_more limit n d m ds e = grind arith

no_more : (limit n d : ℕ) (ds : List ℕ) → with_digit limit n d ≡ None → digits_from limit n (d ∷ ds) ≡ None
unfolding digits_from
no_more limit n d ds e = grind (arith, is_none, not_chosen, value_from-grows)

pub within : (limit n d m : ℕ) → with_digit limit n d ≡ Some m → m ≤ limit
within limit n d m e = grind arith

-- of the digits from index i on, the first is read: on, or not
pub goes_on : (limit n m i : ℕ) (ds : List ℕ) (whole : Option ℕ) → i < length ds → with_digit limit n (get_or ds i 0)
    ≡ Some m → digits_from limit n (drop i ds) ≡ whole → digits_from limit m (drop (i + 1) ds) ≡ whole
goes_on limit n m i ds whole lt e so_far =
    sym (one_more limit n (get_or ds i 0) m (drop (i + 1) ds) e)
    ∙ ap (digits_from limit n) (sym (rw add-one (drop-cons ds i 0 lt))) ∙ so_far

pub stops : (limit n i : ℕ) (ds : List ℕ) (whole : Option ℕ) → i < length ds → with_digit limit n (get_or ds i 0) ≡ None
    → digits_from limit n (drop i ds) ≡ whole → whole ≡ None
stops limit n i ds whole lt e so_far =
    sym so_far ∙ ap (digits_from limit n) (rw add-one (drop-cons ds i 0 lt))
    ∙ no_more limit n (get_or ds i 0) (drop (i + 1) ds) e

pub ends : (limit n i : ℕ) (ds : List ℕ) (whole : Option ℕ) → length ds ≤ i → n ≤ limit
    → digits_from limit n (drop i ds) ≡ whole → whole ≡ Some n
unfolding digits_from
ends limit n i ds whole le fits so_far = grind (arith, drop, drop_all)
