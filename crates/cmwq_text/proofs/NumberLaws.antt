-- A number that is spelled is read again, and what is read as a number is spelled so.
use Rattle.cmwq_text.specs.Common.{◌≡◌, ℕ, ◌<◌, ◌≤◌, ◌^◌, true, List, length, get_or, min, Option, Some, refl, ap, sym}
use Rattle.cmwq_text.specs.Common.{◌∙◌, arith, rules, ◌⊎◌, inl, inr, decimal, all_ascii_digits, le-leb, decimal_digit}
use Rattle.cmwq_text.specs.Common.{decimal_nonempty, first_decimal, digits_decimal, digits_value-decimal}
use Rattle.cmwq_text.specs.Common.{decimal-digits_value, IsNumeralModel, numerals_by_fold, greatest, greatest_byte}
use Rattle.cmwq_text.specs.Common.{greatest_short}
use Rattle.cmwq_text.specs.Numbers.{value_from, digits_from, is_begun, number_read, byte_of, short_of, held_at_most}
use Rattle.cmwq_text.proofs.Steps.{chosen}

pub own : IsNumeralModel (λ ds. all_ascii_digits ds ≡ true) (value_from 0)
own = numerals_by_fold _ (search rules) value_from (search rules)

begun : (ds : List ℕ) → 0 < length ds → 48 < get_or ds 0 0 → is_begun ds ≡ true
begun ds some above = grind arith

cases_zero : (n : ℕ) → (n ≡ 0) ⊎ (0 < n)
cases_zero n = grind arith

pub begun-decimal : (n : ℕ) → n < 2 ^ 64 → is_begun (decimal n) ≡ true
begun-decimal n lt =
    elim (cases_zero n) [
      | inl e ↦ rw e (rw (decimal_digit 0 (omega arith)) refl)
      | inr above ↦ begun (decimal n) (decimal_nonempty n lt) (first_decimal n above lt)
    ]

pub number_again : (limit n : ℕ) → n ≤ limit → n < 2 ^ 64 → number_read limit (decimal n) ≡ Some n
unfolding number_read digits_from
number_again limit n le lt =
    rw (begun-decimal n lt, digits_decimal own n lt, digits_value-decimal own n lt, le-leb n limit le) refl

begun_is : (ds : List ℕ) → is_begun ds ≡ true → (0 < length ds) × (get_or ds 0 0 ≡ 48 → length ds ≡ 1)
begun_is ds e = grind arith

digits_take : (limit n : ℕ) (word : List ℕ) → digits_from limit 0 word ≡ Some n
    → (all_ascii_digits word ≡ true) × (value_from 0 word ≡ n) × (n ≤ limit)
unfolding digits_from
digits_take limit n word e = grind arith

pub number_takes : (limit n : ℕ) (word : List ℕ) → limit < 2 ^ 64 → number_read limit word ≡ Some n
    → (word ≡ decimal n) × (n ≤ limit)
unfolding number_read
number_takes limit n word lt e =
    let begins = chosen (is_begun word) (digits_from limit 0 word) n e in
    let digits = digits_take limit n word begins.1 in
    let shape = begun_is word begins.0 in
    let fits : value_from 0 word < 2 ^ 64 = omega (arith, digits.1, digits.2) in
    let spelled : decimal (value_from 0 word) ≡ word = decimal-digits_value own word digits.0 shape.0 shape.1 fits in
    (sym spelled ∙ ap decimal digits.1, digits.2)

pub byte_again : (n : ℕ) → n ≤ greatest_byte → byte_of (decimal n) ≡ Some n
byte_again n le = grind (arith, number_again, min)

pub short_again : (n : ℕ) → n ≤ greatest_short → short_of (decimal n) ≡ Some n
short_again n le = grind (arith, number_again, min)

held_is : (most n : ℕ) (o : Option ℕ) → held_at_most most o ≡ Some n → n < most → o ≡ Some n
held_is most n o e lt = grind arith

pub byte_takes : (n : ℕ) (word : List ℕ) → byte_of word ≡ Some n → n < greatest_byte → word ≡ decimal n
byte_takes n word e lt =
    (number_takes greatest n word (omega arith) (held_is greatest_byte n (number_read greatest word) e lt)).0

pub short_takes : (n : ℕ) (word : List ℕ) → short_of word ≡ Some n → n < greatest_short → word ≡ decimal n
short_takes n word e lt =
    (number_takes greatest n word (omega arith) (held_is greatest_short n (number_read greatest word) e lt)).0
