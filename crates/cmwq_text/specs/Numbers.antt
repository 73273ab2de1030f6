-- Numbers in a text: `0`, or a digit 1 to 9 and digits after it. How a number is spelled is std's decimal.
use Rattle.std.specs.Prelude.{◌≡◌, ◌+◌, ◌-◌, ◌*◌, ◌&&◌, ◌||◌, ◌==◌, if◌then◌else◌, ◌∷◌, ◌++◌}
use Rattle.cmwq_text.specs.Common.{ℕ, Bool, true, false, not, List, [], length, Option, Some, None, nat_le, min}
use Rattle.cmwq_text.specs.Common.{all_ascii_digits, is_ascii_digit, greatest_byte, greatest_short, greatest}

-- the greatest number of an entry that a text of any format has: its 19 digits keep each line within 120 bytes
abbrev pub greatest_number : ℕ
greatest_number = 9223372036854775807

-- what digits stand for, after digits that stand for n
abbrev pub value_from : ℕ → List ℕ → ℕ
value_from n [] = n
value_from n (digit ∷ digits) = value_from (n * 10 + (digit - 48)) digits

-- what n and a digit after it stand for, if that is at most the limit
abbrev pub with_digit : ℕ → ℕ → ℕ → Option ℕ
with_digit limit n digit = if is_ascii_digit digit && nat_le (n * 10 + (digit - 48)) limit
    then Some (n * 10 + (digit - 48)) else None

-- what digits stand for after n, if there are only digits and it is at most the limit
unfoldable pub digits_from : ℕ → ℕ → List ℕ → Option ℕ
digits_from limit n digits = if all_ascii_digits digits && nat_le (value_from n digits) limit
    then Some (value_from n digits) else None

-- only `0` begins with a zero
abbrev pub is_begun : List ℕ → Bool
is_begun [] = false
is_begun (first ∷ others) = not (first == 48) || length others == 0

-- the number that a word spells, if it is at most the limit
unfoldable pub number_read : ℕ → List ℕ → Option ℕ
number_read limit word = if is_begun word then digits_from limit 0 word else None

-- an id above the greatest number of its type is read as the greatest, and no shape has that one
abbrev pub held_at_most : ℕ → Option ℕ → Option ℕ
held_at_most most None = None
held_at_most most (Some n) = Some (min n most)

abbrev pub byte_of : List ℕ → Option ℕ
byte_of word = held_at_most greatest_byte (number_read greatest word)

abbrev pub short_of : List ℕ → Option ℕ
short_of word = held_at_most greatest_short (number_read greatest word)

-- bytes begin with digits that stand for n, and these are after them
pub record IsLeading (bytes : List ℕ) (n : ℕ) (behind : List ℕ) : Type 0 where
  pub digits : List ℕ
  pub whole : bytes ≡ digits ++ behind
  pub all : all_ascii_digits digits ≡ true
  pub value : value_from 0 digits ≡ n
