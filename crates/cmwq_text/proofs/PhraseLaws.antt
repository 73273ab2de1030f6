-- A keyword and numbers: that each word is plain, and how long the words are.
use Rattle.cmwq_text.specs.Common.{◌≡◌, ℕ, ◌+◌, ◌<◌, ◌≤◌, ◌^◌, true, List, [], ◌∷◌, ◌++◌, length, map, refl, arith}
use Rattle.cmwq_text.specs.Common.{decimal, AllByRecursion, length-append, length-decimal-le, greatest, greatest_long}
use Rattle.cmwq_text.specs.Common.{greatest_byte, greatest_short}
use Rattle.cmwq_text.specs.declared.keyword.Keyword.{Keyword}
use Rattle.cmwq_text.specs.Numbers.{greatest_number}
use Rattle.cmwq_text.specs.Words.{line_text}
use Rattle.cmwq_text.specs.Keywords.{keyword_text}
use Rattle.cmwq_text.specs.CallText.{phrase}
use Rattle.cmwq_text.proofs.WordLaws.{is_plain, are_plain, is_plain-decimal}
use Rattle.cmwq_text.proofs.KeywordLaws.{is_plain-text}
use Rattle.std.proofs.lemmas.Bool.{and_from}

pub numbers_are_plain : (ns : List ℕ) → AllByRecursion (λ n. n < 2 ^ 64) ns → are_plain (map decimal ns) ≡ true
numbers_are_plain [] h = refl
numbers_are_plain (n ∷ ns) h =
    and_from (is_plain (decimal n)) (are_plain (map decimal ns)) (is_plain-decimal n h.0) (numbers_are_plain ns h.1)

pub phrase_is_plain : (k : Keyword) (ns : List ℕ) → AllByRecursion (λ n. n < 2 ^ 64) ns → are_plain (phrase k ns) ≡ true
phrase_is_plain k ns h =
    and_from (is_plain (keyword_text k)) (are_plain (map decimal ns)) (is_plain-text k) (numbers_are_plain ns h)

-- ---- lengths

pub byte_len : (n : ℕ) → n ≤ greatest_byte → length (decimal n) ≤ 3
byte_len n le = length-decimal-le 3 n (omega arith) (omega arith) (omega arith)

pub short_len : (n : ℕ) → n ≤ greatest_short → length (decimal n) ≤ 5
short_len n le = length-decimal-le 5 n (omega arith) (omega arith) (omega arith)

pub number_len : (n : ℕ) → n ≤ greatest → length (decimal n) ≤ 10
number_len n le = length-decimal-le 10 n (omega arith) (omega arith) (omega arith)

pub wide_len : (n : ℕ) → n ≤ greatest_number → length (decimal n) ≤ 19
wide_len n le = length-decimal-le 19 n (omega arith) (omega arith) (omega arith)

pub long_len : (n : ℕ) → n ≤ greatest_long → length (decimal n) ≤ 20
long_len n le = length-decimal-le 20 n (omega arith) (omega arith) (omega arith)

-- the bytes of words, with one for the space or the line feed after each
abbrev pub size : List (List ℕ) → ℕ
size [] = 0
size (w ∷ ws) = (length w + 1) + size ws

pub size-append : (a b : List (List ℕ)) → size (a ++ b) ≡ size a + size b
size-append [] b = omega arith
size-append (w ∷ ws) b = omega (arith, size-append ws b)

pub line_len : (w : List ℕ) (ws : List (List ℕ)) → length (line_text (w ∷ ws)) ≡ size (w ∷ ws)
line_len w [] = omega (arith, length-append w (10 ∷ []))
line_len w (v ∷ ws) = grind (arith, length-append, line_len v ws)
