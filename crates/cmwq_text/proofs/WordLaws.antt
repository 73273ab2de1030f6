-- Words that are joined are found again, if no space and no line feed stands inside them; and a line is its words,
-- joined.
use Rattle.cmwq_text.specs.Common.{◌≡◌, ℕ, zero, suc, ◌<◌, ◌^◌, Bool, true, false, List, [], ◌∷◌, ◌++◌, length, get_or}
use Rattle.cmwq_text.specs.Common.{ltb, Option, Some, refl, arith, decimal, all_ascii_digits, list_all, ltb-true}
use Rattle.cmwq_text.specs.Common.{ne_eqb, slice_split_none, slice_split_at, join_with_byte-slice_split}
use Rattle.cmwq_text.specs.Common.{bytes_eq-Decides, digits_decimal}
use Rattle.cmwq_text.specs.Words.{is_space, words_of, join_words, after, word_read}
use Rattle.cmwq_text.proofs.Steps.{chosen}
use Rattle.cmwq_text.proofs.NumberLaws.{own}
use Rattle.std.proofs.lemmas.Bool.{and_parts}

-- ---- plain words: each byte is above the space

abbrev pub is_above_space : ℕ → Bool
is_above_space byte = ltb 32 byte

abbrev pub is_plain : List ℕ → Bool
is_plain w = list_all is_above_space w

abbrev pub are_plain : List (List ℕ) → Bool
are_plain ws = list_all is_plain ws

pub is_plain-append : (a b : List ℕ) → is_plain a ≡ true → is_plain b ≡ true → is_plain (a ++ b) ≡ true
is_plain-append [] b p q = q
is_plain-append (x ∷ xs) b p q = grind (arith, is_plain-append xs b)

pub are_plain-append : (a b : List (List ℕ)) → are_plain a ≡ true → are_plain b ≡ true → are_plain (a ++ b) ≡ true
are_plain-append [] b p q = q
are_plain-append (w ∷ ws) b p q = grind (arith, are_plain-append ws b)

is_plain-digits : (ds : List ℕ) → all_ascii_digits ds ≡ true → is_plain ds ≡ true
is_plain-digits [] e = refl
is_plain-digits (d ∷ ds) e = grind (arith, is_plain-digits ds)

pub is_plain-decimal : (n : ℕ) → n < 2 ^ 64 → is_plain (decimal n) ≡ true
is_plain-decimal n lt = is_plain-digits (decimal n) (digits_decimal own n lt)

plain_at : (w : List ℕ) (i d : ℕ) → is_plain w ≡ true → i < length w → 32 < get_or w i d
plain_at [] i d p lt = absurd (omega arith)
plain_at (x ∷ xs) zero d p lt = ltb-true 32 x (and_parts (is_above_space x) (is_plain xs) p).0
plain_at (x ∷ xs) (suc i) d p lt = plain_at xs i d (and_parts (is_above_space x) (is_plain xs) p).1 (omega arith)

no_space : (w : List ℕ) (i d : ℕ) → is_plain w ≡ true → i < length w → is_space (get_or w i d) ≡ false
no_space w i d p lt = let above : 32 < get_or w i d = plain_at w i d p lt in
    ne_eqb (get_or w i d) 32 (λ same. absurd (omega (arith, same, above)))

-- ---- a line and its words

pub words_again : (w : List ℕ) (ws : List (List ℕ)) → are_plain (w ∷ ws) ≡ true → words_of (join_words (w ∷ ws)) ≡ w
    ∷ ws
words_again w [] p = grind (arith, slice_split_none, no_space)
words_again w (v ∷ ws) p = grind (arith, slice_split_at, no_space, words_again v ws)

pub joined_words : (line : List ℕ) → join_words (words_of line) ≡ line
joined_words line = join_with_byte-slice_split 32 line

-- ---- single words

pub word_takes : {A : Type 0} (f : List ℕ → Option A) (ws : List (List ℕ)) (x : A × List (List ℕ))
    → word_read f ws ≡ Some x → (w : List ℕ) × (ws ≡ w ∷ x.1) × (f w ≡ Some x.0)
word_takes {A} f [] x e = absurd cc
word_takes {A} f (w ∷ ws) x e = grind arith

pub after_takes : (w : List ℕ) (ws rest : List (List ℕ)) → after w ws ≡ Some rest → ws ≡ w ∷ rest
after_takes w ws rest e = grind (arith, chosen, bytes_eq-Decides)
