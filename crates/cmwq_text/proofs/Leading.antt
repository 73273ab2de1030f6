-- Digits that are read up to a space or the end, and the words that are left.
use Rattle.cmwq_text.specs.Common.{◌≡◌, ℕ, ◌-◌, ◌<◌, ◌≤◌, true, false, List, [], ◌∷◌, length, take, drop, get_or, Some}
use Rattle.cmwq_text.specs.Common.{None, refl, sym, arith, ne_eqb, onto_first, is_ascii_digit, subst, ◌+◌, ◌*◌, ◌++◌}
use Rattle.cmwq_text.specs.Common.{◌∙◌, ap, append_assoc, append-nil, all_ascii_digits, nat_le, if◌then◌else◌}
use Rattle.std.specs.Option.{option_map}
use Rattle.std.proofs.lemmas.Bool.{eq-eqb}
use Rattle.cmwq_lemmas.proofs.Truth.{and_false}
use Rattle.std.proofs.lemmas.List.{take_all}
use Rattle.cmwq_text.specs.Numbers.{IsLeading, value_from, digits_from, number_read, is_begun}
use Rattle.cmwq_text.specs.Words.{words_of, first_word, first_letter, has_no_word, word_read}
use Rattle.cmwq_text.proofs.Splits.{split_has_first}

digit_no_space : (x : ℕ) → is_ascii_digit x ≡ true → x ≡ 32 → ⊥
digit_no_space x digit space = let no : is_ascii_digit 32 ≡ true =
    subst (λ (y : ℕ). is_ascii_digit y ≡ true) space digit in absurd cc

-- what is after the first byte, as the code takes it
abbrev pub behind_first : List ℕ → List ℕ
behind_first left = take (length left - 1) (drop 1 left)

behind_first_is : (x : ℕ) (rest : List ℕ) → behind_first (x ∷ rest) ≡ rest
behind_first_is x rest = take_all (length (x ∷ rest) - 1) rest (omega arith)

-- the number that the first word spells
pub not_begun : (limit : ℕ) (words : List (List ℕ))
    → Some false ≡ option_map (λ word. is_begun word.0) (first_word words) → None ≡ word_read (number_read limit) words
unfolding number_read
not_begun limit words is = grind arith

pub begun : (limit : ℕ) (words : List (List ℕ)) → Some true ≡ option_map (λ word. is_begun word.0) (first_word words)
    → word_read (number_read limit) words ≡ word_read (digits_from limit 0) words
unfolding number_read
begun limit words is = grind arith

with_letter : (x : ℕ) (words : List (List ℕ)) → has_no_word words ≡ false
    → first_letter (onto_first x words) ≡ Some (x, words)
with_letter x words some = grind arith

-- the first letter is taken off, or there is none
pub letter_taken : (line : List ℕ) → 1 ≤ length line → (get_or line 0 0 ≡ 32 → ⊥)
    → first_letter (words_of line) ≡ Some (get_or line 0 0, words_of (behind_first line))
letter_taken [] some other = absurd (omega arith)
letter_taken (x ∷ rest) some other =
    rw (behind_first_is x rest, ne_eqb x 32 other) (with_letter x (words_of rest) (split_has_first rest))

-- ---- digits that bytes begin with

all_pushed : (ds : List ℕ) (d : ℕ) → all_ascii_digits ds ≡ true → is_ascii_digit d ≡ true
    → all_ascii_digits (ds ++ d ∷ []) ≡ true
all_pushed [] d all digit = rw digit refl
all_pushed (e ∷ ds) d all digit = grind (arith, all_pushed ds d)

value_pushed : (n : ℕ) (ds : List ℕ) (d : ℕ) → value_from n (ds ++ d ∷ []) ≡ value_from n ds * 10 + (d - 48)
value_pushed n [] d = refl
value_pushed n (e ∷ ds) d = value_pushed (n * 10 + (e - 48)) ds d

pub one_leads : (bytes left : List ℕ) (n : ℕ) → 1 ≤ length left → is_ascii_digit (get_or left 0 0) ≡ true
    → IsLeading bytes n left → IsLeading bytes (n * 10 + (get_or left 0 0 - 48)) (behind_first left)
one_leads bytes [] n some digit leads = absurd (omega arith)
one_leads bytes (x ∷ rest) n some digit leads =
    record {
      digits = leads.digits ++ x ∷ [];
      whole = rw (behind_first_is x rest) (leads.whole ∙ sym (append_assoc leads.digits (x ∷ []) rest));
      all = all_pushed leads.digits x leads.all digit;
      value = value_pushed 0 leads.digits x ∙ ap (λ (m : ℕ). m * 10 + (x - 48)) leads.value;
    }

abbrev onto_word : List ℕ → List (List ℕ) → List (List ℕ)
onto_word ds [] = []
onto_word ds (word ∷ words) = (ds ++ word) ∷ words

onto_nothing : (words : List (List ℕ)) → words ≡ onto_word [] words
onto_nothing words = grind arith

onto_one_more : (d : ℕ) (ds : List ℕ) (words : List (List ℕ)) → has_no_word words ≡ false
    → onto_first d (onto_word ds words) ≡ onto_word (d ∷ ds) words
onto_one_more d ds words some = grind arith

-- digits stand before the rest of the first word
split_digits : (ds rest : List ℕ) → all_ascii_digits ds ≡ true → words_of (ds ++ rest) ≡ onto_word ds (words_of rest)
split_digits [] rest all = onto_nothing (words_of rest)
split_digits (d ∷ ds) rest all = grind (arith, digit_no_space, onto_one_more, split_has_first, split_digits ds rest)

module _ (limit n : ℕ) (bytes behind : List ℕ) (leads : IsLeading bytes n behind) where
  read_digits : (words : List (List ℕ)) → words_of behind ≡ [] ∷ words
      → word_read (digits_from limit 0) (words_of bytes) ≡ (if nat_le n limit then Some (n, words) else None)
  unfolding digits_from
  read_digits words is = grind (arith, split_digits, append-nil)

  pub ends_at_end : length behind < 1 → word_read (digits_from limit 0) (words_of bytes)
      ≡ (if nat_le n limit then Some (n, []) else None)
  ends_at_end none = by_end behind none refl
    where
      by_end : (left : List ℕ) → length left < 1 → behind ≡ left → word_read (digits_from limit 0) (words_of bytes)
          ≡ (if nat_le n limit then Some (n, []) else None)
      by_end [] none is = read_digits [] (rw is refl)
      by_end (x ∷ rest) none is = absurd (omega arith)

  pub ends_at_space : 1 ≤ length behind → get_or behind 0 0 ≡ 32 → word_read (digits_from limit 0) (words_of bytes)
      ≡ (if nat_le n limit then Some (n, words_of (behind_first behind)) else None)
  ends_at_space some space = by_space behind some space refl
    where
      by_space : (left : List ℕ) → 1 ≤ length left → get_or left 0 0 ≡ 32 → behind ≡ left
          → word_read (digits_from limit 0) (words_of bytes)
          ≡ (if nat_le n limit then Some (n, words_of (behind_first left)) else None)
      by_space [] some space is = absurd (omega arith)
      by_space (x ∷ rest) some space is =
          rw (behind_first_is x rest) (read_digits (words_of rest) (rw (is, eq-eqb x 32 space) refl))

  pub ends_elsewhere : 1 ≤ length behind → (get_or behind 0 0 ≡ 32 → ⊥) → is_ascii_digit (get_or behind 0 0) ≡ false
      → word_read (digits_from limit 0) (words_of bytes) ≡ None
  unfolding digits_from
  ends_elsewhere some other bad = by_words behind some other bad refl
    where
      not_all : (ds rest : List ℕ) (x : ℕ) → is_ascii_digit x ≡ false → all_ascii_digits (ds ++ x ∷ rest) ≡ false
      not_all [] rest x bad = rw bad refl
      not_all (d ∷ ds) rest x bad = rw (not_all ds rest x bad) (and_false (is_ascii_digit d))

      by_first : (words : List (List ℕ)) (x : ℕ) → has_no_word words ≡ false → is_ascii_digit x ≡ false
          → word_read (digits_from limit 0) (onto_word leads.digits (onto_first x words)) ≡ None
      by_first [] x some bad = absurd cc
      by_first (word ∷ words) x some bad = rw (not_all leads.digits word x bad) refl

      by_words : (left : List ℕ) → 1 ≤ length left → (get_or left 0 0 ≡ 32 → ⊥)
          → is_ascii_digit (get_or left 0 0) ≡ false → behind ≡ left → word_read (digits_from limit 0) (words_of bytes)
          ≡ None
      by_words [] some other bad is = absurd (omega arith)
      by_words (x ∷ rest) some other bad is =
          rw (leads.whole, split_digits leads.digits behind leads.all, is, ne_eqb x 32 other)
          (by_first (words_of rest) x (split_has_first rest) bad)
