-- A line as its words, and reading from the first word on: a reader gives a value and the words that are left, if it
-- can.
use Rattle.std.specs.Prelude.{◌==◌, if◌then◌else◌, option_and_then, ◌∷◌, ◌++◌}
use Rattle.cmwq_text.specs.Common.{ℕ, Bool, true, false, List, [], Option, Some, None, slice_split, join_with_byte}
use Rattle.cmwq_text.specs.Common.{bytes_eq, greatest, greatest_byte, greatest_long, greatest_short}
use Rattle.std.specs.Option.{option_map}
use denote.Ref.{Bor}
use Rattle.cmwq_text.specs.Numbers.{number_read, byte_of, short_of, greatest_number}

infixl 10 ◌>>=◌
-- one reading after another, where the one before it says something
abbrev pub ◌>>=◌ : {A B : Type 0} → Option A → (A → Option B) → Option B
o >>= f = option_and_then f o

-- 32 is the space and 10 the line feed
abbrev pub is_space : ℕ → Bool
is_space byte = byte == 32

abbrev pub words_of : List ℕ → List (List ℕ)
words_of line = slice_split is_space line

-- the words of what is left of a line, if something is
abbrev pub words_left : Option (Bor (List ℕ)) → List (List ℕ)
words_left None = []
words_left (Some bytes) = words_of bytes.now

-- words with one space between each two
abbrev pub join_words : List (List ℕ) → List ℕ
join_words words = join_with_byte 32 words

-- words after others, each after a space
unfoldable pub space_words : List (List ℕ) → List ℕ
space_words [] = []
space_words (word ∷ words) = (32 ∷ word) ++ space_words words

abbrev pub line_text : List (List ℕ) → List ℕ
line_text words = join_words words ++ 10 ∷ []

abbrev pub has_no_word : List (List ℕ) → Bool
has_no_word [] = true
has_no_word (word ∷ words) = false

-- the first word, and those after it
abbrev pub first_word : List (List ℕ) → Option (List ℕ × List (List ℕ))
first_word [] = None
first_word (word ∷ words) = Some (word, words)

-- the first letter of the first word, and what is left
abbrev pub first_letter : List (List ℕ) → Option (ℕ × List (List ℕ))
first_letter [] = None
first_letter ([] ∷ words) = None
first_letter ((letter ∷ word) ∷ words) = Some (letter, word ∷ words)

-- the words after this one
abbrev pub after : List ℕ → List (List ℕ) → Option (List (List ℕ))
after word [] = None
after word (first ∷ words) = if bytes_eq first word then Some words else None

-- what was read, if anything was, with the words that are left
abbrev pub with_left : {A : Type 0} → Option A → List (List ℕ) → Option (A × List (List ℕ))
with_left value words = option_map (λ x. (x, words)) value

-- what the first word says, as of tells it of a word
abbrev pub word_read : {A : Type 0} → (List ℕ → Option A) → List (List ℕ) → Option (A × List (List ℕ))
word_read of words = do
  word ← first_word words
  value ← of word.0
  Some (value, word.1)

abbrev pub byte_in : List (List ℕ) → Option (ℕ × List (List ℕ))
byte_in words = word_read byte_of words

abbrev pub short_in : List (List ℕ) → Option (ℕ × List (List ℕ))
short_in words = word_read short_of words

-- how many of something there are: a greater number than these hold is none
abbrev pub byte_count_in : List (List ℕ) → Option (ℕ × List (List ℕ))
byte_count_in words = word_read (number_read greatest_byte) words

abbrev pub short_count_in : List (List ℕ) → Option (ℕ × List (List ℕ))
short_count_in words = word_read (number_read greatest_short) words

abbrev pub number_in : List (List ℕ) → Option (ℕ × List (List ℕ))
number_in words = word_read (number_read greatest) words

-- the number of an entry, a serial or a ticket
abbrev pub wide_in : List (List ℕ) → Option (ℕ × List (List ℕ))
wide_in words = word_read (number_read greatest_number) words

abbrev pub long_in : List (List ℕ) → Option (ℕ × List (List ℕ))
long_in words = word_read (number_read greatest_long) words

-- values that stand after one another, each as its reader reads it, and what is made of them
abbrev pub take_none : {Y : Type 0} → Y → List (List ℕ) → Option (Y × List (List ℕ))
take_none y words = Some (y, words)

abbrev pub take_one : {A Y : Type 0} → (List (List ℕ) → Option (A × List (List ℕ))) → (A → Y) → List (List ℕ)
    → Option (Y × List (List ℕ))
take_one read make words = do
  a ← read words
  Some (make a.0, a.1)

abbrev pub take_two : {A B Y : Type 0} → (List (List ℕ) → Option (A × List (List ℕ)))
    → (List (List ℕ) → Option (B × List (List ℕ))) → (A → B → Y) → List (List ℕ) → Option (Y × List (List ℕ))
take_two read_a read_b make words = do
  a ← read_a words
  b ← read_b a.1
  Some (make a.0 b.0, b.1)

abbrev pub take_three : {A B C Y : Type 0} → (List (List ℕ) → Option (A × List (List ℕ)))
    → (List (List ℕ) → Option (B × List (List ℕ))) → (List (List ℕ) → Option (C × List (List ℕ))) → (A → B → C → Y)
    → List (List ℕ) → Option (Y × List (List ℕ))
take_three read_a read_b read_c make words = do
  a ← read_a words
  b ← read_b a.1
  c ← read_c b.1
  Some (make a.0 b.0 c.0, c.1)

abbrev pub take_four : {A B C D Y : Type 0} → (List (List ℕ) → Option (A × List (List ℕ)))
    → (List (List ℕ) → Option (B × List (List ℕ))) → (List (List ℕ) → Option (C × List (List ℕ)))
    → (List (List ℕ) → Option (D × List (List ℕ))) → (A → B → C → D → Y) → List (List ℕ) → Option (Y × List (List ℕ))
take_four read_a read_b read_c read_d make words = do
  a ← read_a words
  b ← read_b a.1
  c ← read_c b.1
  d ← read_d c.1
  Some (make a.0 b.0 c.0 d.0, d.1)
