-- The last line of a history of format 3: `end <entries>`, with the number of its entries. Who has it has the whole
-- history.
use Rattle.std.specs.Prelude.{ℕ, if◌then◌else◌, List, [], ◌∷◌, Option, Some, None, codes, decimal}
use Rattle.cmwq_text.specs.Words.{◌>>=◌, words_of, line_text, has_no_word, after, wide_in}

abbrev pub end_words : ℕ → List (List ℕ)
end_words entries = codes "end" ∷ decimal entries ∷ []

-- the line, with its line feed
unfoldable pub end_text : ℕ → List ℕ
end_text entries = line_text (end_words entries)

-- how many entries such a line says, without its line feed
unfoldable pub end_of : List ℕ → Option ℕ
end_of line = do
  words ← after (codes "end") (words_of line)
  entries ← wide_in words
  if has_no_word entries.1 then Some entries.0 else None
