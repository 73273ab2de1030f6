-- The last line of a history: what is spelled is read again, what is read is spelled so, and no other line is one.
use Rattle.cmwq_text.specs.Common.{◌≡◌, ℕ, ◌≤◌, true, List, [], ◌∷◌, length, Option, Some, None, cond, refl, ap, ◌∙◌}
use Rattle.cmwq_text.specs.Common.{arith, codes, decimal, same_Some, Entry, IsEntry}
use Rattle.cmwq_text.specs.Numbers.{greatest_number}
use Rattle.cmwq_text.specs.Words.{◌>>=◌, words_of, join_words, has_no_word, after, wide_in}
use Rattle.cmwq_text.specs.EntryText.{entry_words}
use Rattle.cmwq_text.specs.EndText.{end_words, end_text, end_of}
use Rattle.cmwq_text.specs.Laws.{EndsReadAgain, EndsSpelledSo}
use Rattle.cmwq_text.proofs.Steps.{bind_some, chosen}
use Rattle.cmwq_text.proofs.WordLaws.{are_plain, after_takes}
use Rattle.cmwq_text.proofs.IdLaws.{wide_in_again, wide_in_takes}
use Rattle.cmwq_text.proofs.PhraseLaws.{numbers_are_plain, line_len, wide_len}
use Rattle.cmwq_text.proofs.LineLaws.{line_words, line_is, no_more}

abbrev end_tested : ℕ × List (List ℕ) → Option ℕ
end_tested n = cond (has_no_word n.1) (Some n.0) None

abbrev end_from : List (List ℕ) → Option ℕ
end_from ws = after (codes "end") ws >>= λ rest. wide_in rest >>= end_tested

pub end_is_plain : (n : ℕ) → n ≤ greatest_number → are_plain (end_words n) ≡ true
end_is_plain n le = numbers_are_plain (n ∷ []) (omega arith, tt)

pub end_is_short : (n : ℕ) → n ≤ greatest_number → length (end_text n) ≤ 121
unfolding end_text
end_is_short n le = omega (arith, line_len (codes "end") (decimal n ∷ []), wide_len n le)

pub ends_read_again : EndsReadAgain
unfolding end_text end_of
ends_read_again n line le is =
    let words : words_of line ≡ end_words n = line_words (codes "end") (decimal n ∷ []) line (end_is_plain n le) is in
    ap end_from words ∙ rw (wide_in_again n [] le) refl

end_pieces : (ws a rest : List (List ℕ)) (n : ℕ) → ws ≡ codes "end" ∷ a → a ≡ decimal n ∷ rest → rest ≡ []
    → ws ≡ end_words n
end_pieces ws a rest n first number ended = rw (first, number, ended) refl

pub ends_spelled_so : EndsSpelledSo
unfolding end_text end_of
ends_spelled_so n line is =
    let first =
    bind_some (after (codes "end") (words_of line)) (λ (rest : List (List ℕ)). wide_in rest >>= end_tested) n is in
    let number = bind_some (wide_in first.0) end_tested n first.2 in
    let found = chosen (has_no_word number.0.1) (Some number.0.0) n number.2 in
    let words : words_of line ≡ end_words number.0.0 = end_pieces (words_of line) first.0 number.0.1 number.0.0
    (after_takes (codes "end") (words_of line) first.0 first.1)
    (wide_in_takes first.0 number.0 number.1)
    (no_more number.0.1 found.0) in
    line_is line (end_words n) (words ∙ ap end_words (same_Some _ _ found.1))

-- ---- entries

-- a line of an entry is no last line
pub entry_ends_none : (e : Entry) → (IsEntry greatest_number) e → end_of (join_words (entry_words e)) ≡ None
unfolding end_of
entry_ends_none e h = grind arith
