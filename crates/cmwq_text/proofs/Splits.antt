-- A line as its words: where the first ends, and that the words, joined again, are the line.
use Rattle.cmwq_text.specs.Common.{◌≡◌, ℕ, ◌+◌, ◌-◌, Bool, false, List, [], ◌∷◌, length, take, drop, ltb, Some, None}
use Rattle.cmwq_text.specs.Common.{refl, arith, cond, subst, position, onto_first, position_or_len, ltb-true}
use Rattle.cmwq_text.specs.Common.{slice_split_none, slice_split_first, fails_before_first, cond_some}
use Rattle.std.proofs.lemmas.Grind.{common_steps}
use Rattle.cmwq_text.specs.Words.{is_space, words_of, has_no_word}
use Rattle.cmwq_lemmas.proofs.Truth.{not_chosen}

onto_first-has_first : (x : ℕ) (parts : List (List ℕ)) → has_no_word (onto_first x parts) ≡ false
onto_first-has_first x parts = grind arith

cond_end : (b : Bool) (x y : List (List ℕ)) → has_no_word x ≡ false → has_no_word y ≡ false
    → has_no_word (cond b x y) ≡ false
cond_end b x y p q = grind arith

-- a line has a first word
pub split_has_first : (line : List ℕ) → has_no_word (words_of line) ≡ false
split_has_first [] = refl
split_has_first (x ∷ xs) =
    cond_end (is_space x) ([] ∷ words_of xs) (onto_first x (words_of xs)) refl (onto_first-has_first x (words_of xs))

pub split_without_space : (line : List ℕ) → position is_space line ≡ None → words_of line ≡ line ∷ []
split_without_space line h = grind (arith, not_chosen, slice_split_none, fails_before_first)

-- written as the code takes the bytes after the space
pub split_at_space : (line : List ℕ) (end : ℕ) → position is_space line ≡ Some end
    → words_of line ≡ take end line ∷ words_of (take (length line - (end + 1)) (drop (end + 1) line))
split_at_space line end h =
    let found = cond_some (ltb (position_or_len is_space line) (length line)) (position_or_len is_space line) end h in
    let split : words_of line ≡ take end line ∷ words_of (drop (end + 1) line) =
    subst (λ (n : ℕ). words_of line ≡ take n line ∷ words_of (drop (n + 1) line)) found.1
    (slice_split_first is_space line 0 (ltb-true _ _ found.0)) in
    let all : take (length line - (end + 1)) (drop (end + 1) line) ≡ drop (end + 1) line =
    grind (arith, common_steps) in
    rw all split
