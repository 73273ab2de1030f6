-- Whole lines: what is read from one that is spelled, where a line ends, and what fits a shape.
use Rattle.cmwq_text.specs.Common.{◌≡◌, ℕ, ◌≤◌, Bool, true, List, [], ◌∷◌, ◌++◌, length, ltb, leb, refl, ap, sym, ◌∙◌}
use Rattle.cmwq_text.specs.Common.{arith, append_assoc, list_all, leb-true, same_from_push, Who, Call, Reply, Layout}
use Rattle.cmwq_text.specs.Common.{is_layout, most_callers, most_cpus, most_items, most_queues, most_room, most_workers}
use Rattle.cmwq_text.specs.Common.{are_counts, is_between, may_make, has_numbers, reply_fits}
use Rattle.cmwq_text.specs.Words.{words_of, join_words, line_text, has_no_word}
use Rattle.cmwq_text.specs.Laws.{IsLineOf}
use Rattle.cmwq_text.proofs.WordLaws.{is_plain, are_plain, words_again, joined_words}
use Rattle.cmwq_text.proofs.IdLaws.{IsKnownWho}
use Rattle.cmwq_text.proofs.CallLaws.{IsKnownCall}
use Rattle.cmwq_text.proofs.ReplyLaws.{IsKnownReply}
use Rattle.std.proofs.lemmas.Bool.{and_parts}

-- ---- words of a line

pub line_words : (w : List ℕ) (ws : List (List ℕ)) (line : List ℕ) → are_plain (w ∷ ws) ≡ true
    → IsLineOf (line_text (w ∷ ws)) line → words_of line ≡ w ∷ ws
line_words w ws line plain e = grind (arith, same_from_push, words_again)

pub line_is : (line : List ℕ) (ws : List (List ℕ)) → words_of line ≡ ws → IsLineOf (line_text ws) line
line_is line ws e = ap line_text (sym e) ∙ ap (λ (t : List ℕ). t ++ 10 ∷ []) (joined_words line)

pub no_more : (ws : List (List ℕ)) → has_no_word ws ≡ true → ws ≡ []
no_more ws e = grind arith

-- ---- the first line feed

abbrev pub has_no_feed : List ℕ → Bool
has_no_feed bytes = list_all (ltb 10) bytes

plain_has_none : (w : List ℕ) (rest : List ℕ) → is_plain w ≡ true → has_no_feed rest ≡ true
    → has_no_feed (w ++ rest) ≡ true
plain_has_none [] rest p q = q
plain_has_none (x ∷ xs) rest p q = grind (arith, plain_has_none xs rest)

plain_is_none : (w : List ℕ) → is_plain w ≡ true → has_no_feed w ≡ true
plain_is_none [] p = refl
plain_is_none (x ∷ xs) p = grind (arith, plain_is_none xs)

pub joined_has_none : (ws : List (List ℕ)) → are_plain ws ≡ true → has_no_feed (join_words ws) ≡ true
joined_has_none [] p = refl
joined_has_none (w ∷ []) p = plain_is_none w (and_parts (is_plain w) true p).0
joined_has_none (w ∷ v ∷ ws) p = grind (arith, plain_has_none, joined_has_none (v ∷ ws))

-- the lists are one up to the first line feed, and after it
same_to_feed : (a b x y : List ℕ) → has_no_feed a ≡ true → has_no_feed b ≡ true → a ++ 10 ∷ x ≡ b ++ 10 ∷ y
    → (a ≡ b) × (x ≡ y)
same_to_feed [] [] x y p q e = (refl, cc)
same_to_feed [] (b ∷ bs) x y p q e = grind arith
same_to_feed (a ∷ as_) [] x y p q e = grind arith
same_to_feed (a ∷ as_) (b ∷ bs) x y p q e = grind (arith, same_to_feed as_ bs x y)

pub lines_apart : (v w : List (List ℕ)) (rest : List ℕ) → are_plain v ≡ true → are_plain w ≡ true
    → line_text v ≡ line_text w ++ rest → (join_words v ≡ join_words w) × (rest ≡ [])
lines_apart v w rest p q e =
    let cut =
    same_to_feed (join_words v) (join_words w) [] rest (joined_has_none v p) (joined_has_none w q)
    (e ∙ append_assoc (join_words w) (10 ∷ []) rest) in
    (cut.0, sym cut.1)

-- ---- inside a shape

pub record IsSmall (s : Layout) : Type 0 where
  pub cpus : s.cpus ≤ most_cpus
  pub workers : s.workers ≤ most_workers
  pub callers : s.callers ≤ most_callers
  pub items : s.items ≤ most_items
  pub queues : length s.queues ≤ most_queues

at_most : (low high n : ℕ) → is_between low high n ≡ true → n ≤ high
at_most low high n e = leb-true n high (and_parts (leb low n) (leb n high) e).1

pub counts_are_small : (cpus workers callers items room : ℕ) → are_counts cpus workers callers items room ≡ true
    → (cpus ≤ most_cpus) × (workers ≤ most_workers) × (callers ≤ most_callers) × (items ≤ most_items)
    × (room ≤ most_room)
counts_are_small cpus workers callers items room e = grind arith

pub layout_is_small : (s : Layout) → is_layout s ≡ true → IsSmall s
layout_is_small s e = grind arith

pub known_who : (s : Layout) (who : Who) (c : Call) → IsSmall s → may_make s who c ≡ true → IsKnownWho who
known_who s who c small e = grind arith

pub known_call : (s : Layout) (c : Call) → IsSmall s → has_numbers s c ≡ true → IsKnownCall c
known_call s c small e = grind arith

pub known_reply : (s : Layout) (r : Reply) → IsSmall s → reply_fits s r ≡ true → IsKnownReply r
known_reply s r small e = grind arith
