-- Lines that are spelled end at their line feed and nowhere before, and lines of queues begin as no others do.
use Rattle.cmwq_text.specs.Common.{◌≡◌, ℕ, zero, suc, ◌<◌, ◌≤◌, Bool, true, false, List, [], ◌∷◌, ◌++◌, length, get_or}
use Rattle.cmwq_text.specs.Common.{leb, ltb, eqb, None, refl, ap, ◌∙◌, arith, codes, IsTrue, ◌==◌, is_ascii_digit}
use Rattle.cmwq_text.specs.Common.{decimal, All, all_ascii_digits, leb-true, ltb-true, ne_eqb, digits_decimal}
use Rattle.cmwq_text.specs.Common.{length-append, Who, Caller, Worker, Call, Entry, Counts, QueueShape, Layout}
use Rattle.cmwq_text.specs.Common.{are_counts, is_queue, fits, has_numbers, IsWho, IsCall, IsEntry}
use Rattle.cmwq_text.specs.Words.{words_of, join_words, line_text, space_words}
use Rattle.cmwq_text.specs.IdText.{who_text, pool_letter, who_read}
use Rattle.cmwq_text.specs.CallText.{call_words, call_text, sets_some, may_say}
use Rattle.cmwq_text.specs.ReplyText.{reply_words}
use Rattle.cmwq_text.specs.EntryText.{entry_words, entry_text, entry_of}
use Rattle.cmwq_text.specs.EndText.{end_words, end_text}
use Rattle.cmwq_text.specs.HistoryText.{version_text, calls_version_text}
use Rattle.cmwq_text.specs.Formats.{calls_name, counts_of_format, entry_of_format}
use Rattle.cmwq_text.specs.ShapeText.{counts_words, counts_text, counts_read, queue_words, queue_text, begins_queue}
use Rattle.cmwq_text.specs.Numbers.{greatest_number}
use Rattle.cmwq_text.specs.Laws.{IsLineOf}
use Rattle.cmwq_text.proofs.NumberLaws.{own}
use Rattle.cmwq_text.proofs.Spacing.{joined_spaced}
use Rattle.cmwq_text.proofs.WordLaws.{are_plain, words_again}
use Rattle.cmwq_text.proofs.LineLaws.{has_no_feed, joined_has_none}
use Rattle.cmwq_text.proofs.EntryLaws.{call_line_is_plain, entry_is_plain, entry_from}
use Rattle.cmwq_text.proofs.EndLaws.{end_is_plain, end_is_short}
use Rattle.cmwq_text.proofs.ShapeLaws.{counts_from, counts_are_plain, queue_is_plain, call_line_is_short}
use Rattle.cmwq_text.proofs.ShapeLaws.{entry_line_is_short, counts_line_is_short, queue_line_is_short}
use Rattle.std.proofs.lemmas.Bool.{and_parts}

-- the text is the line and its line feed, no other stands inside it, and it is no longer than a line may be
pub record IsWholeLine (text line : List ℕ) : Type 0 where
  pub is : IsLineOf text line
  pub one : All (λ byte. (byte == 10) ≡ false) line
  pub short : length line ≤ 120

no_feed_at : (bytes : List ℕ) (i d : ℕ) → has_no_feed bytes ≡ true → i < length bytes → 10 < get_or bytes i d
no_feed_at [] i d p lt = absurd (omega arith)
no_feed_at (b ∷ bs) zero d p lt = ltb-true 10 b (and_parts (ltb 10 b) (has_no_feed bs) p).0
no_feed_at (b ∷ bs) (suc i) d p lt = no_feed_at bs i d (and_parts (ltb 10 b) (has_no_feed bs) p).1 (omega arith)

one_feed : (bytes : List ℕ) → has_no_feed bytes ≡ true → All (λ byte. (byte == 10) ≡ false) bytes
one_feed bytes p = λ i d lt. let above : 10 < get_or bytes i d = no_feed_at bytes i d p lt in
    ne_eqb (get_or bytes i d) 10 (λ same. absurd (omega (arith, same, above)))

whole_line : (words : List (List ℕ)) → are_plain words ≡ true → length (line_text words) ≤ 121
    → IsWholeLine (line_text words) (join_words words)
whole_line words plain short = grind (arith, length-append, one_feed, joined_has_none)

pub whole_version : IsWholeLine (version_text 2) (codes "history 2")
whole_version = record { is = refl; one = one_feed (codes "history 2") refl; short = omega arith }

pub whole_long_version : IsWholeLine (version_text 3) (codes "history 3")
whole_long_version = record { is = refl; one = one_feed (codes "history 3") refl; short = omega arith }

pub whole_calls_version : IsWholeLine (calls_version_text 3) calls_name
whole_calls_version = record { is = refl; one = one_feed calls_name refl; short = omega arith }

pub whole_counts : (n : Counts) → IsTrue (are_counts n.cpus n.workers n.callers n.items n.room)
    → IsWholeLine (counts_text n) (join_words (counts_words n))
unfolding counts_text
whole_counts n inside = whole_line (counts_words n) (counts_are_plain n inside) (counts_line_is_short n inside)

pub whole_queue : (q : QueueShape) → IsTrue (is_queue q) → IsWholeLine (queue_text q) (join_words (queue_words q))
unfolding queue_text
whole_queue q inside =
    let small : q.max_active ≤ 512 =
    leb-true q.max_active 512 (and_parts (leb 1 q.max_active) (leb q.max_active 512) inside).1 in
    whole_line (queue_words q) (queue_is_plain q small) (queue_line_is_short q inside)

pub whole_call : (who : Who) (c : Call) → IsWho who → (IsCall greatest_number) c
    → IsWholeLine (call_text who c) (join_words (who_text who ∷ call_words c))
unfolding call_text
whole_call who c h k =
    whole_line (who_text who ∷ call_words c) (call_line_is_plain who c h k) (call_line_is_short who c h k)

pub whole_entry : (e : Entry) → (IsEntry greatest_number) e → IsWholeLine (entry_text e) (join_words (entry_words e))
unfolding entry_text
whole_entry e h = whole_line (entry_words e) (entry_is_plain e h) (entry_line_is_short e h)

pub whole_end : (n : ℕ) → n ≤ greatest_number → IsWholeLine (end_text n) (join_words (end_words n))
unfolding end_text
whole_end n le = whole_line (end_words n) (end_is_plain n le) (end_is_short n le)

-- ---- how lines begin

-- 113 is `q`
digit_is_other : (d : ℕ) → is_ascii_digit d ≡ true → eqb 113 d ≡ false
digit_is_other d e = let to : d ≤ 57 = leb-true d 57 (and_parts (leb 48 d) (leb d 57) e).1 in
    ne_eqb 113 d (λ same. absurd (omega (arith, same, to)))

worker_begins : (digits : List ℕ) (high : Bool) (index rest : List ℕ) → all_ascii_digits digits ≡ true
    → begins_queue ((119 ∷ digits ++ pool_letter high ∷ index) ++ rest) ≡ false
worker_begins [] true index rest e = refl
worker_begins [] false index rest e = refl
worker_begins (d ∷ ds) high index rest e =
    rw (digit_is_other d (and_parts (is_ascii_digit d) (all_ascii_digits ds) e).0) refl

who_begins : (who : Who) (rest : List ℕ) → IsWho who → begins_queue (who_text who ++ rest) ≡ false
who_begins (Caller c) rest h = refl
who_begins (Worker w) rest h =
    worker_begins (decimal w.pool.cpu.0) w.pool.high (decimal w.index) rest
    (digits_decimal own w.pool.cpu.0 (omega (arith, h.0)))

-- a line that begins with a who is none of a queue
pub who_begins_no_queue : (who : Who) (words : List (List ℕ)) → IsWho who
    → begins_queue (join_words (who_text who ∷ words)) ≡ false
who_begins_no_queue who words h = ap begins_queue (joined_spaced (who_text who) words)
    ∙ who_begins who (space_words words) h

pub entry_begins : (e : Entry) → (IsEntry greatest_number) e → begins_queue (join_words (entry_words e)) ≡ false
entry_begins e h =
    who_begins_no_queue e.who (decimal e.serial ∷ (call_words e.call ++ codes "=" ∷ reply_words e.reply)) h.who

-- ---- the last line is no shape line and no line of an entry

end_words_of : (n : ℕ) → n ≤ greatest_number → words_of (join_words (end_words n)) ≡ end_words n
end_words_of n le = words_again (codes "end") (decimal n ∷ []) (end_is_plain n le)

end_is_no_counts : (n : ℕ) → n ≤ greatest_number → counts_read (join_words (end_words n)) ≡ None
unfolding counts_read
end_is_no_counts n le = ap counts_from (end_words_of n le)

pub end_is_no_shape : (v n : ℕ) → n ≤ greatest_number → counts_of_format v (join_words (end_words n)) ≡ None
unfolding counts_of_format
end_is_no_shape v n le = rw (end_is_no_counts n le) refl

end_of_no_entry : (n : ℕ) → n ≤ greatest_number → entry_of (join_words (end_words n)) ≡ None
unfolding entry_of who_read
end_of_no_entry n le = ap entry_from (end_words_of n le)

pub end_is_no_entry : (v n : ℕ) → n ≤ greatest_number → entry_of_format v (join_words (end_words n)) ≡ None
unfolding entry_of_format
end_is_no_entry v n le = rw (end_of_no_entry n le) refl

-- ---- what fits a shape may be said

has_some : (s : Layout) (c : Call) → has_numbers s c ≡ true → sets_some c ≡ true
has_some s c e = grind arith

pub fits_line : (s : Layout) (who : Who) (c : Call) → fits s who c ≡ true → may_say who c ≡ true
fits_line s who c e = grind arith
