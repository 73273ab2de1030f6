-- Shape lines and lines of queues, and how long lines are.
use Rattle.cmwq_text.specs.Common.{◌≡◌, ℕ, ◌≤◌, Bool, true, ◌&&◌, List, [], ◌∷◌, ◌++◌, length, leb, Option, Some, None}
use Rattle.cmwq_text.specs.Common.{refl, ap, ◌∙◌, arith, cond, codes, IsTrue, decimal, bytes_eq, leb-true, same_Some}
use Rattle.cmwq_text.specs.Common.{bytes_eq-Decides, length-append, Who, Call, Entry, Counts, QueueShape, are_counts}
use Rattle.cmwq_text.specs.Common.{is_between, is_queue, IsWho, IsCall, IsEntry}
use Rattle.cmwq_text.specs.declared.shape.Flags.{Flags}
use Rattle.cmwq_text.specs.declared.shape.QueueLine.{QueueLine}
use Rattle.cmwq_text.specs.Words.{◌>>=◌, words_of, line_text, has_no_word, after, word_read, byte_count_in}
use Rattle.cmwq_text.specs.Words.{short_count_in, number_in, wide_in}
use Rattle.cmwq_text.specs.IdText.{who_text}
use Rattle.cmwq_text.specs.CallText.{call_words, call_text}
use Rattle.cmwq_text.specs.ReplyText.{reply_words}
use Rattle.cmwq_text.specs.EntryText.{entry_words, entry_text}
use Rattle.cmwq_text.specs.ShapeText.{counts_words, counts_text, counts_read, flags, flags_in, flags_text, all_flags}
use Rattle.cmwq_text.specs.ShapeText.{flags_of, queue_words, queue_text, queue_line_of, queue_with, width_taken}
use Rattle.cmwq_text.specs.ShapeText.{queue_of_calls, queue_of_history}
use Rattle.cmwq_text.specs.Numbers.{greatest_number}
use Rattle.cmwq_text.specs.Laws.{IsLineOf, CountsReadAgain, QueuesReadAgain, CountsSpelledSo, QueuesSpelledSo}
use Rattle.cmwq_text.specs.Laws.{LinesAreShort}
use Rattle.cmwq_text.proofs.Steps.{bind_some, chosen}
use Rattle.cmwq_text.proofs.WordLaws.{is_plain, are_plain, is_plain-decimal, after_takes, word_takes}
use Rattle.cmwq_text.proofs.IdLaws.{byte_count_again, short_count_again, number_in_again, wide_in_again}
use Rattle.cmwq_text.proofs.IdLaws.{byte_count_takes, short_count_takes, number_in_takes, wide_in_takes}
use Rattle.cmwq_text.proofs.CallLaws.{call_is_short}
use Rattle.cmwq_text.proofs.ReplyLaws.{reply_is_short}
use Rattle.cmwq_text.proofs.PhraseLaws.{numbers_are_plain, size, size-append, line_len, byte_len, number_len, wide_len}
use Rattle.cmwq_text.proofs.LineLaws.{line_words, line_is, no_more, counts_are_small}
use Rattle.cmwq_text.proofs.EndLaws.{end_is_short}
use Rattle.std.proofs.lemmas.Bool.{and_from, and_parts}
use Rattle.cmwq_lemmas.proofs.Lists.{found_passes}

abbrev counts_tested : Counts → List (List ℕ) → Option Counts
counts_tested n ws = cond (has_no_word ws && are_counts n.cpus n.workers n.callers n.items n.room) (Some n) None

abbrev counts_after_items : ℕ → ℕ → ℕ → ℕ × List (List ℕ) → Option Counts
counts_after_items cpus workers callers i =
    wide_in i.1 >>= λ room. counts_tested
    (record { cpus = cpus; workers = workers; callers = callers; items = i.0; room = room.0 }) room.1

abbrev counts_after_callers : ℕ → ℕ → ℕ × List (List ℕ) → Option Counts
counts_after_callers cpus workers c = short_count_in c.1 >>= counts_after_items cpus workers c.0

abbrev counts_after_workers : ℕ → ℕ × List (List ℕ) → Option Counts
counts_after_workers cpus w = byte_count_in w.1 >>= counts_after_callers cpus w.0

abbrev counts_after_cpus : ℕ × List (List ℕ) → Option Counts
counts_after_cpus c = byte_count_in c.1 >>= counts_after_workers c.0

abbrev pub counts_from : List (List ℕ) → Option Counts
counts_from ws = after (codes "shape") ws >>= λ rest. byte_count_in rest >>= counts_after_cpus

pub counts_are_plain : (n : Counts) → IsTrue (are_counts n.cpus n.workers n.callers n.items n.room)
    → are_plain (counts_words n) ≡ true
counts_are_plain n inside =
    let small = counts_are_small n.cpus n.workers n.callers n.items n.room inside in
    let numbers : List ℕ = n.cpus ∷ n.workers ∷ n.callers ∷ n.items ∷ n.room ∷ [] in
    numbers_are_plain numbers (omega arith, (omega arith, (omega arith, (omega arith, (omega arith, tt)))))

pub counts_read_again : CountsReadAgain
unfolding counts_text counts_read
counts_read_again n line inside is =
    let small = counts_are_small n.cpus n.workers n.callers n.items n.room inside in
    let words : words_of line ≡ counts_words n =
    line_words (codes "shape") (decimal n.cpus ∷ decimal n.workers ∷ decimal n.callers ∷ decimal n.items
    ∷ decimal n.room ∷ []) line (counts_are_plain n inside) is in
    ap counts_from words
    ∙ rw (
      byte_count_again n.cpus (decimal n.workers ∷ decimal n.callers ∷ decimal n.items ∷ decimal n.room ∷ [])
          (omega arith),
      byte_count_again n.workers (decimal n.callers ∷ decimal n.items ∷ decimal n.room ∷ []) (omega arith),
      byte_count_again n.callers (decimal n.items ∷ decimal n.room ∷ []) (omega arith),
      short_count_again n.items (decimal n.room ∷ []) (omega arith),
      wide_in_again n.room [] (omega arith),
      inside,
    ) refl

counts_pieces : (ws a b c d e rest : List (List ℕ)) (n : Counts) → ws ≡ codes "shape" ∷ a → a ≡ decimal n.cpus ∷ b
    → b ≡ decimal n.workers ∷ c → c ≡ decimal n.callers ∷ d → d ≡ decimal n.items ∷ e → e ≡ decimal n.room ∷ rest
    → rest ≡ [] → ws ≡ counts_words n
counts_pieces ws a b c d e rest n first cpus workers callers items room ended =
    rw (first, cpus, workers, callers, items, room, ended) refl

pub counts_spelled_so : CountsSpelledSo
unfolding counts_text counts_read
counts_spelled_so n line is =
    let first =
    bind_some (after (codes "shape") (words_of line))
    (λ (rest : List (List ℕ)). byte_count_in rest >>= counts_after_cpus) n is in
    let cpus = bind_some (byte_count_in first.0) counts_after_cpus n first.2 in
    let workers = bind_some (byte_count_in cpus.0.1) (counts_after_workers cpus.0.0) n cpus.2 in
    let callers = bind_some (byte_count_in workers.0.1) (counts_after_callers cpus.0.0 workers.0.0) n workers.2 in
    let items =
    bind_some (short_count_in callers.0.1) (counts_after_items cpus.0.0 workers.0.0 callers.0.0) n callers.2 in
    let room =
    bind_some (wide_in items.0.1)
    (λ (r : ℕ × List (List ℕ)). counts_tested
    (record { cpus = cpus.0.0; workers = workers.0.0; callers = callers.0.0; items = items.0.0; room = r.0 }) r.1) n
    items.2 in
    let made : Counts =
    record { cpus = cpus.0.0; workers = workers.0.0; callers = callers.0.0; items = items.0.0; room = room.0.0 } in
    let found =
    chosen (has_no_word room.0.1 && are_counts made.cpus made.workers made.callers made.items made.room) (Some made)
    n room.2 in
    let tests =
    and_parts (has_no_word room.0.1) (are_counts made.cpus made.workers made.callers made.items made.room)
    found.0 in
    let words : words_of line ≡ counts_words made =
    counts_pieces (words_of line) first.0 cpus.0.1 workers.0.1 callers.0.1 items.0.1 room.0.1 made
    (after_takes (codes "shape") (words_of line) first.0 first.1)
    (byte_count_takes first.0 cpus.0 cpus.1)
    (byte_count_takes cpus.0.1 workers.0 workers.1)
    (byte_count_takes workers.0.1 callers.0 callers.1)
    (short_count_takes callers.0.1 items.0 items.1)
    (wide_in_takes items.0.1 room.0 room.1)
    (no_more room.0.1 tests.0) in
    line_is line (counts_words n) (words ∙ ap counts_words (same_Some _ _ found.1))

-- ---- queues

flags_again : (high intensive freezable : Bool) → flags_of (flags_text (flags high intensive freezable))
    ≡ Some (flags high intensive freezable)
flags_again high intensive freezable = grind arith

flags_are_plain : (high intensive freezable : Bool) → is_plain (flags_text (flags high intensive freezable)) ≡ true
flags_are_plain high intensive freezable = grind arith

flags_takes : (w : List ℕ) (f : Flags) → flags_of w ≡ Some f → w ≡ flags_text f
flags_takes w f e = (bytes_eq-Decides w (flags_text f)).0 (found_passes (λ g. bytes_eq w (flags_text g)) all_flags f e)

abbrev queue_line_tested : ℕ → Flags × List (List ℕ) → Option QueueLine
queue_line_tested width f = cond (has_no_word f.1) (Some (record { max_active = width; flags = f.0 })) None

abbrev queue_line_after : ℕ × List (List ℕ) → Option QueueLine
queue_line_after width = word_read flags_of width.1 >>= queue_line_tested width.0

abbrev queue_line_from : List (List ℕ) → Option QueueLine
queue_line_from ws = after (codes "wq") ws >>= λ rest. number_in rest >>= queue_line_after

pub queue_is_plain : (q : QueueShape) → q.max_active ≤ 512 → are_plain (queue_words q) ≡ true
queue_is_plain q small = grind (arith, and_from, is_plain-decimal, flags_are_plain)

queue_line_again : (q : QueueShape) (line : List ℕ) → q.max_active ≤ 512 → IsLineOf (queue_text q) line
    → queue_line_of line ≡ Some (record { max_active = q.max_active; flags = flags_in q })
unfolding queue_text queue_line_of
queue_line_again q line small is =
    let f : List ℕ = flags_text (flags_in q) in
    let words : words_of line ≡ queue_words q =
    line_words (codes "wq") (decimal q.max_active ∷ f ∷ []) line (queue_is_plain q small) is in
    ap queue_line_from words
    ∙ rw (number_in_again q.max_active (f ∷ []) (omega arith), flags_again q.high q.intensive q.freezable) refl

width_kept : (n : ℕ) → 1 ≤ n → n ≤ 512 → width_taken n ≡ n
width_kept n some small = grind arith

pub queues_read_again : QueuesReadAgain
unfolding queue_of_calls queue_of_history
queues_read_again q line inside is = grind (arith, queue_line_again, width_kept)

queue_pieces : (ws a b rest : List (List ℕ)) (l : QueueLine) (f : List ℕ) → ws ≡ codes "wq" ∷ a
    → a ≡ decimal l.max_active ∷ b → b ≡ f ∷ rest → f ≡ flags_text l.flags → rest ≡ []
    → ws ≡ codes "wq" ∷ decimal l.max_active ∷ flags_text l.flags ∷ []
queue_pieces ws a b rest l f first width word spelled ended = rw (first, width, word, spelled, ended) refl

queue_line_takes : (line : List ℕ) (l : QueueLine) → queue_line_of line ≡ Some l
    → words_of line ≡ codes "wq" ∷ decimal l.max_active ∷ flags_text l.flags ∷ []
unfolding queue_line_of
queue_line_takes line l e =
    grind (arith, bind_some, chosen, word_takes, queue_pieces, after_takes, number_in_takes, flags_takes, no_more)

pub queues_spelled_so : QueuesSpelledSo
unfolding queue_text queue_of_history
queues_spelled_so q line is =
    let l = bind_some (queue_line_of line)
    (λ (l : QueueLine). cond (is_between 1 512 l.max_active) (Some (queue_with l.max_active l.flags)) None) q is in
    let found = chosen (is_between 1 512 l.0.max_active) (Some (queue_with l.0.max_active l.0.flags)) q l.2 in
    let words : words_of line ≡ queue_words (queue_with l.0.max_active l.0.flags) = queue_line_takes line l.0 l.1 in
    line_is line (queue_words q) (words ∙ ap queue_words (same_Some _ _ found.1))

-- in a file of calls it is spelled with the width that stands there, which is taken as another one where it is 0 or
-- more than 512
pub queues_of_calls_spelled_so : (q : QueueShape) (line : List ℕ) → queue_of_calls line ≡ Some q
    → (l : QueueLine) × (queue_with (width_taken l.max_active) l.flags ≡ q)
    × IsLineOf (queue_text (queue_with l.max_active l.flags)) line
unfolding queue_text queue_of_calls
queues_of_calls_spelled_so q line is =
    let l = bind_some (queue_line_of line) (λ (l : QueueLine). Some (queue_with (width_taken l.max_active) l.flags)) q
    is in
    let words : words_of line ≡ queue_words (queue_with l.0.max_active l.0.flags) = queue_line_takes line l.0 l.1 in
    (l.0, same_Some _ _ l.2, line_is line (queue_words (queue_with l.0.max_active l.0.flags)) words)

-- ---- how long lines are

who_is_short : (who : Who) → IsWho who → length (who_text who) ≤ 8
who_is_short who h = grind (arith, byte_len, length-append)

pub call_line_is_short : (who : Who) (c : Call) → IsWho who → (IsCall greatest_number) c
    → length (call_text who c) ≤ 121
unfolding call_text
call_line_is_short who c h k =
    omega (arith, line_len (who_text who) (call_words c), who_is_short who h, call_is_short c k)

pub entry_line_is_short : (e : Entry) → (IsEntry greatest_number) e → length (entry_text e) ≤ 121
unfolding entry_text
entry_line_is_short e h =
    let answer : List (List ℕ) = (61 ∷ []) ∷ reply_words e.reply in
    let len : length (line_text (entry_words e)) ≡ size (entry_words e) =
    line_len (who_text e.who) (decimal e.serial ∷ (call_words e.call ++ answer)) in
    omega (
      arith,
      len,
      size-append (call_words e.call) answer,
      who_is_short e.who h.who,
      wide_len e.serial h.serial,
      call_is_short e.call h.call,
      reply_is_short e.reply h.reply,
    )

pub counts_line_is_short : (n : Counts) → IsTrue (are_counts n.cpus n.workers n.callers n.items n.room)
    → length (counts_text n) ≤ 121
unfolding counts_text
counts_line_is_short n inside =
    let small = counts_are_small n.cpus n.workers n.callers n.items n.room inside in
    let len : length (line_text (counts_words n)) ≡ size (counts_words n) =
    line_len (codes "shape") (decimal n.cpus ∷ decimal n.workers ∷ decimal n.callers ∷ decimal n.items
    ∷ decimal n.room ∷ []) in
    omega (
      arith,
      len,
      number_len n.cpus (omega arith),
      number_len n.workers (omega arith),
      number_len n.callers (omega arith),
      number_len n.items (omega arith),
      wide_len n.room (omega arith),
    )

flags_are_short : (high intensive freezable : Bool) → length (flags_text (flags high intensive freezable)) ≤ 3
flags_are_short high intensive freezable = grind arith

pub queue_line_is_short : (q : QueueShape) → IsTrue (is_queue q) → length (queue_text q) ≤ 121
unfolding queue_text
queue_line_is_short q inside =
    let small : q.max_active ≤ 512 =
    leb-true q.max_active 512 (and_parts (leb 1 q.max_active) (leb q.max_active 512) inside).1 in
    let f : List ℕ = flags_text (flags_in q) in
    let len : length (line_text (queue_words q)) ≡ size (queue_words q) =
    line_len (codes "wq") (decimal q.max_active ∷ f ∷ []) in
    omega (arith, len, number_len q.max_active (omega arith), flags_are_short q.high q.intensive q.freezable)

pub lines_are_short : LinesAreShort
lines_are_short = (call_line_is_short, entry_line_is_short, counts_line_is_short, queue_line_is_short, end_is_short)
