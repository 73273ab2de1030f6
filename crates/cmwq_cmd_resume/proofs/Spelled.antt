-- The line of a call, as a part of the line of an entry.
use Rattle.std.proofs.Common.{◌≡◌, ◌++◌, ◌-◌, ◌+◌, ◌≤◌, ◌∙◌, ℕ, List, [], ◌∷◌, ap, append_assoc, arith, codes, drop}
use Rattle.std.proofs.Common.{length, refl, sym, take}
use Rattle.std.proofs.Math.Seq.{drop-append_seam, take-append_seam}
use Rattle.std.proofs.lemmas.List.{length-append}
use Rattle.std.proofs.lemmas.List.Concat.{flat_map-cons}
use Rattle.std.specs.Prelude.{flat_map}
use Rattle.cmwq_model.specs.Prelude.{Layout}
use Rattle.cmwq_model.specs.declared.id.Who.{Who}
use Rattle.cmwq_text.specs.HistoryText.{calls_text, calls_version_text, counts_in}
use Rattle.cmwq_text.specs.ShapeText.{counts_text, queue_text}
use Rattle.cmwq_resume.specs.Plays.{by_caller}
use Rattle.cmwq_model.specs.declared.call.Call.{Call}
use Rattle.cmwq_model.specs.declared.entry.Entry.{Entry}
use Rattle.cmwq_model.specs.declared.id.Who.TheVariants.{Caller}
use Rattle.cmwq_model.specs.declared.reply.Reply.TheVariants as reply
unfoldable use Rattle.cmwq_text.specs.CallText.{call_text, call_words}
unfoldable use Rattle.cmwq_text.specs.EntryText.{entry_text}
unfoldable use Rattle.cmwq_text.specs.Keywords.{keyword_text}
unfoldable use Rattle.cmwq_text.specs.ReplyText.{reply_words}
unfoldable use Rattle.cmwq_text.specs.Words.{space_words}
use Rattle.cmwq_text.specs.Words.{join_words}
use Rattle.cmwq_text.specs.Common.{decimal, decimal_digit}
use Rattle.cmwq_text.proofs.Spacing.{joined_spaced, spaced_append}
use Rattle.cmwq_cmd_resume.specs.Resumed.{by_first, first_caller}

abbrev pub entry_of : Call → Entry
entry_of c = record { who = Caller first_caller; serial = 0; call = c; reply = reply.No }

-- what stands before the words of the call, and after them
abbrev pub before : List ℕ
before = codes "c0 0"

abbrev pub behind : List ℕ
behind = codes " = no\n"

zero_spelled : decimal 0 ≡ codes "0"
zero_spelled = decimal_digit 0 (omega arith)

pub entry_spelled : (c : Call) → entry_text (entry_of c) ≡ before ++ (space_words (call_words c) ++ behind)
unfolding entry_text space_words reply_words keyword_text
entry_spelled c =
    let rest = codes "=" ∷ reply_words reply.No in
    ap (λ (d : List ℕ). join_words ((99 ∷ d) ∷ d ∷ (call_words c ++ rest)) ++ 10 ∷ []) zero_spelled
    ∙ ap (λ l. l ++ 10 ∷ []) (joined_spaced (codes "c0") (codes "0" ∷ (call_words c ++ rest))
    ∙ ap (λ l. codes "c0 0" ++ l) (spaced_append (call_words c) rest))
    ∙ ap (λ l. codes "c0 0" ++ l) (append_assoc (space_words (call_words c)) (space_words rest) (10 ∷ []))

pub call_spelled : (c : Call) → call_text (Caller first_caller) c
    ≡ (codes "c0" ++ space_words (call_words c)) ++ 10 ∷ []
unfolding call_text
call_spelled c =
    ap (λ (d : List ℕ). join_words ((99 ∷ d) ∷ call_words c) ++ 10 ∷ []) zero_spelled
    ∙ ap (λ l. l ++ 10 ∷ []) (joined_spaced (codes "c0") (call_words c))

-- between the two stands the rest
lengths : (words line : List ℕ) → line ≡ before ++ (words ++ behind) → length line ≡ 10 + length words
lengths words line is =
    let long : length (before ++ (words ++ behind)) ≡ 4 + length (words ++ behind) =
    length-append before (words ++ behind) in
    omega (arith, ap {B = ℕ} length is, long, length-append words behind)

between : (words line : List ℕ) → line ≡ before ++ (words ++ behind)
    → take (length line - 10) (drop 4 line) ≡ words
between words line is =
    let many : length line - 10 ≡ length words = omega (arith, lengths words line is) in
    ap (λ n. take n (drop 4 line)) many ∙ ap (λ l. take (length words) (drop 4 l)) is
    ∙ ap (take (length words)) (drop-append_seam before (words ++ behind)) ∙ take-append_seam words behind

pub long_enough : (c : Call) (line : List ℕ) → line ≡ entry_text (entry_of c) → 10 ≤ length line
long_enough c line is =
    omega (arith, lengths (space_words (call_words c)) line (is ∙ entry_spelled c))

pub call_pushed : (c : Call) (old one two all line : List ℕ) → line ≡ entry_text (entry_of c)
    → one ≡ old ++ codes "c0" → two ≡ one ++ take (length line - 10) (drop 4 line) → all ≡ two ++ 10 ∷ []
    → all ≡ old ++ call_text (Caller first_caller) c
call_pushed c old one two all line is first second third =
    let words = space_words (call_words c) in
    third ∙ ap (λ l. l ++ 10 ∷ []) (second
    ∙ ap (λ l. one ++ l) (between words line (is ∙ entry_spelled c)) ∙ ap (λ l. l ++ words) first
    ∙ append_assoc old (codes "c0") words)
    ∙ append_assoc old (codes "c0" ++ words) (10 ∷ []) ∙ ap (λ l. old ++ l) (sym (call_spelled c))

-- the whole text, one part after the other
spelled_by : (calls : List Call) → flat_map (λ (x : Who × Call). call_text x.0 x.1) (by_first calls)
    ≡ flat_map (call_text (Caller first_caller)) calls
spelled_by [] = refl
spelled_by (c ∷ cs) =
    flat_map-cons (λ (x : Who × Call). call_text x.0 x.1) (by_caller first_caller c) (by_first cs)
    ∙ ap (λ l. call_text (Caller first_caller) c ++ l) (spelled_by cs)
    ∙ sym (flat_map-cons (call_text (Caller first_caller)) c cs)

in_a_row : (v c q f : List ℕ) → ((([] ++ v) ++ c) ++ q) ++ f ≡ v ++ ((c ++ q) ++ f)
in_a_row v c q f = simp (append_assoc) refl

pub all_spelled : (v : ℕ) (s : Layout) (calls : List Call) (start format counted queued all : List ℕ) → start ≡ []
    → format ≡ start ++ calls_version_text v → counted ≡ format ++ counts_text (counts_in s)
    → queued ≡ counted ++ flat_map queue_text s.queues
    → all ≡ queued ++ flat_map (call_text (Caller first_caller)) calls → all ≡ calls_text v s (by_first calls)
all_spelled v s calls start format counted queued all a b c d e =
    let counts = counts_text (counts_in s) in
    let queues = flat_map queue_text s.queues in
    let lines = flat_map (call_text (Caller first_caller)) calls in
    e ∙ ap (λ l. l ++ lines) (d ∙ ap (λ l. l ++ queues) (c ∙ ap (λ l. l ++ counts) (b
    ∙ ap (λ l. l ++ calls_version_text v) a)))
    ∙ in_a_row (calls_version_text v) counts queues lines
    ∙ ap (λ l. calls_version_text v ++ ((counts ++ queues) ++ l)) (sym (spelled_by calls))
