-- Lines of calls and of entries.
use Rattle.cmwq_text.specs.Common.{◌≡◌, ℕ, true, ◌&&◌, List, [], ◌∷◌, ◌++◌, Option, Some, None, refl, ap, sym, ◌∙◌}
use Rattle.cmwq_text.specs.Common.{arith, cond, if◌then◌else◌, codes, decimal, same_Some, append-nil, Who, Call, Reply}
use Rattle.cmwq_text.specs.Common.{Entry, may_make, has_numbers, fits, entry_fits, reply_fits, IsWho, IsCall, IsEntry}
use Rattle.cmwq_text.specs.Words.{◌>>=◌, words_of, join_words, has_no_word, after, wide_in}
use Rattle.cmwq_text.specs.IdText.{who_text, who_in}
use Rattle.cmwq_text.specs.CallText.{call_words, call_text, call_in, may_say, call_read}
use Rattle.cmwq_text.specs.ReplyText.{reply_words, reply_in}
use Rattle.cmwq_text.specs.EntryText.{entry_words, entry_text, entry_of}
use Rattle.cmwq_text.specs.Numbers.{greatest_number}
use Rattle.cmwq_text.specs.Laws.{CallsReadAgain, EntriesReadAgain, CallsSpelledSo, EntriesSpelledSo, EntriesStandApart}
use Rattle.cmwq_text.proofs.Steps.{bind_some, chosen}
use Rattle.cmwq_text.proofs.WordLaws.{is_plain, are_plain, are_plain-append, is_plain-decimal, after_takes}
use Rattle.cmwq_text.proofs.IdLaws.{who_again, who_takes, is_plain-who, wide_in_again, wide_in_takes}
use Rattle.cmwq_text.proofs.CallLaws.{call_again, call_takes, call_is_plain}
use Rattle.cmwq_text.proofs.ReplyLaws.{reply_again, reply_takes, reply_is_plain}
use Rattle.cmwq_text.proofs.LineLaws.{line_words, line_is, no_more, lines_apart, layout_is_small, known_who, known_call}
use Rattle.cmwq_text.proofs.LineLaws.{known_reply}
use Rattle.std.proofs.lemmas.Bool.{and_from, and_parts}

call_again_alone : (c : Call) → (IsCall greatest_number) c → call_in (call_words c) ≡ Some (c, [])
call_again_alone c h = ap call_in (sym (append-nil (call_words c))) ∙ call_again c [] h

-- ---- lines of calls

abbrev call_from : List (List ℕ) → Option (Who × Call)
call_from ws = do
  who ← who_in ws
  c ← call_in who.1
  if has_no_word c.1 && may_say who.0 c.0 then Some (who.0, c.0) else None

pub call_line_is_plain : (who : Who) (c : Call) → IsWho who → (IsCall greatest_number) c
    → are_plain (who_text who ∷ call_words c) ≡ true
call_line_is_plain who c h k =
    and_from (is_plain (who_text who)) (are_plain (call_words c)) (is_plain-who who h) (call_is_plain c k)

pub calls_read_again : CallsReadAgain
unfolding call_text call_read
calls_read_again who c line h k kind e =
    let words : words_of line ≡ who_text who ∷ call_words c =
    line_words (who_text who) (call_words c) line (call_line_is_plain who c h k) e in
    ap call_from words ∙ rw (who_again who h, call_again_alone c k, kind) refl

same_words : (v w : Who) (c d : Call) (rest : List (List ℕ)) → v ≡ w → c ≡ d → rest ≡ []
    → who_text v ∷ (call_words c ++ rest) ≡ who_text w ∷ call_words d
same_words v w c d rest p q e = rw (p, q, e) (ap (λ (t : List (List ℕ)). who_text w ∷ t) (append-nil (call_words d)))

pub calls_spelled_so : CallsSpelledSo
unfolding call_text call_read
calls_spelled_so s who c line small fit is =
    let a = bind_some (who_in (words_of line))
    (λ (a : Who × List (List ℕ)). call_in a.1 >>= λ (b : Call × List (List ℕ)). cond
    (has_no_word b.1 && may_say a.0 b.0) (Some (a.0, b.0)) None) (who, c) is in
    let b = bind_some (call_in a.0.1)
    (λ (b : Call × List (List ℕ)). cond (has_no_word b.1 && may_say a.0.0 b.0) (Some (a.0.0, b.0)) None) (who, c)
    a.2 in
    let found = chosen (has_no_word b.0.1 && may_say a.0.0 b.0.0) (Some (a.0.0, b.0.0)) (who, c) b.2 in
    let same : (a.0.0, b.0.0) ≡ (who, c) = same_Some _ _ found.1 in
    let who-is : a.0.0 ≡ who = ap (λ (x : Who × Call). x.0) same in
    let call-is : b.0.0 ≡ c = ap (λ (x : Who × Call). x.1) same in
    let inside = and_parts (may_make s who c) (has_numbers s c) fit in
    let limits = layout_is_small s small in
    let first : words_of line ≡ who_text a.0.0 ∷ a.0.1 =
    who_takes (words_of line) a.0 a.1 (rw who-is (known_who s who c limits inside.0)) in
    let second : a.0.1 ≡ call_words b.0.0 ++ b.0.1 =
    call_takes a.0.1 b.0 b.1 (rw call-is (known_call s c limits inside.1)) in
    line_is line (who_text who ∷ call_words c)
    (first ∙ ap (λ (t : List (List ℕ)). who_text a.0.0 ∷ t) second
    ∙ same_words a.0.0 who b.0.0 c b.0.1 who-is call-is (no_more b.0.1 (and_parts _ _ found.0).0))

-- ---- lines of entries

abbrev pub entry_at_end : Who → ℕ → Call → Reply × List (List ℕ) → Option Entry
entry_at_end who serial c r =
    cond (has_no_word r.1 && may_say who c) (Some (record { who = who; serial = serial; call = c; reply = r.0 })) None

abbrev pub entry_after_equals : Who → ℕ → Call → List (List ℕ) → Option Entry
entry_after_equals who serial c ws = reply_in ws >>= entry_at_end who serial c

abbrev pub entry_after_call : Who → ℕ → Call × List (List ℕ) → Option Entry
entry_after_call who serial c = after (codes "=") c.1 >>= entry_after_equals who serial c.0

abbrev pub entry_after_serial : Who → ℕ × List (List ℕ) → Option Entry
entry_after_serial who n = call_in n.1 >>= entry_after_call who n.0

abbrev pub entry_after_who : Who × List (List ℕ) → Option Entry
entry_after_who who = wide_in who.1 >>= entry_after_serial who.0

abbrev pub entry_from : List (List ℕ) → Option Entry
entry_from ws = who_in ws >>= entry_after_who

pub entry_is_plain : (e : Entry) → (IsEntry greatest_number) e → are_plain (entry_words e) ≡ true
entry_is_plain e h =
    grind (arith, and_from, is_plain-who, is_plain-decimal, are_plain-append, call_is_plain, reply_is_plain)

pub entries_read_again : EntriesReadAgain
unfolding entry_text entry_of
entries_read_again e line h kind is =
    let answer : List (List ℕ) = (61 ∷ []) ∷ reply_words e.reply in
    let words : words_of line ≡ entry_words e =
    line_words (who_text e.who) (decimal e.serial ∷ (call_words e.call ++ answer)) line (entry_is_plain e h) is in
    ap entry_from words
    ∙ rw (
      who_again e.who h.who,
      wide_in_again e.serial (call_words e.call ++ answer) h.serial,
      call_again e.call answer h.call,
      reply_again e.reply h.reply,
      kind,
    ) refl

-- the parts of an entry's words, one after the other
entry_pieces : (ws a b c d rest : List (List ℕ)) (e : Entry) → ws ≡ who_text e.who ∷ a → a ≡ decimal e.serial ∷ b
    → b ≡ call_words e.call ++ c → c ≡ (61 ∷ []) ∷ d → d ≡ reply_words e.reply ++ rest → rest ≡ [] → ws ≡ entry_words e
entry_pieces ws a b c d rest e who serial call equals reply ended = grind (arith, append-nil)

pub entries_spelled_so : EntriesSpelledSo
unfolding entry_text entry_of
entries_spelled_so s e line small fit is =
    let who = bind_some (who_in (words_of line)) entry_after_who e is in
    let serial = bind_some (wide_in who.0.1) (entry_after_serial who.0.0) e who.2 in
    let c = bind_some (call_in serial.0.1) (entry_after_call who.0.0 serial.0.0) e serial.2 in
    let answer = bind_some (after (codes "=") c.0.1) (entry_after_equals who.0.0 serial.0.0 c.0.0) e c.2 in
    let r = bind_some (reply_in answer.0) (entry_at_end who.0.0 serial.0.0 c.0.0) e answer.2 in
    let made : Entry = record { who = who.0.0; serial = serial.0.0; call = c.0.0; reply = r.0.0 } in
    let found = chosen (has_no_word r.0.1 && may_say who.0.0 c.0.0) (Some made) e r.2 in
    let same : made ≡ e = same_Some _ _ found.1 in
    let fit_made : entry_fits s made ≡ true = ap (entry_fits s) same ∙ fit in
    let outer = and_parts (fits s who.0.0 c.0.0) (reply_fits s r.0.0) fit_made in
    let inner = and_parts (may_make s who.0.0 c.0.0) (has_numbers s c.0.0) outer.0 in
    let limits = layout_is_small s small in
    let ended : r.0.1 ≡ [] = no_more r.0.1 (and_parts (has_no_word r.0.1) (may_say who.0.0 c.0.0) found.0).0 in
    let who_part : words_of line ≡ who_text who.0.0 ∷ who.0.1 =
    who_takes (words_of line) who.0 who.1 (known_who s who.0.0 c.0.0 limits inner.0) in
    let serial_part : who.0.1 ≡ decimal serial.0.0 ∷ serial.0.1 = wide_in_takes who.0.1 serial.0 serial.1 in
    let call_part : serial.0.1 ≡ call_words c.0.0 ++ c.0.1 =
    call_takes serial.0.1 c.0 c.1 (known_call s c.0.0 limits inner.1) in
    let equals_part : c.0.1 ≡ (61 ∷ []) ∷ answer.0 = after_takes (codes "=") c.0.1 answer.0 answer.1 in
    let reply_part : answer.0 ≡ reply_words r.0.0 ++ r.0.1 =
    reply_takes answer.0 r.0 r.1 (known_reply s r.0.0 limits outer.1) in
    let parts : words_of line ≡ entry_words made =
    entry_pieces (words_of line) who.0.1 serial.0.1 c.0.1 answer.0 r.0.1 made who_part serial_part call_part
    equals_part reply_part ended in
    line_is line (entry_words e) (parts ∙ ap entry_words same)

pub entries_stand_apart : EntriesStandApart
unfolding entry_text
entries_stand_apart e f rest h k kind_e kind_f is =
    let apart = lines_apart (entry_words f) (entry_words e) rest (entry_is_plain f k) (entry_is_plain e h) is in
    let e-read : entry_of (join_words (entry_words e)) ≡ Some e =
    entries_read_again e (join_words (entry_words e)) h kind_e refl in
    let f-read : entry_of (join_words (entry_words f)) ≡ Some f =
    entries_read_again f (join_words (entry_words f)) k kind_f refl in
    (same_Some e f (sym e-read ∙ ap entry_of (sym apart.0) ∙ f-read), apart.1)
