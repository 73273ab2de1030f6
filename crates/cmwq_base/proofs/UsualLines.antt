-- What is read of usual lines is what the definitions read of them.
use Rattle.std.proofs.Common.{◌≡◌, ℕ, ◌+◌, ◌*◌, ◌-◌, ◌<◌, ◌≤◌, ◌^◌, ◌||◌, Bool, true, false, List, [], ◌∷◌, ◌++◌, length}
use Rattle.std.proofs.Common.{get_or, take, drop, Option, Some, None, refl, ap, sym, ◌∙◌, arith, append_assoc, append-nil}
use Rattle.std.proofs.Common.{length-append, nat_le}
use Rattle.std.specs.Fmt.{decimal}
use Rattle.std.specs.Char.{is_ascii_digit}
use Rattle.std.specs.Str.{all_ascii_digits}
use Rattle.std.specs.Prelude.{codes}
use Rattle.std.proofs.Math.Bool.{or-true}
use Rattle.std.proofs.Math.Nat.{pow-suc, pow-le-pow_right}
use Rattle.std.proofs.Math.Numerals.{add-one}
use Rattle.std.proofs.lemmas.Bool.{le-leb, leb-true, and_from, and_parts}
use Rattle.std.proofs.lemmas.List.{take-append-drop, take_all, drop_more, get_or_append_left}
use Rattle.std.proofs.lemmas.Fmt.{decimal-digits_value, digits_decimal, digits_value-decimal, first_decimal}
use Rattle.std.proofs.lemmas.Fmt.{decimal_nonempty, decimal_digit}
use Rattle.cmwq_base.specs.Common.{Who, Call, Entry, IsWho, IsCall, IsEntry, greatest, greatest_number}
use Rattle.cmwq_base.specs.Common.{call_words, call_read, entry_words, entry_of, allows_entry}
use Rattle.cmwq_base.specs.Common.{entries_read_again, calls_read_again, join_words, IsWholeLine}
use Rattle.cmwq_base.specs.Common.{whole_call, whole_entry, entry_ends_none, end_of, needs_end}
use Rattle.cmwq_base.specs.Common.{call_of_format, entry_of_format}
use Rattle.cmwq_model.specs.Prelude.{IsReply}
use Rattle.cmwq_model.specs.declared.reply.Reply.{Reply}
use Rattle.cmwq_text.specs.Words.{space_words}
use Rattle.cmwq_text.specs.IdText.{who_text}
use Rattle.cmwq_text.specs.CallText.{call_text, is_of_kind, sets_some, may_say}
use Rattle.cmwq_text.specs.EntryText.{entry_text}
use Rattle.cmwq_text.specs.ReplyText.{reply_words}
use Rattle.cmwq_text.specs.Formats.{is_short, is_short_call, is_short_reply, is_timely}
use Rattle.cmwq_text.specs.Numbers.{value_from}
use Rattle.cmwq_text.proofs.NumberLaws.{own}
use Rattle.cmwq_text.proofs.Spacing.{entry_is, line_is, spaced_one}
use Rattle.cmwq_base.specs.Files.{end_of_format}
use Rattle.cmwq_base.specs.Kinds.{calls_kind, history_kind}
use Rattle.cmwq_base.specs.Usual.{BeginsWhole, BeginsLine, IsUsualWho, IsUsualCall, IsUsualReply}

-- ---- words

pub after_word : (bytes word : List ℕ) → take (length word) bytes ≡ take (length word) word
    → bytes ≡ word ++ drop (length word) bytes
after_word bytes word same =
    let begins : take (length word) bytes ≡ word = same ∙ take_all (length word) word (omega arith) in
    sym (take-append-drop (length word) bytes) ∙ ap (λ (t : List ℕ). t ++ drop (length word) bytes) begins

pub worker_is : (bytes l1 l2 l3 left a b : List ℕ) (letter : ℕ) → bytes ≡ 119 ∷ l1 → l1 ≡ a ++ l2 → l2 ≡ letter ∷ l3
    → l3 ≡ b ++ left → bytes ≡ ((119 ∷ a) ++ letter ∷ b) ++ left
worker_is bytes l1 l2 l3 left a b letter p q r t =
    rw (p, q, r, t) (sym (append_assoc (119 ∷ a) (letter ∷ b) left))

-- ---- digits

digit_above : (d : ℕ) → is_ascii_digit d ≡ true → (48 ≤ d) × (d - 48 < 10)
digit_above d digit = let parts = and_parts (nat_le 48 d) (nat_le d 57) digit in
    let low : 48 ≤ d = leb-true 48 d parts.0 in
    let high : d ≤ 57 = leb-true d 57 parts.1 in
    (low, omega (arith, low, high))

all_pushed : (ds : List ℕ) (d : ℕ) → all_ascii_digits ds ≡ true → is_ascii_digit d ≡ true
    → all_ascii_digits (ds ++ d ∷ []) ≡ true
all_pushed [] d all digit = rw digit refl
all_pushed (e ∷ ds) d all digit = grind (arith, all_pushed ds d)

value_pushed : (n : ℕ) (ds : List ℕ) (d : ℕ) → value_from n (ds ++ d ∷ []) ≡ value_from n ds * 10 + (d - 48)
value_pushed n [] d = refl
value_pushed n (e ∷ ds) d = value_pushed (n * 10 + (e - 48)) ds d

-- what is after the first byte, as the code takes it
abbrev pub behind_first : List ℕ → List ℕ
behind_first bytes = take (length bytes - 1) (drop 1 bytes)

-- a number with one digit more
pub decimal_pushed : (n d : ℕ) → 0 < n → n < 1000000000 → is_ascii_digit d ≡ true
    → decimal (n * 10 + (d - 48)) ≡ decimal n ++ d ∷ []
decimal_pushed n d some few digit =
    let lt : n < 2 ^ 64 = omega arith in
    let below : d - 48 < 10 = (digit_above d digit).1 in
    let ds : List ℕ = decimal n ++ d ∷ [] in
    let all : all_ascii_digits ds ≡ true = all_pushed (decimal n) d (digits_decimal own n lt) digit in
    let value : value_from 0 ds ≡ n * 10 + (d - 48) = value_pushed 0 (decimal n) d
    ∙ ap (λ (m : ℕ). m * 10 + (d - 48)) (digits_value-decimal own n lt) in
    let some_digits : 0 < length (decimal n) = decimal_nonempty n lt in
    let first : 48 < get_or (decimal n) 0 0 = first_decimal n some lt in
    let starts : get_or ds 0 0 ≡ get_or (decimal n) 0 0 = get_or_append_left (decimal n) (d ∷ []) 0 0 some_digits in
    let longer : length ds ≡ length (decimal n) + 1 = length-append (decimal n) (d ∷ []) in
    let small : n * 10 + (d - 48) < 2 ^ 64 = omega (arith, few, below) in
    ap decimal (sym value)
    ∙ decimal-digits_value own ds all (omega (arith, longer)) (λ same. absurd (omega (arith, starts, same, first)))
    (rw value small)

-- a number whose digits after the first one are less than eight, and at most eight
pub in_eight : (n k : ℕ) → n < 10 ^ (k + 1) → k < 8 → n < 100000000
in_eight n k few lt =
    let ten : 0 < 10 = omega arith in
    let less : k + 1 ≤ 8 = omega (arith, lt) in
    let power : 10 ^ (k + 1) ≤ 10 ^ 8 = pow-le-pow_right ten less in
    omega (arith, few, power)

pub in_nine : (n k : ℕ) → n < 10 ^ (k + 1) → k ≤ 8 → n < 1000000000
in_nine n k few le =
    let ten : 0 < 10 = omega arith in
    let less : k + 1 ≤ 9 = omega (arith, le) in
    let power : 10 ^ (k + 1) ≤ 10 ^ 9 = pow-le-pow_right ten less in
    omega (arith, few, power)

pub few_more : (n d k : ℕ) → n < 10 ^ (k + 1) → is_ascii_digit d ≡ true → n * 10 + (d - 48) < 10 ^ (k + 1 + 1)
few_more n d k few digit =
    let below : d - 48 < 10 = (digit_above d digit).1 in
    let power : 10 ^ (k + 1 + 1) ≡ 10 ^ (k + 1) * 10 = rw (add-one (k + 1)) (pow-suc 10 (k + 1)) in
    omega (arith, few, below, power)

pub digit_read : (text bytes : List ℕ) (n at : ℕ) → text ≡ decimal n ++ drop at bytes → 0 < n → n < 10 ^ (at + 1)
    → at < 8 → at < length bytes → is_ascii_digit (get_or bytes at 0) ≡ true
    → text ≡ decimal (n * 10 + (get_or bytes at 0 - 48)) ++ drop (at + 1) bytes
digit_read text bytes n at is some few near inside digit =
    let d : ℕ = get_or bytes at 0 in
    let small : n < 100000000 = in_eight n at few near in
    let more : decimal (n * 10 + (d - 48)) ≡ decimal n ++ d ∷ [] =
    decimal_pushed n d some (omega (arith, small)) digit in
    let rest : drop at bytes ≡ d ∷ drop (at + 1) bytes = drop_more bytes at 0 inside in
    is ∙ ap (λ (t : List ℕ). decimal n ++ t) rest ∙ sym (ap (λ (t : List ℕ). t ++ drop (at + 1) bytes) more
    ∙ append_assoc (decimal n) (d ∷ []) (drop (at + 1) bytes))

first_is : (bytes : List ℕ) → 1 ≤ length bytes → bytes ≡ get_or bytes 0 0 ∷ behind_first bytes
first_is [] some = absurd (omega arith)
first_is (x ∷ rest) some = ap (λ (t : List ℕ). x ∷ t) (sym (take_all (length (x ∷ rest) - 1) rest (omega arith)))

-- `0`, and a number that begins with another digit
pub zero_read : (bytes : List ℕ) → 1 ≤ length bytes → get_or bytes 0 0 ≡ 48 → bytes ≡ decimal 0 ++ behind_first bytes
zero_read bytes some zero =
    first_is bytes some ∙ ap (λ (d : ℕ). d ∷ behind_first bytes) zero
    ∙ ap (λ (t : List ℕ). t ++ behind_first bytes) (sym (decimal_digit 0 (omega arith)))

pub number_read : (bytes left : List ℕ) (n : ℕ) → 1 ≤ length bytes → is_ascii_digit (get_or bytes 0 0) ≡ true
    → decimal (get_or bytes 0 0 - 48) ++ behind_first bytes ≡ decimal n ++ left → bytes ≡ decimal n ++ left
number_read bytes left n some digit is =
    let d : ℕ = get_or bytes 0 0 in
    let above = digit_above d digit in
    let whole : 48 + (d - 48) ≡ d = omega (arith, above.0) in
    first_is bytes some
    ∙ ap (λ (t : List ℕ). t ++ behind_first bytes) (sym (decimal_digit (d - 48) above.1
    ∙ ap (λ (x : ℕ). x ∷ []) whole))
    ∙ is

-- ---- words after others

pub one_number : (bytes mid left w n : List ℕ) → bytes ≡ (32 ∷ w) ++ mid → mid ≡ 32 ∷ n ++ left
    → bytes ≡ space_words (w ∷ n ∷ []) ++ left
unfolding space_words
one_number bytes mid left w n p q = rw (p, q, append-nil n) (sym (append_assoc (32 ∷ w) (32 ∷ n) left))

pub three_numbers : (bytes l1 l2 left a b c : List ℕ) → bytes ≡ 32 ∷ a ++ l1 → l1 ≡ 32 ∷ b ++ l2 → l2 ≡ 32 ∷ c ++ left
    → bytes ≡ space_words (a ∷ b ∷ c ∷ []) ++ left
unfolding space_words
three_numbers bytes l1 l2 left a b c p q r =
    rw (p, q, r, append-nil c)
    (sym (append_assoc (32 ∷ a) ((32 ∷ b) ++ (32 ∷ c)) left
    ∙ ap (λ (t : List ℕ). (32 ∷ a) ++ t) (append_assoc (32 ∷ b) (32 ∷ c) left)))

pub four_numbers : (bytes mid left a b c d : List ℕ) → bytes ≡ space_words (a ∷ b ∷ c ∷ []) ++ mid → mid ≡ 32 ∷ d ++ left
    → bytes ≡ space_words (a ∷ b ∷ c ∷ d ∷ []) ++ left
unfolding space_words
four_numbers bytes mid left a b c d p q =
    let front : List ℕ = (32 ∷ a) ++ ((32 ∷ b) ++ (32 ∷ c)) in
    rw (p, q, append-nil c, append-nil d)
    (sym (append_assoc front (32 ∷ d) left)
    ∙ ap (λ (t : List ℕ). t ++ left) (append_assoc (32 ∷ a) ((32 ∷ b) ++ (32 ∷ c)) (32 ∷ d)
    ∙ ap (λ (t : List ℕ). (32 ∷ a) ++ t) (append_assoc (32 ∷ b) (32 ∷ c) (32 ∷ d))))

-- a number that every format has, and a time
pub short_number : (n : ℕ) → n < 1000000000 → nat_le n 4294967295 ≡ true
short_number n few = le-leb n 4294967295 (omega (arith, few))

pub timely_number : (n : ℕ) → n < 1000000000 → nat_le n 4611686018427387904 ≡ true
timely_number n few = le-leb n 4611686018427387904 (omega (arith, few))

-- what the readers of calls and replies ask for
pub ruleset spelled = (append_assoc, append-nil, short_number, timely_number, zero_read, number_read)

pub call_alone : (bytes text left : List ℕ) (c : Call) → IsUsualCall text c [] → bytes ≡ text ++ left
    → IsUsualCall bytes c left
call_alone bytes text left c k is = record {
  text = is ∙ ap (λ (t : List ℕ). t ++ left) (k.text ∙ append-nil (space_words (call_words c)));
  inside = k.inside;
  short = k.short;
  some = k.some;
}

pub reply_alone : (bytes text left : List ℕ) (r : Reply) → IsUsualReply text r [] → bytes ≡ text ++ left
    → IsUsualReply bytes r left
reply_alone bytes text left r k is = record {
  text = ap (λ (t : List ℕ). 32 ∷ t) is
      ∙ ap (λ (t : List ℕ). t ++ left) (k.text ∙ append-nil (space_words (reply_words r)));
  inside = k.inside;
  short = k.short;
  timely = k.timely;
}

-- ---- lines

begins : (text line bytes left : List ℕ) → IsWholeLine text line → bytes ≡ text ++ left → BeginsWhole bytes line left
begins text line bytes left w is = record {
  text = is ∙ ap (λ (t : List ℕ). t ++ left) w.is ∙ append_assoc line (10 ∷ []) left;
  one = w.one;
  short = w.short;
}

call_joined : (bytes l1 l2 left w c : List ℕ) → bytes ≡ w ++ l1 → l1 ≡ c ++ l2 → l2 ≡ codes "\n" ++ left
    → bytes ≡ ((w ++ c) ++ 10 ∷ []) ++ left
call_joined bytes l1 l2 left w c p1 p2 p3 = rw (p1, p2, p3) (simp append_assoc)

pub usual_call : (v : ℕ) (bytes l1 l2 left : List ℕ) (who : Who) (c : Call) → IsUsualWho bytes who l1
    → IsUsualCall l1 c l2 → l2 ≡ codes "\n" ++ left → is_of_kind who c ≡ true
    → BeginsLine calls_kind v bytes (who, c) left
unfolding call_text call_of_format
usual_call v bytes l1 l2 left who c w k ended kind =
    let may : may_say who c ≡ true = and_from (is_of_kind who c) (sets_some c) kind k.some in
    let line : List ℕ = join_words (who_text who ∷ call_words c) in
    let whole : IsWholeLine (call_text who c) line = whole_call who c w.inside k.inside in
    let read : call_read line ≡ Some (who, c) = calls_read_again who c line w.inside k.inside may whole.is in
    let text : bytes ≡ call_text who c ++ left =
    call_joined bytes l1 l2 left (who_text who) (space_words (call_words c)) w.text k.text ended
    ∙ ap (λ (t : List ℕ). t ++ left) (line_is (who_text who) (call_words c)) in
    record {
      line = line;
      whole = begins (call_text who c) line bytes left whole text;
      read = rw (read, k.short, or-true (nat_le 3 v)) refl;
      no_end = refl;
    }

entry_joined : (bytes l1 l2 l3 l4 l5 left w n c r : List ℕ) → bytes ≡ w ++ l1 → l1 ≡ 32 ∷ n ++ l2 → l2 ≡ c ++ l3
    → l3 ≡ codes " = " ++ l4 → 32 ∷ l4 ≡ r ++ l5 → l5 ≡ codes "\n" ++ left
    → bytes ≡ (((((w ++ 32 ∷ n) ++ c) ++ 32 ∷ 61 ∷ []) ++ r) ++ 10 ∷ []) ++ left
entry_joined bytes l1 l2 l3 l4 l5 left w n c r p1 p2 p3 p4 p5 p6 =
    let tail : l3 ≡ 32 ∷ 61 ∷ (r ++ (10 ∷ left)) = p4 ∙ ap (λ (t : List ℕ). 32 ∷ 61 ∷ t) (p5 ∙ rw p6 refl) in
    rw (p1, p2, p3, tail) (grind (arith, append_assoc))

allowed : (v : ℕ) (e : Entry) → 2 ≤ v → e.serial < 1000000000 → is_short_call e.call ≡ true
    → is_short_reply e.reply ≡ true → is_timely e.reply ≡ true → allows_entry v e ≡ true
allowed v e two few c r timely =
    let short : is_short e.serial ≡ true = le-leb e.serial greatest (omega arith) in
    let new : nat_le 2 v ≡ true = le-leb 2 v two in
    by_format (nat_le 3 v) refl short new
  where
    by_format : (b : Bool) → nat_le 3 v ≡ b → is_short e.serial ≡ true → nat_le 2 v ≡ true → allows_entry v e ≡ true
    by_format true is short new = rw is timely
    by_format false is short new = rw (is, short, c, r, new) refl

ends_none : (v : ℕ) (line : List ℕ) → end_of line ≡ None → end_of_format history_kind v line ≡ None
ends_none v line none = by_format (needs_end v) refl
  where
    by_format : (b : Bool) → needs_end v ≡ b → end_of_format history_kind v line ≡ None
    by_format true is = rw (is, none) refl
    by_format false is = rw is refl

pub usual_entry : (v : ℕ) (bytes l1 l2 l3 l4 l5 left : List ℕ) (who : Who) (n : ℕ) (c : Call) (r : Reply) → 2 ≤ v
    → IsUsualWho bytes who l1 → l1 ≡ 32 ∷ decimal n ++ l2 → n < 1000000000 → IsUsualCall l2 c l3
    → l3 ≡ codes " = " ++ l4 → IsUsualReply l4 r l5 → l5 ≡ codes "\n" ++ left → is_of_kind who c ≡ true
    → BeginsLine history_kind v bytes (let e : Entry = record { who = who; serial = n; call = c; reply = r } in e) left
unfolding entry_of_format entry_text
usual_entry v bytes l1 l2 l3 l4 l5 left who n c r two w s few k equals answer ended kind =
    let e : Entry = record { who = who; serial = n; call = c; reply = r } in
    let inside : IsEntry greatest_number e =
    record { who = w.inside; serial = omega arith; call = k.inside; reply = answer.inside } in
    let may : may_say who c ≡ true = and_from (is_of_kind who c) (sets_some c) kind k.some in
    let line : List ℕ = join_words (entry_words e) in
    let whole : IsWholeLine (entry_text e) line = whole_entry e inside in
    let joined : bytes ≡ (((((who_text who ++ 32 ∷ decimal n) ++ space_words (call_words c)) ++ 32 ∷ 61 ∷ [])
    ++ space_words (reply_words r)) ++ 10 ∷ []) ++ left =
    entry_joined bytes l1 l2 l3 l4 l5 left (who_text who) (decimal n) (space_words (call_words c))
    (space_words (reply_words r)) w.text s k.text equals answer.text ended in
    let is = ap (λ (t : List ℕ). ((((who_text who ++ t) ++ space_words (call_words c)) ++ 32 ∷ 61 ∷ [])
    ++ space_words (reply_words r)) ++ 10 ∷ []) (sym (spaced_one (decimal n)))
    ∙ entry_is (who_text who) (decimal n) (call_words c) (reply_words r) in
    let text : bytes ≡ entry_text e ++ left = joined ∙ ap (λ (t : List ℕ). t ++ left) is in
    let read : entry_of line ≡ Some e = entries_read_again e line inside may whole.is in
    record {
      line = line;
      whole = begins (entry_text e) line bytes left whole text;
      read = rw (read, allowed v e two few k.short answer.short answer.timely) refl;
      no_end = ends_none v line (entry_ends_none e inside);
    }
