-- One more line is written behind those that are.
use Rattle.std.proofs.Common.{arith, sym, ap, ap₂, subst, subst₂, ◌∙◌, ◌++◌, append-nil, length-append, drop-drop}
use Rattle.std.proofs.Common.{drop_of_length-le, le-ltb, length-drop, length-take, refl, take_all, zero, suc}
use Rattle.std.specs.Prelude.{if◌then◌else◌}
use Rattle.std.specs.Prelude.{◌≡◌, ◌≤◌, ◌<◌, ◌+◌, ◌-◌, ℕ, List, [], ◌∷◌, length, take, drop, get_or}
use Rattle.std.proofs.Math.Seq.{drop-append-add, take-append-add}
use Rattle.std.proofs.lemmas.List.{take_more}
use Rattle.std.proofs.lemmas.Grind.{flat_map-append}
use borrow.Rule.Slice.PartMut.{put_mid}
use Rattle.cmwq_text.specs.EntryText.{entry_text}
use Rattle.cmwq_text.specs.HistoryText.{entries_text}
use Rattle.cmwq_c.specs.Common.{Entry}
use Rattle.cmwq_c.specs.BoardStatuses.{write_status}
use Rattle.cmwq_c.specs.Statuses.{IsTextWritten, space_status}

-- the front stays, and behind it another text is written
written_more : (text more : List ℕ) (written n : ℕ) (old mid new : List ℕ) → IsTextWritten text written old mid
    → IsTextWritten more n (drop written mid) new
    → IsTextWritten (text ++ more) (written + n) old (take written mid ++ new)
written_more text more written n old mid new first next =
    let front : take written mid ≡ text = first.front in
    let counted : written ≡ length text = first.count in
    record {
      count = ap₂ (λ a b. a + b) first.count next.count ∙ sym (length-append text more);
      front =
          ap₂ (λ k xs. take (k + n) (xs ++ new)) counted front
          ∙ take-append-add text new n ∙ ap (λ xs. text ++ xs) next.front;
      rest =
          ap₂ (λ k xs. drop (k + n) (xs ++ new)) counted front
          ∙ drop-append-add text new n ∙ next.rest ∙ ap (drop n) first.rest ∙ drop-drop n written old;
    }

-- a text that is put at the end of the front of a buffer
rest_of : (k : ℕ) (xs : List ℕ) → k ≤ length xs → drop (length xs - k) (drop k xs) ≡ []
rest_of k xs within =
    let all : length xs ≤ k + (length xs - k) = omega (arith, within) in
    drop-drop (length xs - k) k xs ∙ drop_of_length-le xs all

pub all_of : {X : Type 0} (k : ℕ) (xs : List X) → k ≤ length xs → take (length xs - k) (drop k xs) ≡ drop k xs
all_of k xs within =
    let e = length-drop k xs in
    take_all (length xs - k) (drop k xs) (omega (arith, e))

put_at_end : (k : ℕ) (xs ys : List ℕ) → k ≤ length xs → put_mid k (length xs - k) xs ys ≡ take k xs ++ ys
put_at_end k xs ys within =
    ap (λ zs. take k xs ++ (ys ++ zs)) (rest_of k xs within) ∙ ap (λ zs. take k xs ++ zs) (append-nil ys)

-- the line of one more entry is written
pub line_more : (entries : List Entry) (d : Entry) (i written n : ℕ) (line old mid new : List ℕ)
    → IsTextWritten (entries_text (take i entries)) written old mid → written ≤ length mid → i < length entries
    → line ≡ entry_text (get_or entries i d)
    → IsTextWritten line n (take (length mid - written) (drop written mid)) new
    → IsTextWritten (entries_text (take (i + 1) entries)) (written + n) old
    (put_mid written (length mid - written) mid new)
line_more entries d i written n line old mid new before within there is one =
    let text = entries_text (take i entries) in
    let more : entries_text (take (i + 1) entries) ≡ text ++ line =
    ap entries_text (take_more entries i d there)
    ∙ flat_map-append entry_text (take i entries) (get_or entries i d ∷ [])
    ∙ ap (λ zs. text ++ zs) (append-nil (entry_text (get_or entries i d)))
    ∙ ap (λ zs. text ++ zs) (sym is) in
    subst₂ (λ all out. IsTextWritten all (written + n) old out) (sym more) (sym (put_at_end written mid new within))
    (written_more text line written n old mid new before
    (subst (λ zs. IsTextWritten line n zs new) (all_of written mid within) one))

-- a line that is written was held
held_line : (room : ℕ) (line : List ℕ) → length line ≤ room → 0 ≡ space_status room line
held_line room line held =
    sym (ap (λ b. if b then 5 else 0) (le-ltb room (length line) held))

pub write_ok : (left : List Entry) (count written : ℕ) (old new : List ℕ)
    → IsTextWritten (entries_text (take count left)) written old new → length new ≡ length old
    → (count ≡ 0 → length left ≡ 0) → 0 ≡ write_status left (length old)
write_ok [] count written old new are same some = refl
write_ok (e ∷ es) zero written old new are same some = absurd (let none = some refl in omega (arith, none))
write_ok (e ∷ es) (suc k) written old new are same some =
    let more = length-append (entry_text e) (entries_text (take k es)) in
    let front = ap length are.front in
    let taken = length-take written new in
    held_line (length old) (entry_text e) (omega (arith, more, front, taken, same))
