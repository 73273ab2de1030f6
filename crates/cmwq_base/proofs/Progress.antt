-- How a reader's progress goes on from line to line.
use Rattle.cmwq_base.specs.Common.{◌≡◌, inl, inr, ◌+◌, ◌<◌, ◌≤◌, ℕ, ◌==◌, Bool, true, false, ◌&&◌, not, List, [], ◌∷◌}
use Rattle.cmwq_base.specs.Common.{◌++◌, length, Result, Ok, Err, nat_le, Option, Some, None, refl, sym, ap, ◌∙◌, arith}
use Rattle.cmwq_base.specs.Common.{subst, length-append, if◌then◌else◌, IfSome, IfOk, IsTrue, All-nil, All-push}
use Rattle.cmwq_base.specs.Common.{nat_tests, leb-true, prepend_known, Whole, Cut, Long, End, TakesKnownLine, Counts}
use Rattle.cmwq_base.specs.Common.{QueueShape, Layout, layout_of, is_layout, counts_read, begins_queue, end_of}
use Rattle.cmwq_base.specs.Common.{line_limit, room_limit, queue_limit, allows_counts, allows_numbers, and_parts}
use Rattle.cmwq_base.specs.Common.{counts_of_format, chosen, TakesLine, ◌⊎◌, lt-leb}
use Rattle.cmwq_io.specs.declared.lines.Found.{Found}
use Rattle.cmwq_base.specs.declared.refusal.Refusal.{Refusal}
use Rattle.cmwq_base.specs.declared.refusal.Refusal.TheVariants as refusal
use Rattle.cmwq_base.specs.Files.{File, IsVersionOf, IsSound, Stage, begin, opened, head, body, ended, Kind, as_front}
use Rattle.cmwq_base.specs.Files.{shape_made, and_then, after_shape_line, with_queue, queue_line, with_body_item}
use Rattle.cmwq_base.specs.Files.{item_line, end_of_format, or_ended, body_line, first_body_line, after_head}
use Rattle.cmwq_base.specs.Files.{after_whole_line, after_cut, is_file_ended, at_end, at_cut, without_end}
use Rattle.cmwq_base.specs.Files.{without_items, after_text, file_of}
use Rattle.cmwq_base.specs.Gives.{Refuses, GivesAs, Fails, Gives}
use Rattle.cmwq_base.specs.Stages.{lines_taken, IsSaid, IsStageWithin}
use Rattle.cmwq_base.proofs.Limits.{none_passes}
use Rattle.cmwq_base.specs.Pieces.{cut_line}
use Rattle.cmwq_base.proofs.Texts.{text_whole, text_long, text_cut, text_end, cut_stays, cut_is, cut_none}

-- what is left of a known text gives from here on what the text gives
abbrev pub SameRead : {X : Type 0} → Kind X → Option (List ℕ) → Option (List ℕ) → ℕ → Stage X → Type 0
SameRead k None now n stage = Unit {0}
SameRead k (Some text) None n stage = ⊥
SameRead k (Some text) (Some rest) n stage = file_of k text ≡ after_text k n stage rest

-- what stands after the last line feed of it is that of the text
abbrev pub SameCut : Option (List ℕ) → Option (List ℕ) → Type 0
SameCut None now = Unit {0}
SameCut (Some text) None = ⊥
SameCut (Some text) (Some rest) = cut_line text ≡ cut_line rest

pub record Progress {X : Type 0} (k : Kind X) (old now : Option (List ℕ)) (n : ℕ) (stage : Stage X) : Type 0 where
  pub same : SameRead k old now n stage
  pub cut : SameCut old now
  pub count : n ≤ lines_taken stage + 1
  pub within : IsStageWithin k stage

pub cut_goes : (old before after : Option (List ℕ)) (line : List ℕ) → SameCut old before
    → TakesKnownLine before after Whole line → SameCut old after
cut_goes None before after line h t = tt
cut_goes (Some text) None after line h t = absurd h
cut_goes (Some text) (Some b) None line h t = absurd t
cut_goes (Some text) (Some b) (Some a) line h t = h ∙ cut_stays b a line t

-- so many bytes were left out
pub cut_len : (old before after : Option (List ℕ)) (line : List ℕ) (how : Found) (n : ℕ) → SameCut old before
    → TakesKnownLine before after how line → (how ≡ Cut) × (n ≡ length line) ⊎ (how ≡ End) × (n ≡ 0)
    → IfSome old (λ text. n ≡ length (cut_line text))
cut_len None before after line how n h t is = tt
cut_len (Some text) None after line how n h t is = absurd h
cut_len (Some text) (Some b) None line how n h t is = absurd t
cut_len (Some text) (Some b) (Some a) line how n h t (inl is) =
    is.1 ∙ (ap length (sym (cut_is b a line (subst (λ x. TakesLine b a x line) is.0 t))) ∙ ap length (sym h))
cut_len (Some text) (Some b) (Some a) line how n h t (inr is) =
    is.1 ∙ (sym (cut_none b a line (subst (λ x. TakesLine b a x line) is.0 t)) ∙ ap length (sym h))

pub if_left_out : {Y : Type 0} (r : Result Y Refusal) (left_out : Y → ℕ) (n : ℕ) (old : Option (List ℕ))
    → IfOk r (λ y. left_out y ≡ n) → IfSome old (λ text. n ≡ length (cut_line text))
    → IfSome old (λ text. IfOk r (λ y. left_out y ≡ length (cut_line text)))
if_left_out r left_out n None h is = tt
if_left_out (Ok y) left_out n (Some text) h is = h ∙ is
if_left_out (Err e) left_out n (Some text) h is = tt

pub found_so : (before after : Option (List ℕ)) (line : List ℕ) (how so : Found) → how ≡ so
    → TakesKnownLine before after how line → TakesKnownLine before after so line
found_so before after line how so is t = subst (λ h. TakesKnownLine before after h line) is t

-- the counts that a format allows are read as those of a shape line
pub counts_are_read : (v : ℕ) (line : List ℕ) (c : Counts) → counts_of_format v line ≡ Some c
    → (counts_read line ≡ Some c) × IsTrue (allows_counts v c)
unfolding counts_of_format
counts_are_read v line c h = grind arith

-- ---- one line more

pub record Grows {X : Type 0} (k : Kind X) (old new : Stage X) : Type 0 where
  pub count : lines_taken old + 1 ≤ lines_taken new
  pub within : IsStageWithin k old → IsStageWithin k new

module _ {X : Type 0} (k : Kind X) (n : ℕ) where
  begun_grows : (v : ℕ) (stage : Stage X) (line : List ℕ) (o : Option Counts) (next : Stage X)
      → counts_of_format v line ≡ o → lines_taken stage + 1 ≤ 2 → (IsStageWithin k stage → IsVersionOf k v)
      → after_shape_line n v o ≡ Ok next → Grows k stage next
  begun_grows v stage line None next read lines is_version h = cc
  begun_grows v stage line (Some c) next read lines is_version h =
      let is : head v c [] ≡ next = cc in
      let allowed = and_parts (nat_le c.room (room_limit v)) (allows_numbers v c) (counts_are_read v line c read).1 in
      let room : c.room ≤ room_limit v = leb-true c.room (room_limit v) allowed.0 in
      subst (Grows k stage) is
      (record { count = omega (arith, lines); within = λ w. (is_version w, omega arith, room, allowed.1) })

  opened_grows : (v : ℕ) (line : List ℕ) (next : Stage X) → 2 ≤ v → v ≤ 3 → k.says_format v line ≡ true
      → opened v ≡ next → Grows k begin next
  opened_grows v line next low high says is = grind arith

  third_grows : (line : List ℕ) (next : Stage X) (b : Bool) → k.says_format 3 line ≡ b
      → (if b then Ok (opened 3) else after_shape_line n 1 (counts_of_format 1 line)) ≡ Ok next → Grows k begin next
  third_grows line next true says h = let is : opened 3 ≡ next = cc in
      opened_grows 3 line next (omega arith) (omega arith) says is
  third_grows line next false says h =
      begun_grows 1 begin line (counts_of_format 1 line) next refl (omega arith)
      (λ _. (omega arith, omega arith, inl refl)) h

  first_grows : (line : List ℕ) (next : Stage X) (b : Bool) → k.says_format 2 line ≡ b
      → (if b then Ok (opened 2) else if k.says_format 3 line then Ok (opened 3)
      else after_shape_line n 1 (counts_of_format 1 line)) ≡ Ok next → Grows k begin next
  first_grows line next true says h = let is : opened 2 ≡ next = cc in
      opened_grows 2 line next (omega arith) (omega arith) says is
  first_grows line next false says h = third_grows line next (k.says_format 3 line) refl h

  queue_grows : (v : ℕ) (c : Counts) (qs : List QueueShape) (o : Option QueueShape) (next : Stage X)
      → length qs < queue_limit v → with_queue n v c qs o ≡ Ok next → Grows k (head v c qs) next
  queue_grows v c qs None next room h = cc
  queue_grows v c qs (Some q) next room h =
      let is : head v c (qs ++ q ∷ []) ≡ next = cc in
      let more = length-append qs (q ∷ []) in
      subst (Grows k (head v c qs)) is (record { count = omega arith; within = λ w. (w.0, omega arith, w.2, w.3) })

  queue_line_grows : (v : ℕ) (c : Counts) (qs : List QueueShape) (line : List ℕ) (next : Stage X) (b : Bool)
      → nat_le (queue_limit v) (length qs) ≡ b
      → (if b then Err (refusal.BadShape n) else with_queue n v c qs (k.queue_of v line)) ≡ Ok next
      → Grows k (head v c qs) next
  queue_line_grows v c qs line next true full h = cc
  queue_line_grows v c qs line next false full h =
      queue_grows v c qs (k.queue_of v line) next (grind (arith, nat_tests)) h

  item_grows : (v : ℕ) (s : Layout) (xs : List X) (x : X) (next : Stage X) (b : Bool) → k.fits_in s x ≡ b
      → length xs < line_limit v → (if b then Ok (body v s (xs ++ x ∷ [])) else Err (refusal.NoSuchId n)) ≡ Ok next
      → Grows k (body v s xs) next
  item_grows v s xs x next true fitting room h =
      let is : body v s (xs ++ x ∷ []) ≡ next = cc in
      let more = length-append xs (x ∷ []) in
      subst (Grows k (body v s xs)) is
      (record {
        count = omega arith;
        within =
            λ w. (w.0, w.1, w.2, w.3, omega arith, All-push (λ y. IsTrue (k.fits_in s y)) xs x w.5 fitting);
      })
  item_grows v s xs x next false fitting room h = cc

  with_item_grows : (v : ℕ) (s : Layout) (xs : List X) (o : Option X) (next : Stage X) → length xs < line_limit v
      → with_body_item k n v s xs o ≡ Ok next → Grows k (body v s xs) next
  with_item_grows v s xs None next room h = cc
  with_item_grows v s xs (Some x) next room h = item_grows v s xs x next (k.fits_in s x) refl room h

  item_line_if : (v : ℕ) (s : Layout) (xs : List X) (line : List ℕ) (next : Stage X) (b : Bool)
      → nat_le (line_limit v) (length xs) ≡ b
      → (if b then Err refusal.TooLong else with_body_item k n v s xs (k.item_of v line)) ≡ Ok next
      → Grows k (body v s xs) next
  item_line_if v s xs line next true full h = cc
  item_line_if v s xs line next false full h =
      with_item_grows v s xs (k.item_of v line) next (grind (arith, nat_tests)) h

  item_line_grows : (v : ℕ) (s : Layout) (xs : List X) (line : List ℕ) (next : Stage X)
      → item_line k n v s xs line ≡ Ok next → Grows k (body v s xs) next
  unfolding item_line
  item_line_grows v s xs line next h = item_line_if v s xs line next (nat_le (line_limit v) (length xs)) refl h

  ended_grows : (v : ℕ) (s : Layout) (xs : List X) (next : Stage X) (b : Bool) → k.needs_end v ≡ true
      → (if b then Ok (ended v s xs) else Err (refusal.BadLine n)) ≡ Ok next → Grows k (body v s xs) next
  ended_grows v s xs next b needed h = grind arith

  or_ended_grows : (v : ℕ) (s : Layout) (xs : List X) (line : List ℕ) (o : Option ℕ) (next : Stage X)
      → end_of_format k v line ≡ o → or_ended k n v s xs line o ≡ Ok next → Grows k (body v s xs) next
  or_ended_grows v s xs line None next is h = item_line_grows v s xs line next h
  or_ended_grows v s xs line (Some m) next is h =
      ended_grows v s xs next (m == length xs) (chosen (k.needs_end v) (end_of line) m is).0 h

  body_line_grows : (v : ℕ) (s : Layout) (xs : List X) (line : List ℕ) (next : Stage X)
      → body_line k n v s xs line ≡ Ok next → Grows k (body v s xs) next
  unfolding body_line
  body_line_grows v s xs line next h = or_ended_grows v s xs line (end_of_format k v line) next refl h

  first_item_grows : (v : ℕ) (c : Counts) (qs : List QueueShape) (line : List ℕ) (next : Stage X) (b : Bool)
      → first_body_line k n v (if b then Some (layout_of c qs) else None) line ≡ Ok next → Grows k (head v c qs) next
  first_item_grows v c qs line next true h =
      let g = body_line_grows v (layout_of c qs) [] line next h in
      record {
        count = let more = g.count in omega arith;
        within =
            λ w. g.within (w.0, w.1, w.2, w.3, omega arith, All-nil (λ x. IsTrue (k.fits_in (layout_of c qs) x)));
      }
  first_item_grows v c qs line next false h = cc

  head_grows : (v : ℕ) (c : Counts) (qs : List QueueShape) (line : List ℕ) (next : Stage X) (b : Bool)
      → (if b then queue_line k n v c qs line else first_body_line k n v (shape_made c qs) line) ≡ Ok next
      → Grows k (head v c qs) next
  head_grows v c qs line next true h = queue_line_grows v c qs line next (nat_le (queue_limit v) (length qs)) refl h
  head_grows v c qs line next false h = first_item_grows v c qs line next (is_layout (layout_of c qs)) h

  pub line_grows : (stage next : Stage X) (line : List ℕ) → after_whole_line k n stage line ≡ Ok next
      → Grows k stage next
  unfolding after_whole_line after_head
  line_grows begin next line h = first_grows line next (k.says_format 2 line) refl h
  line_grows (opened v) next line h =
      begun_grows v (opened v) line (counts_of_format v line) next refl (omega arith)
      (λ (w : IsSaid k v). (omega (arith, w.low), w.high, inr (w.line, w.says))) h
  line_grows (head v c qs) next line h = head_grows v c qs line next (begins_queue line) h
  line_grows (body v s xs) next line h = body_line_grows v s xs line next h
  line_grows (ended v s xs) next line h = cc

-- ---- one line of the kind more

module _ {X : Type 0} (k : Kind X) (n v : ℕ) (s : Layout) (xs : List X) (x : X) (line : List ℕ) where
  item_goes : k.item_of v line ≡ Some x → k.fits_in s x ≡ true → length xs + 1 ≤ line_limit v
      → item_line k n v s xs line ≡ Ok (body v s (xs ++ x ∷ []))
  unfolding item_line
  item_goes read inside room = rw (lt-leb (line_limit v) (length xs) (omega arith), read, inside) refl

  pub line_body : k.item_of v line ≡ Some x → end_of_format k v line ≡ None → k.fits_in s x ≡ true
      → length xs + 1 ≤ line_limit v → body_line k n v s xs line ≡ Ok (body v s (xs ++ x ∷ []))
  unfolding body_line
  line_body read no_end inside room = ap (or_ended k n v s xs line) no_end ∙ item_goes read inside room

  pub body_goes : k.item_of v line ≡ Some x → end_of_format k v line ≡ None → k.fits_in s x ≡ true
      → length xs + 1 ≤ line_limit v → after_whole_line k n (body v s xs) line ≡ Ok (body v s (xs ++ x ∷ []))
  unfolding after_whole_line
  body_goes read no_end inside room = line_body read no_end inside room

-- no stage has so many lines
pub too_many : {X : Type 0} (k : Kind X) (n : ℕ) (stage : Stage X) → 4611686018426388164 ≤ n → n ≤ lines_taken stage + 1
    → IsStageWithin k stage → ⊥
too_many k n stage many count w = grind (arith, none_passes)

-- ---- the answers of the reader

module _ {X : Type 0} (k : Kind X) (n : ℕ) (stage : Stage X) where
  fails_on : (e : Refusal) (r : Result (Stage X) Refusal) (f : Stage X → Result (File X) Refusal) → Refuses e r
      → Fails e (and_then f r)
  fails_on e r f h = grind arith

  pub whole_goes : (old before after : Option (List ℕ)) (line : List ℕ) (next : Stage X) → SameRead k old before n stage
      → TakesKnownLine before after Whole line → after_whole_line k n stage line ≡ Ok next
      → SameRead k old after (n + 1) next
  whole_goes None before after line next h t e = tt
  whole_goes (Some text) None after line next h t e = absurd h
  whole_goes (Some text) (Some b) None line next h t e = absurd t
  whole_goes (Some text) (Some b) (Some a) line next h t e =
      h ∙ text_whole k n stage b a line t ∙ ap (and_then (λ st. after_text k (n + 1) st a)) e

  pub whole_fails : (old before after : Option (List ℕ)) (line : List ℕ) (e : Refusal) → SameRead k old before n stage
      → TakesKnownLine before after Whole line → Refuses e (after_whole_line k n stage line)
      → IfSome old (λ text. Fails e (file_of k text))
  whole_fails None before after line e h t f = tt
  whole_fails (Some text) None after line e h t f = absurd h
  whole_fails (Some text) (Some b) None line e h t f = absurd t
  whole_fails (Some text) (Some b) (Some a) line e h t f =
      subst (Fails e) (sym (h ∙ text_whole k n stage b a line t))
      (fails_on e (after_whole_line k n stage line) (λ st. after_text k (n + 1) st a) f)

  pub long_fails : (old before after : Option (List ℕ)) (line : List ℕ) → SameRead k old before n stage
      → TakesKnownLine before after Long line → IfSome old (λ text. file_of k text ≡ Err refusal.TooLong)
  long_fails None before after line h t = tt
  long_fails (Some text) None after line h t = absurd h
  long_fails (Some text) (Some b) None line h t = absurd t
  long_fails (Some text) (Some b) (Some a) line h t = h ∙ text_long k n stage b a line t

  is_cut : (stage : Stage X) (r : Result (File X) Refusal) → r ≡ Err (after_cut n stage) → Fails (after_cut n stage) r
  unfolding after_cut
  is_cut stage r h = grind arith

  pub cut_fails : (old before after : Option (List ℕ)) (line : List ℕ) (e : Refusal)
      → (k.is_front && not (is_file_ended stage)) ≡ false → SameRead k old before n stage
      → TakesKnownLine before after Cut line → e ≡ after_cut n stage → IfSome old (λ text. Fails e (file_of k text))
  cut_fails None before after line e kept h t is = tt
  cut_fails (Some text) None after line e kept h t is = absurd h
  cut_fails (Some text) (Some b) None line e kept h t is = absurd t
  cut_fails (Some text) (Some b) (Some a) line e kept h t is =
      let refused : at_cut k n stage ≡ Err (after_cut n stage) =
      ap (λ leaves. if leaves then at_end k n stage else Err (after_cut n stage)) kept in
      subst (λ r. Fails r (file_of k text)) (sym is)
      (is_cut stage (file_of k text) (h ∙ text_cut k n stage b a line t ∙ refused))

  makes_gives : {Y Z : Type 0} (view : Y → Z) (r : Result Y Refusal) (read : Result Z Refusal) → GivesAs view r read
      → Gives view r read
  makes_gives view r read h = grind arith

  pub end_gives : {Y : Type 0} (view : Y → File X) (r : Result Y Refusal) (old before after : Option (List ℕ))
      (line : List ℕ) → SameRead k old before n stage → TakesKnownLine before after End line
      → GivesAs view r (at_end k n stage)
      → IfSome old (λ text. Gives view r (file_of k text))
  end_gives view r old before after line h t g = grind (arith, text_end)

module _ {X : Type 0} (k : Kind X) (n : ℕ) (stage : Stage X) where
  pub cut_gives : {Y : Type 0} (view : Y → File X) (r : Result Y Refusal) (old before after : Option (List ℕ))
      (line : List ℕ) → (k.is_front && not (is_file_ended stage)) ≡ true → SameRead k old before n stage
      → TakesKnownLine before after Cut line
      → GivesAs view r (at_end k n stage) → IfSome old (λ text. Gives view r (file_of k text))
  cut_gives view r None before after line left h t g = tt
  cut_gives view r (Some text) None after line left h t g = absurd h
  cut_gives view r (Some text) (Some b) None line left h t g = absurd t
  cut_gives view r (Some text) (Some b) (Some a) line left h t g =
      let over : at_cut k n stage ≡ at_end k n stage =
      ap (λ leaves. if leaves then at_end k n stage else Err (after_cut n stage)) left in
      makes_gives k n stage view r (file_of k text)
      (subst (GivesAs view r) (sym (h ∙ text_cut k n stage b a line t ∙ over)) g)

-- whole lines are read alike
pub line_alike : {X : Type 0} (front : Bool) (k : Kind X) (n : ℕ) (stage : Stage X) (line : List ℕ)
    → after_whole_line (as_front front k) n stage line ≡ after_whole_line k n stage line
unfolding after_whole_line after_head body_line item_line
line_alike front k n stage line = grind arith

-- only the source's own failure is a read fault, and no reader gives a write fault
abbrev pub is_fault : Refusal → Bool
is_fault refusal.ReadFault = true
is_fault refusal.WriteFault = true
is_fault e = false

cut_is_no_fault : {X : Type 0} (n : ℕ) (stage : Stage X) → is_fault (after_cut n stage) ≡ false
unfolding after_cut
cut_is_no_fault n stage = grind arith

-- a result that is no fault isn't this one
pub no_fault : {Z : Type 0} (e f : Refusal) (r : Result Z Refusal) → is_fault e ≡ false → is_fault f ≡ true → r ≡ Err e
    → r ≡ Err f → ⊥
no_fault e f r none fault is other = grind arith

pub cut_no_fault : {X Z : Type 0} (n : ℕ) (stage : Stage X) (e f : Refusal) (r : Result Z Refusal)
    → e ≡ after_cut n stage → is_fault f ≡ true → r ≡ Err e → r ≡ Err f → ⊥
cut_no_fault n stage e f r is fault made other =
    no_fault e f r (ap is_fault is ∙ cut_is_no_fault n stage) fault made other

pub makes_no_fault : {Y Z : Type 0} (view : Y → Z) (r : Result Y Refusal) (read : Result Z Refusal) (f : Refusal)
    → GivesAs view r read → is_fault f ≡ true → r ≡ Err f → ⊥
makes_no_fault view r read f h fault is = grind arith

-- what a reader's stage gives is sound
pub ends_with : {X : Type 0} (k : Kind X) (n : ℕ) (f g : File X) → without_end k n f ≡ Ok g → f ≡ g
ends_with k n f g h = grind arith

sound_without : {X : Type 0} (k : Kind X) (n v : ℕ) (c : Counts) (qs : List QueueShape) (b : Bool) (f : File X)
    → IsVersionOf k v → (length qs ≤ queue_limit v) × (c.room ≤ room_limit v) × IsTrue (allows_numbers v c)
    → without_items k n v (if b then Some (layout_of c qs) else None) ≡ Ok f → IsVersionOf k f.version × IsSound k f
sound_without k n v c qs b f w shape h = grind arith

pub end_sound : {X : Type 0} (k : Kind X) (n : ℕ) (stage : Stage X) (f : File X) → IsStageWithin k stage
    → at_end k n stage ≡ Ok f → IsVersionOf k f.version × IsSound k f
unfolding at_end
end_sound k n begin f w h = cc
end_sound k n (opened v) f w h = cc
end_sound k n (head v c qs) f w h = sound_without k n v c qs (is_layout (layout_of c qs)) f w.0 (w.1, w.2, w.3) h
end_sound k n (body v s xs) f w h =
    let is : record { version = v; layout = s; items = xs } ≡ f =
    ends_with k n (record { version = v; layout = s; items = xs }) f h in
    subst (λ f. IsVersionOf k f.version × IsSound k f) is
    (w.0, record { room = w.2; numbers = w.3; queues = w.1; few = w.4; fitting = w.5 })
end_sound k n (ended v s xs) f w h =
    let is : record { version = v; layout = s; items = xs } ≡ f = cc in
    subst (λ f. IsVersionOf k f.version × IsSound k f) is
    (w.1.0, record { room = w.1.2; numbers = w.1.3; queues = w.1.1; few = w.1.4; fitting = w.1.5 })

-- at the beginning nothing has been read
pub cut_starts : (text : Option (List ℕ)) (ahead : List ℕ) → ahead ≡ [] → SameCut text (prepend_known ahead text)
cut_starts text ahead none = grind arith

pub starts : {X : Type 0} (k : Kind X) (text : Option (List ℕ)) (ahead : List ℕ) → ahead ≡ []
    → SameRead k text (prepend_known ahead text) 1 begin
unfolding file_of
starts k text ahead none = grind arith

pub makes_sound : {X Y : Type 0} (front : Bool) (k : Kind X) (view : Y → File X) (r : Result Y Refusal) (n : ℕ)
    (stage : Stage X) → IsStageWithin (as_front front k) stage → GivesAs view r (at_end (as_front front k) n stage)
    → IfOk r (λ y. IsSound k (view y))
makes_sound front k view r n stage w h = grind (arith, end_sound)

pub makes_version : {X Y : Type 0} (k : Kind X) (view : Y → File X) (r : Result Y Refusal) (n : ℕ) (stage : Stage X)
    → IsStageWithin k stage → GivesAs view r (at_end k n stage) → IfOk r (λ y. IsVersionOf k (view y).version)
makes_version k view (Ok y) n stage w h = (end_sound k n stage (view y) w h).0
makes_version k view (Err e) n stage w h = tt
