-- What is read of the file of a history is spelled so.
use Rattle.cmwq_base.specs.Common.{◌≡◌, ◌+◌, ◌==◌, ℕ, Bool, true, false, ◌&&◌, List, [], ◌∷◌, ◌++◌, length, Result, Ok}
use Rattle.cmwq_base.specs.Common.{Err, nat_le, Option, Some, None, refl, sym, ap, ◌∙◌, append_assoc, append-nil, subst}
use Rattle.cmwq_base.specs.Common.{if◌then◌else◌, IsTrue, flat_map, All, join_with_byte, eqb-true, flat_map_more}
use Rattle.cmwq_base.specs.Common.{All-nil, All-push, same_Some, bytes_eq-Decides, join_with_byte-slice_split, Entry}
use Rattle.cmwq_base.specs.Common.{Counts, QueueShape, Layout, layout_of, is_layout, entry_fits, entry_text, entry_of}
use Rattle.cmwq_base.specs.Common.{counts_text, queue_text, queue_of_history, begins_queue, end_text, end_of}
use Rattle.cmwq_base.specs.Common.{version_name, is_version_line, needs_end, line_limit, allows_queue, allows_entry}
use Rattle.cmwq_base.specs.Common.{counts_of_format, queue_of_format, entry_of_format, version_text, head_text}
use Rattle.cmwq_base.specs.Common.{body_text, last_text, text_of_format, bind_some, chosen, entries_spelled_so}
use Rattle.cmwq_base.specs.Common.{ends_spelled_so, counts_spelled_so, queues_spelled_so, queue_limit}
use Rattle.cmwq_base.specs.declared.refusal.Refusal.{Refusal}
use Rattle.cmwq_base.specs.declared.refusal.Refusal.TheVariants as refusal
use Rattle.cmwq_base.specs.Pieces.{pieces}
use Rattle.cmwq_base.specs.Files.{File, Stage, begin, opened, head, body, ended, is_long, shape_made, and_then}
use Rattle.cmwq_base.specs.Files.{after_shape_line, with_queue, queue_line, with_body_item, item_line, end_of_format}
use Rattle.cmwq_base.specs.Files.{or_ended, body_line, first_body_line, after_head, after_whole_line, at_end}
use Rattle.cmwq_base.specs.Files.{without_end, without_items, after_last, after_pieces, file_of}
use Rattle.cmwq_base.specs.Kinds.{history_kind, history_file_of}
use Rattle.cmwq_base.proofs.Progress.{counts_are_read}
use Rattle.cmwq_base.proofs.Sound.{no_cut, short_goes, next_goes}
use Rattle.cmwq_base.specs.FileLaws.{IsOfFormat, HistoriesHaveOneText, HistoriesAreOfTheirFormat}

-- the text of what has been read so far
abbrev written : Stage Entry → List ℕ
written begin = []
written (opened v) = version_text v
written (head v counts queues) = version_text v ++ (counts_text counts ++ flat_map queue_text queues)
written (body v s items) = body_text v s items
written (ended v s items) = text_of_format v s items

-- the shape that has been read is inside the limits, and all is of the format
abbrev AreQueuesOf : ℕ → List QueueShape → Type 0
AreQueuesOf v queues = All (λ q. IsTrue (allows_queue v q)) queues

abbrev AreEntriesOf : ℕ → List Entry → Type 0
AreEntriesOf v entries = All (λ e. IsTrue (allows_entry v e)) entries

abbrev IsInside : Stage Entry → Type 0
IsInside begin = Unit {0}
IsInside (opened v) = Unit {0}
IsInside (head v counts queues) = AreQueuesOf v queues
IsInside (body v s items) = IsTrue (is_layout s) × AreQueuesOf v s.queues × AreEntriesOf v items
IsInside (ended v s items) = IsTrue (is_layout s) × AreQueuesOf v s.queues × AreEntriesOf v items

-- a line with its line feed goes after what was written
record Spells (stage next : Stage Entry) (line : List ℕ) : Type 0 where
  text : written stage ++ (line ++ 10 ∷ []) ≡ written next
  inside : IsInside next

-- what a format has is read as the whole grammar reads it
queue_read : (v : ℕ) (line : List ℕ) (q : QueueShape) → queue_of_format v line ≡ Some q
    → (queue_of_history line ≡ Some q) × IsTrue (allows_queue v q)
unfolding queue_of_format
queue_read v line q h =
    let read = bind_some (queue_of_history line) (λ (q : QueueShape). if allows_queue v q then Some q else None) q h in
    let found = chosen (allows_queue v read.0) (Some read.0) q read.2 in
    (read.1 ∙ found.1, subst (λ x. IsTrue (allows_queue v x)) (same_Some read.0 q found.1) found.0)

entry_read : (v : ℕ) (line : List ℕ) (e : Entry) → entry_of_format v line ≡ Some e
    → (entry_of line ≡ Some e) × IsTrue (allows_entry v e)
unfolding entry_of_format
entry_read v line e h =
    let read = bind_some (entry_of line) (λ (e : Entry). if allows_entry v e then Some e else None) e h in
    let found = chosen (allows_entry v read.0) (Some read.0) e read.2 in
    (read.1 ∙ found.1, subst (λ x. IsTrue (allows_entry v x)) (same_Some read.0 e found.1) found.0)

-- ---- one line

module _ (n v : ℕ) where
  begun_spells : (stage : Stage Entry) (line : List ℕ) (o : Option Counts) (next : Stage Entry)
      → written stage ≡ version_text v → counts_of_format v line ≡ o → after_shape_line n v o ≡ Ok next
      → Spells stage next line
  begun_spells stage line None next before is h = cc
  begun_spells stage line (Some c) next before is h =
      let same : head v c [] ≡ next = cc in
      let text = ap (λ t. t ++ (line ++ 10 ∷ [])) before
      ∙ ap (λ t. version_text v ++ t) (sym (counts_spelled_so c line (counts_are_read v line c is).0)
      ∙ sym (append-nil (counts_text c))) in
      subst (λ st. Spells stage st line) same
      (record { text = text; inside = All-nil (λ q. IsTrue (allows_queue v q)) })

  queue_spells : (c : Counts) (qs : List QueueShape) (line : List ℕ) (o : Option QueueShape) (next : Stage Entry)
      → AreQueuesOf v qs → queue_of_format v line ≡ o → with_queue n v c qs o ≡ Ok next → Spells (head v c qs) next line
  queue_spells c qs line None next inside is h = cc
  queue_spells c qs line (Some q) next inside is h =
      let read = queue_read v line q is in
      let same : head v c (qs ++ q ∷ []) ≡ next = cc in
      let more = ap (λ t. (counts_text c ++ flat_map queue_text qs) ++ t) (sym (queues_spelled_so q line read.0))
      ∙ flat_map_more queue_text (counts_text c) qs q in
      let text = append_assoc (version_text v) (counts_text c ++ flat_map queue_text qs) (line ++ 10 ∷ [])
      ∙ ap (λ t. version_text v ++ t) more in
      subst (λ st. Spells (head v c qs) st line) same
      (record { text = text; inside = All-push (λ q. IsTrue (allows_queue v q)) qs q inside read.1 })

  queue_line_spells : (c : Counts) (qs : List QueueShape) (line : List ℕ) (next : Stage Entry) (b : Bool)
      → AreQueuesOf v qs → (if b then Err (refusal.BadShape n) else with_queue n v c qs (queue_of_format v line))
      ≡ Ok next → Spells (head v c qs) next line
  queue_line_spells c qs line next true inside h = cc
  queue_line_spells c qs line next false inside h = queue_spells c qs line (queue_of_format v line) next inside refl h

  item_spells : (s : Layout) (xs : List Entry) (line : List ℕ) (e : Entry) (next : Stage Entry) (b : Bool)
      → IsInside (body v s xs) → entry_of_format v line ≡ Some e → entry_fits s e ≡ b
      → (if b then Ok (body v s (xs ++ e ∷ [])) else Err (refusal.NoSuchId n)) ≡ Ok next
      → Spells (body v s xs) next line
  item_spells s xs line e next true inside is fitting h =
      let same : body v s (xs ++ e ∷ []) ≡ next = cc in
      let read = entry_read v line e is in
      let text = ap (λ t. body_text v s xs ++ t) (sym (entries_spelled_so s e line inside.0 fitting read.0))
      ∙ flat_map_more entry_text (head_text v s) xs e in
      subst (λ st. Spells (body v s xs) st line) same
      (record {
        text = text;
        inside =
            (inside.0, inside.1, All-push (λ e. IsTrue (allows_entry v e)) xs e inside.2 read.1);
      })
  item_spells s xs line e next false inside is fitting h = cc

  with_item_spells : (s : Layout) (xs : List Entry) (line : List ℕ) (o : Option Entry) (next : Stage Entry)
      → IsInside (body v s xs) → entry_of_format v line ≡ o → with_body_item history_kind n v s xs o ≡ Ok next
      → Spells (body v s xs) next line
  with_item_spells s xs line None next inside is h = cc
  with_item_spells s xs line (Some e) next inside is h = item_spells s xs line e next (entry_fits s e) inside is refl h

  item_line_if : (s : Layout) (xs : List Entry) (line : List ℕ) (next : Stage Entry) (b : Bool) → IsInside (body v s xs)
      → (if b then Err refusal.TooLong else with_body_item history_kind n v s xs (entry_of_format v line)) ≡ Ok next
      → Spells (body v s xs) next line
  item_line_if s xs line next true inside h = cc
  item_line_if s xs line next false inside h = with_item_spells s xs line (entry_of_format v line) next inside refl h

  item_line_spells : (s : Layout) (xs : List Entry) (line : List ℕ) (next : Stage Entry) → IsInside (body v s xs)
      → item_line history_kind n v s xs line ≡ Ok next → Spells (body v s xs) next line
  unfolding item_line
  item_line_spells s xs line next inside h = item_line_if s xs line next (nat_le (line_limit v) (length xs)) inside h

  -- the last line
  ended_spells : (s : Layout) (xs : List Entry) (line : List ℕ) (m : ℕ) (next : Stage Entry) (b : Bool)
      → IsInside (body v s xs) → end_of_format history_kind v line ≡ Some m → (m == length xs) ≡ b
      → (if b then Ok (ended v s xs) else Err (refusal.BadLine n)) ≡ Ok next → Spells (body v s xs) next line
  ended_spells s xs line m next true inside is many h =
      let same : ended v s xs ≡ next = cc in
      let found = chosen (needs_end v) (end_of line) m is in
      let last : last_text v (length xs) ≡ line ++ 10 ∷ [] =
      rw found.0 (ap end_text (sym (eqb-true m (length xs) many)) ∙ ends_spelled_so m line found.1) in
      subst (λ st. Spells (body v s xs) st line) same
      (record { text = ap (λ t. body_text v s xs ++ t) (sym last); inside = inside })
  ended_spells s xs line m next false inside is many h = cc

  or_ended_spells : (s : Layout) (xs : List Entry) (line : List ℕ) (o : Option ℕ) (next : Stage Entry)
      → IsInside (body v s xs) → end_of_format history_kind v line ≡ o → or_ended history_kind n v s xs line o ≡ Ok next
      → Spells (body v s xs) next line
  or_ended_spells s xs line None next inside is h = item_line_spells s xs line next inside h
  or_ended_spells s xs line (Some m) next inside is h = ended_spells s xs line m next (m == length xs) inside is refl h

  body_line_spells : (s : Layout) (xs : List Entry) (line : List ℕ) (next : Stage Entry) → IsInside (body v s xs)
      → body_line history_kind n v s xs line ≡ Ok next → Spells (body v s xs) next line
  unfolding body_line
  body_line_spells s xs line next inside h =
      or_ended_spells s xs line (end_of_format history_kind v line) next inside refl h

  first_item_spells : (c : Counts) (qs : List QueueShape) (line : List ℕ) (next : Stage Entry) (b : Bool)
      → AreQueuesOf v qs → is_layout (layout_of c qs) ≡ b
      → first_body_line history_kind n v (if b then Some (layout_of c qs) else None) line ≡ Ok next
      → Spells (head v c qs) next line
  first_item_spells c qs line next true of_format inside h =
      let more =
      body_line_spells (layout_of c qs) [] line next (inside, of_format, All-nil (λ e. IsTrue (allows_entry v e)))
      h in
      record {
        text = ap (λ t. t ++ (line ++ 10 ∷ [])) (sym (append-nil (head_text v (layout_of c qs)))) ∙ more.text;
        inside = more.inside;
      }
  first_item_spells c qs line next false of_format inside h = cc

  head_spells : (c : Counts) (qs : List QueueShape) (line : List ℕ) (next : Stage Entry) (b : Bool) → AreQueuesOf v qs
      → (if b then queue_line history_kind n v c qs line else first_body_line history_kind n v (shape_made c qs) line)
      ≡ Ok next → Spells (head v c qs) next line
  head_spells c qs line next true inside h =
      queue_line_spells c qs line next (nat_le (queue_limit v) (length qs)) inside h
  head_spells c qs line next false inside h =
      first_item_spells c qs line next (is_layout (layout_of c qs)) inside refl h

third_line_spells : (n : ℕ) (line : List ℕ) (next : Stage Entry) (b : Bool) → is_version_line 3 line ≡ b
    → (if b then Ok (opened 3) else after_shape_line n 1 (counts_of_format 1 line)) ≡ Ok next → Spells begin next line
third_line_spells n line next true is h =
    let same : opened 3 ≡ next = cc in
    let text = ap (λ t. t ++ 10 ∷ []) ((bytes_eq-Decides line (version_name 3)).0 is) in
    subst (λ st. Spells begin st line) same (record { text = text; inside = tt })
third_line_spells n line next false is h = begun_spells n 1 begin line (counts_of_format 1 line) next refl refl h

first_line_spells : (n : ℕ) (line : List ℕ) (next : Stage Entry) (b : Bool) → is_version_line 2 line ≡ b
    → (if b then Ok (opened 2) else if is_version_line 3 line then Ok (opened 3)
    else after_shape_line n 1 (counts_of_format 1 line)) ≡ Ok next → Spells begin next line
first_line_spells n line next true is h =
    let same : opened 2 ≡ next = cc in
    let text = ap (λ t. t ++ 10 ∷ []) ((bytes_eq-Decides line (version_name 2)).0 is) in
    subst (λ st. Spells begin st line) same (record { text = text; inside = tt })
first_line_spells n line next false is h = third_line_spells n line next (is_version_line 3 line) refl h

line_spells : (n : ℕ) (stage next : Stage Entry) (line : List ℕ) → IsInside stage
    → after_whole_line history_kind n stage line ≡ Ok next → Spells stage next line
unfolding after_whole_line after_head
line_spells n begin next line inside h = first_line_spells n line next (is_version_line 2 line) refl h
line_spells n (opened v) next line inside h =
    begun_spells n v (opened v) line (counts_of_format v line) next refl refl h
line_spells n (head v c qs) next line inside h = head_spells n v c qs line next (begins_queue line) inside h
line_spells n (body v s xs) next line inside h = body_line_spells n v s xs line next inside h
line_spells n (ended v s xs) next line inside h = cc

-- ---- the end

abbrev text_in : File Entry → List ℕ
text_in f = text_of_format f.version f.layout f.items

-- the text is that of what is read, and what is read is of its format
abbrev IsToldBy : List ℕ → File Entry → Type 0
IsToldBy text f = (text ≡ text_in f) × IsOfFormat f

told_after : (a b : List ℕ) (f : File Entry) → a ≡ b → IsToldBy b f → IsToldBy a f
told_after a b f same told = (same ∙ told.0, told.1)

-- a text may end without a last line only in a format that has none
record IsWithoutEnd (f g : File Entry) : Type 0 where
  same : f ≡ g
  last : last_text f.version (length f.items) ≡ []

ends_without : (n : ℕ) (f g : File Entry) → without_end history_kind n f ≡ Ok g → IsWithoutEnd f g
ends_without n f g h = by_need (needs_end f.version) refl h
  where
    by_need : (b : Bool) → needs_end f.version ≡ b → (if b && true then Err (refusal.BadLine n) else Ok f) ≡ Ok g
        → IsWithoutEnd f g
    by_need true is h = cc
    by_need false is h = record { same = cc; last = ap (λ b. if b then end_text (length f.items) else []) is }

shape_spells : (n v : ℕ) (c : Counts) (qs : List QueueShape) (b : Bool) (f : File Entry) → AreQueuesOf v qs
    → without_items history_kind n v (if b then Some (layout_of c qs) else None) ≡ Ok f
    → IsToldBy (written (head v c qs)) f
shape_spells n v c qs true f inside h =
    let over = ends_without n (record { version = v; layout = layout_of c qs; items = [] }) f h in
    let front : List ℕ = head_text v (layout_of c qs) in
    let text : front ≡ (front ++ []) ++ last_text v 0 = sym (append-nil front) ∙ sym (append-nil (front ++ []))
    ∙ ap (λ t. (front ++ []) ++ t) (sym over.last) in
    subst (IsToldBy (written (head v c qs))) over.same (text, (inside, All-nil (λ e. IsTrue (allows_entry v e))))
shape_spells n v c qs false f inside h = cc

end_spells : (n : ℕ) (stage : Stage Entry) (f : File Entry) → IsInside stage → at_end history_kind n stage ≡ Ok f
    → IsToldBy (written stage) f
unfolding at_end
end_spells n begin f inside h = cc
end_spells n (opened v) f inside h = cc
end_spells n (head v c qs) f inside h = shape_spells n v c qs (is_layout (layout_of c qs)) f inside h
end_spells n (body v s xs) f inside h =
    let over = ends_without n (record { version = v; layout = s; items = xs }) f h in
    let text : body_text v s xs ≡ text_of_format v s xs =
    sym (append-nil (body_text v s xs)) ∙ ap (λ t. body_text v s xs ++ t) (sym over.last) in
    subst (IsToldBy (body_text v s xs)) over.same (text, (inside.1, inside.2))
end_spells n (ended v s xs) f inside h =
    let same : record { version = v; layout = s; items = xs } ≡ f = cc in
    subst (IsToldBy (text_of_format v s xs)) same (refl, (inside.1, inside.2))

last_spells : (n : ℕ) (stage : Stage Entry) (last : List ℕ) (f : File Entry) → IsInside stage
    → after_last history_kind n stage last ≡ Ok f → IsToldBy (written stage ++ last) f
last_spells n stage [] f inside h =
    told_after (written stage ++ []) (written stage) f (append-nil (written stage)) (end_spells n stage f inside h)
last_spells n stage (b ∷ bs) f inside h = absurd (no_cut n stage f (is_long (b ∷ bs)) h)

-- ---- line after line

pieces_spell : (ps : List (List ℕ)) (n : ℕ) (stage : Stage Entry) (f : File Entry) → IsInside stage
    → after_pieces history_kind n stage ps ≡ Ok f → IsToldBy (written stage ++ join_with_byte 10 ps) f
unfolding after_pieces
pieces_spell [] n stage f inside h = last_spells n stage [] f inside h
pieces_spell (last ∷ []) n stage f inside h = last_spells n stage last f inside h
pieces_spell (line ∷ more ∷ rest) n stage f inside h =
    let goes : Stage Entry → Result (File Entry) Refusal =
    λ next. after_pieces history_kind (n + 1) next (more ∷ rest) in
    let step =
    next_goes goes (after_whole_line history_kind n stage line) f
    (short_goes (is_long line) (and_then goes (after_whole_line history_kind n stage line)) f h) in
    let spells = line_spells n stage step.0 line inside step.1 in
    let behind : List ℕ = join_with_byte 10 (more ∷ rest) in
    let front : written stage ++ (line ++ 10 ∷ behind) ≡ (written stage ++ (line ++ 10 ∷ [])) ++ behind =
    simp append_assoc in
    told_after (written stage ++ (line ++ 10 ∷ behind)) (written step.0 ++ behind) f
    (front ∙ ap (λ t. t ++ behind) spells.text) (pieces_spell (more ∷ rest) (n + 1) step.0 f spells.inside step.2)

history_told : (text : List ℕ) (f : File Entry) → history_file_of text ≡ Ok f → IsToldBy text f
unfolding file_of
history_told text f h =
    told_after text (join_with_byte 10 (pieces text)) f (sym (join_with_byte-slice_split 10 text))
    (pieces_spell (pieces text) 1 begin f tt h)

pub histories_have_one_text : HistoriesHaveOneText
histories_have_one_text text f h = (history_told text f h).0

pub histories_are_of_their_format : HistoriesAreOfTheirFormat
histories_are_of_their_format text f h = (history_told text f h).1
