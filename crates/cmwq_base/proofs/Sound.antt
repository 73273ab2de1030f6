-- What is read of a whole text is sound: its shape is inside the limits, it has no more lines than a file may have,
-- each of them fits the shape, and has what each line of its kind has.
use Rattle.cmwq_base.specs.Common.{◌≡◌, ◌⊎◌, inl, inr, ◌+◌, ℕ, ◌==◌, Bool, true, false, ◌&&◌, not, List, [], ◌∷◌, ◌++◌}
use Rattle.cmwq_base.specs.Common.{length, Result, Ok, Err, nat_le, Option, Some, None, refl, subst, if◌then◌else◌}
use Rattle.cmwq_base.specs.Common.{IsTrue, All, bytes_eq, eqb-true, All-nil, All-push, Who, Call, Entry, Counts}
use Rattle.cmwq_base.specs.Common.{QueueShape, Layout, layout_of, is_layout, IsWho, IsCall, IsEntry, greatest_number}
use Rattle.cmwq_base.specs.Common.{begins_queue, calls_name, is_calls_line, line_limit, number_limit, counts_of_format}
use Rattle.cmwq_base.specs.Common.{call_of_format_inside, entry_of_format_inside, and_parts, queue_limit}
use Rattle.cmwq_base.specs.declared.refusal.Refusal.{Refusal}
use Rattle.cmwq_base.specs.declared.refusal.Refusal.TheVariants as refusal
use Rattle.cmwq_base.specs.Pieces.{pieces}
use Rattle.cmwq_base.specs.Files.{File, IsVersionOf, IsSound, Kind, as_front, Stage, begin, opened, head, body, ended}
use Rattle.cmwq_base.specs.Files.{is_long, shape_made, and_then, after_shape_line, with_queue, queue_line}
use Rattle.cmwq_base.specs.Files.{with_body_item, item_line, end_of_format, or_ended, body_line, first_body_line}
use Rattle.cmwq_base.specs.Files.{after_head, after_whole_line, after_cut, is_file_ended, at_end, without_items}
use Rattle.cmwq_base.specs.Files.{after_last, after_pieces, file_of}
use Rattle.cmwq_base.specs.Kinds.{calls_kind, call_file_of, history_kind, history_file_of, front_file_of}
use Rattle.cmwq_base.specs.Stages.{IsStageWithin}
use Rattle.cmwq_base.proofs.Progress.{line_grows, ends_with, end_sound}

-- ---- what must have been where a file was read

module _ {X : Type 0} where
  pub no_cut : (n : ℕ) (stage : Stage X) (f : File X) (b : Bool)
      → (if b then Err refusal.TooLong else Err (after_cut n stage)) ≡ Ok f → ⊥
  no_cut n stage f true h = cc
  no_cut n stage f false h = cc

  pub short_goes : (b : Bool) (r : Result (File X) Refusal) (f : File X) → (if b then Err refusal.TooLong else r) ≡ Ok f
      → r ≡ Ok f
  short_goes true r f h = cc
  short_goes false r f h = h

  pub next_goes : (g : Stage X → Result (File X) Refusal) (r : Result (Stage X) Refusal) (f : File X)
      → and_then g r ≡ Ok f → (next : Stage X) × (r ≡ Ok next) × (g next ≡ Ok f)
  next_goes g (Ok next) f h = (next, refl, h)
  next_goes g (Err e) f h = cc

-- ---- a text that is read is read through stages, one for each line

module _ {X : Type 0} (k : Kind X) (Holds : Stage X → Type 0)
    (kept : (n : ℕ) (stage next : Stage X) (line : List ℕ) → Holds stage → after_whole_line k n stage line ≡ Ok next
    → Holds next) where
  -- the last stage, at whose end the file was
  record EndsAt (f : File X) : Type 0 where
    number : ℕ
    stage : Stage X
    holds : Holds stage
    is : at_end k number stage ≡ Ok f

  cut_ends : (n : ℕ) (stage : Stage X) (f : File X) (long leaves : Bool) → Holds stage
      → (if long then Err refusal.TooLong else if leaves then at_end k n stage else Err (after_cut n stage)) ≡ Ok f
      → EndsAt f
  cut_ends n stage f true leaves holds h = cc
  cut_ends n stage f false true holds h = record { number = n; stage = stage; holds = holds; is = h }
  cut_ends n stage f false false holds h = cc

  last_ends : (n : ℕ) (stage : Stage X) (last : List ℕ) (f : File X) → Holds stage → after_last k n stage last ≡ Ok f
      → EndsAt f
  last_ends n stage [] f holds h = record { number = n; stage = stage; holds = holds; is = h }
  last_ends n stage (b ∷ bs) f holds h =
      cut_ends n stage f (is_long (b ∷ bs)) (k.is_front && not (is_file_ended stage)) holds h

  pieces_end : (ps : List (List ℕ)) (n : ℕ) (stage : Stage X) (f : File X) → Holds stage
      → after_pieces k n stage ps ≡ Ok f → EndsAt f
  unfolding after_pieces
  pieces_end [] n stage f holds h = record { number = n; stage = stage; holds = holds; is = h }
  pieces_end (last ∷ []) n stage f holds h = last_ends n stage last f holds h
  pieces_end (line ∷ more ∷ rest) n stage f holds h =
      let goes : Stage X → Result (File X) Refusal = λ next. after_pieces k (n + 1) next (more ∷ rest) in
      let step =
      next_goes goes (after_whole_line k n stage line) f
      (short_goes (is_long line) (and_then goes (after_whole_line k n stage line)) f h) in
      pieces_end (more ∷ rest) (n + 1) step.0 f (kept n stage step.0 line holds step.1) step.2

  text_ends : (text : List ℕ) (f : File X) → Holds begin → file_of k text ≡ Ok f → EndsAt f
  unfolding file_of
  text_ends text f holds h = pieces_end (pieces text) 1 begin f holds h

-- ---- what each stage keeps

-- what is read of a text of the kind
pub record IsReadOf {X : Type 0} (k : Kind X) (P : ℕ → X → Type 0) (f : File X) : Type 0 where
  pub version : IsVersionOf k f.version
  pub shape : IsTrue (is_layout f.layout)
  pub sound : IsSound k f
  pub each : All (P f.version) f.items

module _ {X : Type 0} (k : Kind X) (P : ℕ → X → Type 0) (reads : (v : ℕ) (line : List ℕ) (x : X)
    → k.item_of v line ≡ Some x → P v x) where
  abbrev Has : Stage X → Type 0
  Has begin = Unit {0}
  Has (opened v) = Unit {0}
  Has (head v counts queues) = Unit {0}
  Has (body v s items) = IsTrue (is_layout s) × All (P v) items
  Has (ended v s items) = IsTrue (is_layout s) × All (P v) items

  begun_has : (n v : ℕ) (o : Option Counts) (next : Stage X) → after_shape_line n v o ≡ Ok next → Has next
  begun_has n v None next h = cc
  begun_has n v (Some c) next h = let is : head v c [] ≡ next = cc in subst Has is tt

  third_has : (n : ℕ) (line : List ℕ) (next : Stage X) (b : Bool)
      → (if b then Ok (opened 3) else after_shape_line n 1 (counts_of_format 1 line)) ≡ Ok next → Has next
  third_has n line next true h = let is : opened 3 ≡ next = cc in subst Has is tt
  third_has n line next false h = begun_has n 1 (counts_of_format 1 line) next h

  first_has : (n : ℕ) (line : List ℕ) (next : Stage X) (b : Bool)
      → (if b then Ok (opened 2) else if k.says_format 3 line then Ok (opened 3)
      else after_shape_line n 1 (counts_of_format 1 line)) ≡ Ok next → Has next
  first_has n line next true h = let is : opened 2 ≡ next = cc in subst Has is tt
  first_has n line next false h = third_has n line next (k.says_format 3 line) h

  queue_has : (n v : ℕ) (c : Counts) (qs : List QueueShape) (o : Option QueueShape) (next : Stage X)
      → with_queue n v c qs o ≡ Ok next → Has next
  queue_has n v c qs None next h = cc
  queue_has n v c qs (Some q) next h = let is : head v c (qs ++ q ∷ []) ≡ next = cc in subst Has is tt

  queue_line_has : (n v : ℕ) (c : Counts) (qs : List QueueShape) (line : List ℕ) (next : Stage X) (b : Bool)
      → (if b then Err (refusal.BadShape n) else with_queue n v c qs (k.queue_of v line)) ≡ Ok next → Has next
  queue_line_has n v c qs line next true h = cc
  queue_line_has n v c qs line next false h = queue_has n v c qs (k.queue_of v line) next h

  item_has : (n v : ℕ) (s : Layout) (xs : List X) (x : X) (next : Stage X) (b : Bool) → P v x → Has (body v s xs)
      → (if b then Ok (body v s (xs ++ x ∷ [])) else Err (refusal.NoSuchId n)) ≡ Ok next → Has next
  item_has n v s xs x next true own has h =
      let is : body v s (xs ++ x ∷ []) ≡ next = cc in
      subst Has is (has.0, All-push (P v) xs x has.1 own)
  item_has n v s xs x next false own has h = cc

  with_item_has : (n v : ℕ) (s : Layout) (xs : List X) (line : List ℕ) (o : Option X) (next : Stage X)
      → k.item_of v line ≡ o → Has (body v s xs)
      → with_body_item k n v s xs o ≡ Ok next → Has next
  with_item_has n v s xs line None next is has h = cc
  with_item_has n v s xs line (Some x) next is has h =
      item_has n v s xs x next (k.fits_in s x) (reads v line x is) has h

  item_line_if : (n v : ℕ) (s : Layout) (xs : List X) (line : List ℕ) (next : Stage X) (b : Bool) → Has (body v s xs)
      → (if b then Err refusal.TooLong else with_body_item k n v s xs (k.item_of v line)) ≡ Ok next → Has next
  item_line_if n v s xs line next true has h = cc
  item_line_if n v s xs line next false has h = with_item_has n v s xs line (k.item_of v line) next refl has h

  item_line_has : (n v : ℕ) (s : Layout) (xs : List X) (line : List ℕ) (next : Stage X) → Has (body v s xs)
      → item_line k n v s xs line ≡ Ok next → Has next
  unfolding item_line
  item_line_has n v s xs line next has h = item_line_if n v s xs line next (nat_le (line_limit v) (length xs)) has h

  ended_has : (n v : ℕ) (s : Layout) (xs : List X) (next : Stage X) (b : Bool) → Has (body v s xs)
      → (if b then Ok (ended v s xs) else Err (refusal.BadLine n)) ≡ Ok next → Has next
  ended_has n v s xs next true has h = let is : ended v s xs ≡ next = cc in subst Has is has
  ended_has n v s xs next false has h = cc

  or_ended_has : (n v : ℕ) (s : Layout) (xs : List X) (line : List ℕ) (o : Option ℕ) (next : Stage X)
      → Has (body v s xs) → or_ended k n v s xs line o ≡ Ok next → Has next
  or_ended_has n v s xs line None next has h = item_line_has n v s xs line next has h
  or_ended_has n v s xs line (Some m) next has h = ended_has n v s xs next (m == length xs) has h

  body_line_has : (n v : ℕ) (s : Layout) (xs : List X) (line : List ℕ) (next : Stage X) → Has (body v s xs)
      → body_line k n v s xs line ≡ Ok next → Has next
  unfolding body_line
  body_line_has n v s xs line next has h = or_ended_has n v s xs line (end_of_format k v line) next has h

  first_item_has : (n v : ℕ) (c : Counts) (qs : List QueueShape) (line : List ℕ) (next : Stage X) (b : Bool)
      → is_layout (layout_of c qs) ≡ b
      → first_body_line k n v (if b then Some (layout_of c qs) else None) line ≡ Ok next → Has next
  first_item_has n v c qs line next true inside h =
      body_line_has n v (layout_of c qs) [] line next (inside, All-nil (P v)) h
  first_item_has n v c qs line next false inside h = cc

  head_has : (n v : ℕ) (c : Counts) (qs : List QueueShape) (line : List ℕ) (next : Stage X) (b : Bool)
      → (if b then queue_line k n v c qs line else first_body_line k n v (shape_made c qs) line) ≡ Ok next → Has next
  head_has n v c qs line next true h = queue_line_has n v c qs line next (nat_le (queue_limit v) (length qs)) h
  head_has n v c qs line next false h = first_item_has n v c qs line next (is_layout (layout_of c qs)) refl h

  line_has : (n : ℕ) (stage next : Stage X) (line : List ℕ) → Has stage → after_whole_line k n stage line ≡ Ok next
      → Has next
  unfolding after_whole_line after_head
  line_has n begin next line has h = first_has n line next (k.says_format 2 line) h
  line_has n (opened v) next line has h = begun_has n v (counts_of_format v line) next h
  line_has n (head v c qs) next line has h = head_has n v c qs line next (begins_queue line) h
  line_has n (body v s xs) next line has h = body_line_has n v s xs line next has h
  line_has n (ended v s xs) next line has h = cc

  -- ---- the end

  abbrev HasEach : File X → Type 0
  HasEach f = IsTrue (is_layout f.layout) × All (P f.version) f.items

  shape_has : (n v : ℕ) (c : Counts) (qs : List QueueShape) (f : File X) (b : Bool) → is_layout (layout_of c qs) ≡ b
      → without_items k n v (if b then Some (layout_of c qs) else None) ≡ Ok f → HasEach f
  shape_has n v c qs f true inside h =
      let is : record { version = v; layout = layout_of c qs; items = [] } ≡ f =
      ends_with k n (record { version = v; layout = layout_of c qs; items = [] }) f h in
      subst HasEach is (inside, All-nil (P v))
  shape_has n v c qs f false inside h = cc

  end_has : (n : ℕ) (stage : Stage X) (f : File X) → Has stage → at_end k n stage ≡ Ok f → HasEach f
  unfolding at_end
  end_has n begin f has h = cc
  end_has n (opened v) f has h = cc
  end_has n (head v c qs) f has h = shape_has n v c qs f (is_layout (layout_of c qs)) refl h
  end_has n (body v s xs) f has h =
      let is : record { version = v; layout = s; items = xs } ≡ f =
      ends_with k n (record { version = v; layout = s; items = xs }) f h in
      subst HasEach is has
  end_has n (ended v s xs) f has h =
      let is : record { version = v; layout = s; items = xs } ≡ f = cc in
      subst HasEach is has

  abbrev Stands : Stage X → Type 0
  Stands stage = IsStageWithin k stage × Has stage

  line_stands : (n : ℕ) (stage next : Stage X) (line : List ℕ) → Stands stage
      → after_whole_line k n stage line ≡ Ok next → Stands next
  line_stands n stage next line stands h =
      ((line_grows k n stage next line h).within stands.0, line_has n stage next line stands.1 h)

  pub file_is_read : (text : List ℕ) (f : File X) → file_of k text ≡ Ok f → IsReadOf k P f
  file_is_read text f h =
      let end = text_ends k Stands line_stands text f (tt, tt) h in
      let has = end_has end.number end.stage f end.holds.1 end.is in
      let sound = end_sound k end.number end.stage f end.holds.0 end.is in
      record { shape = has.0; version = sound.0; sound = sound.1; each = has.1 }

-- ---- the two kinds

abbrev pub IsCallInside : ℕ → Who × Call → Type 0
IsCallInside v x = IsWho x.0 × (IsCall (number_limit v)) x.1

-- the first line of a file of calls says no other format than 3
pub one_or_three : (v : ℕ) → IsVersionOf calls_kind v → (v ≡ 1) ⊎ (v ≡ 3)
one_or_three v is = from is.2
  where
    from : (v ≡ 1) ⊎ ((line : List ℕ) × (is_calls_line v line ≡ true)) → (v ≡ 1) ⊎ (v ≡ 3)
    from (inl one) = inl one
    from (inr said) = inr (eqb-true v 3 (and_parts (v == 3) (bytes_eq said.0 calls_name) said.1).0)

pub calls_are_read : (text : List ℕ) (f : File (Who × Call)) → call_file_of text ≡ Ok f
    → IsReadOf calls_kind IsCallInside f
calls_are_read = file_is_read calls_kind IsCallInside call_of_format_inside

pub front_is_read : (text : List ℕ) (f : File Entry) → front_file_of true text ≡ Ok f
    → IsReadOf (as_front true history_kind) (λ v. IsEntry greatest_number) f
front_is_read = file_is_read (as_front true history_kind) (λ v. IsEntry greatest_number) entry_of_format_inside

pub history_is_read : (text : List ℕ) (f : File Entry) → history_file_of text ≡ Ok f
    → IsReadOf history_kind (λ v. IsEntry greatest_number) f
history_is_read = file_is_read history_kind (λ v. IsEntry greatest_number) entry_of_format_inside
