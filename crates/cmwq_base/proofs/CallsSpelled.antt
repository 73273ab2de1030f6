-- What is read of a file of calls is spelled so, but for max_active.
use Rattle.cmwq_base.specs.Common.{◌≡◌, ◌+◌, ℕ, Bool, true, false, List, [], ◌∷◌, ◌++◌, length, Result, Ok, Err, nat_le}
use Rattle.cmwq_base.specs.Common.{Option, Some, None, refl, sym, ap, ◌∙◌, append_assoc, append-nil, subst}
use Rattle.cmwq_base.specs.Common.{if◌then◌else◌, IsTrue, flat_map, map, join_with_byte, bytes_eq, flat_map_more}
use Rattle.cmwq_base.specs.Common.{map_push, bytes_eq-Decides, join_with_byte-slice_split, Who, Call, Counts}
use Rattle.cmwq_base.specs.Common.{QueueShape, Layout, layout_of, is_layout, fits, call_text, call_read, counts_text}
use Rattle.cmwq_base.specs.Common.{queue_text, queue_with, queue_of_calls, begins_queue, calls_name, line_limit}
use Rattle.cmwq_base.specs.Common.{counts_of_format, allows_call, call_of_format, counts_in, shape_text}
use Rattle.cmwq_base.specs.Common.{calls_version_text, calls_text, bind_some, chosen, calls_spelled_so}
use Rattle.cmwq_base.specs.Common.{counts_spelled_so, queues_of_calls_spelled_so, queue_limit}
use Rattle.cmwq_base.specs.declared.refusal.Refusal.{Refusal}
use Rattle.cmwq_base.specs.declared.refusal.Refusal.TheVariants as refusal
use Rattle.cmwq_base.specs.Pieces.{pieces}
use Rattle.cmwq_base.specs.Files.{File, Stage, begin, opened, head, body, ended, is_long, shape_made, and_then}
use Rattle.cmwq_base.specs.Files.{after_shape_line, with_queue, queue_line, with_body_item, item_line, body_line}
use Rattle.cmwq_base.specs.Files.{first_body_line, after_head, after_whole_line, at_end, without_items, after_last}
use Rattle.cmwq_base.specs.Files.{after_pieces, file_of}
use Rattle.cmwq_base.specs.Kinds.{calls_kind}
use Rattle.cmwq_base.specs.FileLaws.{queue_taken, IsTextOfCalls, CallFilesSpelledSo}
use Rattle.cmwq_base.proofs.Progress.{counts_are_read}
use Rattle.cmwq_base.proofs.Sound.{no_cut, short_goes, next_goes}

abbrev CallStage : Type 0
CallStage = Stage (Who × Call)

-- the text of what has been read so far, with the queues as they are written
abbrev written : List QueueShape → CallStage → List ℕ
written queues begin = []
written queues (opened v) = calls_version_text v
written queues (head v counts taken) = calls_version_text v ++ (counts_text counts ++ flat_map queue_text queues)
written queues (body v s items) = calls_text v (layout_of (counts_in s) queues) items
written queues (ended v s items) = calls_text v (layout_of (counts_in s) queues) items

-- the queues that have been read are those that are written as they are taken, and a whole shape is inside the limits
abbrev AreTaken : List QueueShape → CallStage → Type 0
AreTaken queues begin = Unit {0}
AreTaken queues (opened v) = Unit {0}
AreTaken queues (head v counts taken) = map queue_taken queues ≡ taken
AreTaken queues (body v s items) = IsTrue (is_layout s) × (map queue_taken queues ≡ s.queues)
AreTaken queues (ended v s items) = IsTrue (is_layout s) × (map queue_taken queues ≡ s.queues)

-- a front of a text is that of what has been read
record IsFront (stage : CallStage) (front : List ℕ) : Type 0 where
  queues : List QueueShape
  text : front ≡ written queues stage
  taken : AreTaken queues stage

-- a call of a format is read as any call is
call_is_read : (v : ℕ) (line : List ℕ) (x : Who × Call) → call_of_format v line ≡ Some x → call_read line ≡ Some x
unfolding call_of_format
call_is_read v line x h =
    let read = bind_some (call_read line) (λ (x : Who × Call). if allows_call v x.1 then Some x else None) x h in
    read.1 ∙ (chosen (allows_call v read.0.1) (Some read.0) x read.2).1

-- one text more after a front that has this before the rest of it
behind : (before rest more : List ℕ) (front : List ℕ) → front ≡ before ++ rest
    → front ++ more ≡ before ++ (rest ++ more)
behind before rest more front is = ap (λ t. t ++ more) is ∙ append_assoc before rest more

-- ---- one line

module _ (n v : ℕ) (front line : List ℕ) where
  -- the front with this line and its line feed
  abbrev longer : List ℕ
  longer = front ++ (line ++ 10 ∷ [])

  begun_goes : (o : Option Counts) (next : CallStage) → front ≡ calls_version_text v → counts_of_format v line ≡ o
      → after_shape_line n v o ≡ Ok next → IsFront next longer
  begun_goes None next before is h = cc
  begun_goes (Some c) next before is h =
      let same : head v c [] ≡ next = cc in
      let text = ap (λ t. t ++ (line ++ 10 ∷ [])) before
      ∙ ap (λ t. calls_version_text v ++ t) (sym (counts_spelled_so c line (counts_are_read v line c is).0)
      ∙ sym (append-nil (counts_text c))) in
      subst (λ st. IsFront st longer) same (record { queues = []; text = text; taken = refl })

  queue_goes : (c : Counts) (taken : List QueueShape) (o : Option QueueShape) (next : CallStage)
      → IsFront (head v c taken) front → queue_of_calls line ≡ o → with_queue n v c taken o ≡ Ok next
      → IsFront next longer
  queue_goes c taken None next before is h = cc
  queue_goes c taken (Some q) next before is h =
      let same : head v c (taken ++ q ∷ []) ≡ next = cc in
      let read = queues_of_calls_spelled_so q line is in
      let one : QueueShape = queue_with read.0.max_active read.0.flags in
      let shape : List ℕ = counts_text c ++ flat_map queue_text before.queues in
      let more_text = ap (λ t. shape ++ t) (sym read.2) ∙ flat_map_more queue_text (counts_text c) before.queues one in
      let text = behind (calls_version_text v) shape (line ++ 10 ∷ []) front before.text
      ∙ ap (λ t. calls_version_text v ++ t) more_text in
      let more = map_push queue_taken before.queues one ∙ ap (λ qs. qs ++ queue_taken one ∷ []) before.taken
      ∙ ap (λ x. taken ++ x ∷ []) read.1 in
      subst (λ st. IsFront st longer) same (record { queues = before.queues ++ one ∷ []; text = text; taken = more })

  queue_line_goes : (c : Counts) (taken : List QueueShape) (next : CallStage) (b : Bool)
      → IsFront (head v c taken) front
      → (if b then Err (refusal.BadShape n) else with_queue n v c taken (queue_of_calls line)) ≡ Ok next
      → IsFront next longer
  queue_line_goes c taken next true before h = cc
  queue_line_goes c taken next false before h = queue_goes c taken (queue_of_calls line) next before refl h

  item_goes : (s : Layout) (xs : List (Who × Call)) (x : Who × Call) (next : CallStage) (b : Bool)
      → IsFront (body v s xs) front → call_of_format v line ≡ Some x → fits s x.0 x.1 ≡ b
      → (if b then Ok (body v s (xs ++ x ∷ [])) else Err (refusal.NoSuchId n)) ≡ Ok next → IsFront next longer
  item_goes s xs x next true before is fitting h =
      let same : body v s (xs ++ x ∷ []) ≡ next = cc in
      let shape : Layout = layout_of (counts_in s) before.queues in
      let spelled = calls_spelled_so s x.0 x.1 line before.taken.0 fitting (call_is_read v line x is) in
      let calls : List ℕ = shape_text shape ++ flat_map (λ (x : Who × Call). call_text x.0 x.1) xs in
      let more_text =
      ap (λ t. calls ++ t) (sym spelled) ∙ flat_map_more (λ (x : Who × Call). call_text x.0 x.1) (shape_text shape)
      xs x in
      let text = behind (calls_version_text v) calls (line ++ 10 ∷ []) front before.text
      ∙ ap (λ t. calls_version_text v ++ t) more_text in
      subst (λ st. IsFront st longer) same (record { queues = before.queues; text = text; taken = before.taken })
  item_goes s xs x next false before is fitting h = cc

  with_item_goes : (s : Layout) (xs : List (Who × Call)) (o : Option (Who × Call)) (next : CallStage)
      → IsFront (body v s xs) front → call_of_format v line ≡ o → with_body_item calls_kind n v s xs o ≡ Ok next
      → IsFront next longer
  with_item_goes s xs None next before is h = cc
  with_item_goes s xs (Some x) next before is h = item_goes s xs x next (fits s x.0 x.1) before is refl h

  item_line_if : (s : Layout) (xs : List (Who × Call)) (next : CallStage) (b : Bool) → IsFront (body v s xs) front
      → (if b then Err refusal.TooLong else with_body_item calls_kind n v s xs (call_of_format v line)) ≡ Ok next
      → IsFront next longer
  item_line_if s xs next true before h = cc
  item_line_if s xs next false before h = with_item_goes s xs (call_of_format v line) next before refl h

  item_line_goes : (s : Layout) (xs : List (Who × Call)) (next : CallStage) → IsFront (body v s xs) front
      → item_line calls_kind n v s xs line ≡ Ok next → IsFront next longer
  unfolding item_line
  item_line_goes s xs next before h = item_line_if s xs next (nat_le (line_limit v) (length xs)) before h

  first_item_goes : (c : Counts) (taken : List QueueShape) (next : CallStage) (b : Bool)
      → IsFront (head v c taken) front → is_layout (layout_of c taken) ≡ b
      → first_body_line calls_kind n v (if b then Some (layout_of c taken) else None) line ≡ Ok next
      → IsFront next longer
  unfolding body_line
  first_item_goes c taken next true before inside h =
      let text =
      before.text
      ∙ ap (λ t. calls_version_text v ++ t)
      (sym (append-nil (counts_text c ++ flat_map queue_text before.queues))) in
      item_line_goes (layout_of c taken) [] next
      (record { queues = before.queues; text = text; taken = (inside, before.taken) }) h
  first_item_goes c taken next false before inside h = cc

  head_goes : (c : Counts) (taken : List QueueShape) (next : CallStage) (b : Bool) → IsFront (head v c taken) front
      → (if b then queue_line calls_kind n v c taken line else first_body_line calls_kind n v (shape_made c taken) line)
      ≡ Ok next → IsFront next longer
  head_goes c taken next true before h = queue_line_goes c taken next (nat_le (queue_limit v) (length taken)) before h
  head_goes c taken next false before h = first_item_goes c taken next (is_layout (layout_of c taken)) before refl h

first_goes : (n : ℕ) (front line : List ℕ) (next : CallStage) (b : Bool) → front ≡ [] → bytes_eq line calls_name ≡ b
    → (if b then Ok (opened 3) else after_shape_line n 1 (counts_of_format 1 line)) ≡ Ok next
    → IsFront next (front ++ (line ++ 10 ∷ []))
first_goes n front line next true empty is h =
    let same : opened 3 ≡ next = cc in
    let text = ap (λ t. t ++ (line ++ 10 ∷ [])) empty
    ∙ ap (λ t. t ++ 10 ∷ []) ((bytes_eq-Decides line calls_name).0 is) in
    subst (λ st. IsFront st (front ++ (line ++ 10 ∷ []))) same (record { queues = []; text = text; taken = tt })
first_goes n front line next false empty is h = begun_goes n 1 front line (counts_of_format 1 line) next empty refl h

line_goes : (n : ℕ) (stage next : CallStage) (front line : List ℕ) → IsFront stage front
    → after_whole_line calls_kind n stage line ≡ Ok next → IsFront next (front ++ (line ++ 10 ∷ []))
unfolding after_whole_line after_head body_line
line_goes n begin next front line before h = first_goes n front line next (bytes_eq line calls_name) before.text refl h
line_goes n (opened v) next front line before h =
    begun_goes n v front line (counts_of_format v line) next before.text refl h
line_goes n (head v c taken) next front line before h =
    head_goes n v front line c taken next (begins_queue line) before h
line_goes n (body v s xs) next front line before h = item_line_goes n v front line s xs next before h
line_goes n (ended v s xs) next front line before h = cc

-- ---- the end

shape_is_all : (n v : ℕ) (c : Counts) (taken : List QueueShape) (text : List ℕ) (b : Bool) (f : File (Who × Call))
    → IsFront (head v c taken) text
    → without_items calls_kind n v (if b then Some (layout_of c taken) else None) ≡ Ok f → IsTextOfCalls f text
shape_is_all n v c taken text true f before h =
    let same : record { version = v; layout = layout_of c taken; items = [] } ≡ f = cc in
    let all =
    before.text
    ∙ ap (λ t. calls_version_text v ++ t) (sym (append-nil (counts_text c ++ flat_map queue_text before.queues))) in
    subst (λ g. IsTextOfCalls g text) same (before.queues, before.taken, all)
shape_is_all n v c taken text false f before h = cc

front_is_all : (n : ℕ) (stage : CallStage) (text : List ℕ) (f : File (Who × Call)) → IsFront stage text
    → at_end calls_kind n stage ≡ Ok f → IsTextOfCalls f text
unfolding at_end
front_is_all n begin text f before h = cc
front_is_all n (opened v) text f before h = cc
front_is_all n (head v c taken) text f before h =
    shape_is_all n v c taken text (is_layout (layout_of c taken)) f before h
front_is_all n (body v s xs) text f before h =
    let same : record { version = v; layout = s; items = xs } ≡ f = cc in
    subst (λ g. IsTextOfCalls g text) same (before.queues, before.taken.1, before.text)
front_is_all n (ended v s xs) text f before h =
    let same : record { version = v; layout = s; items = xs } ≡ f = cc in
    subst (λ g. IsTextOfCalls g text) same (before.queues, before.taken.1, before.text)

last_is_all : (n : ℕ) (stage : CallStage) (front last : List ℕ) (f : File (Who × Call)) → IsFront stage front
    → after_last calls_kind n stage last ≡ Ok f → IsTextOfCalls f (front ++ last)
last_is_all n stage front [] f before h =
    subst (IsTextOfCalls f) (sym (append-nil front)) (front_is_all n stage front f before h)
last_is_all n stage front (b ∷ bs) f before h = absurd (no_cut n stage f (is_long (b ∷ bs)) h)

-- ---- line after line

pieces_spell : (ps : List (List ℕ)) (n : ℕ) (stage : CallStage) (front : List ℕ) (f : File (Who × Call))
    → IsFront stage front → after_pieces calls_kind n stage ps ≡ Ok f → IsTextOfCalls f (front ++ join_with_byte 10 ps)
unfolding after_pieces
pieces_spell [] n stage front f before h = last_is_all n stage front [] f before h
pieces_spell (last ∷ []) n stage front f before h = last_is_all n stage front last f before h
pieces_spell (line ∷ more ∷ rest) n stage front f before h =
    let goes : CallStage → Result (File (Who × Call)) Refusal =
    λ next. after_pieces calls_kind (n + 1) next (more ∷ rest) in
    let step =
    next_goes goes (after_whole_line calls_kind n stage line) f
    (short_goes (is_long line) (and_then goes (after_whole_line calls_kind n stage line)) f h) in
    let behind : List ℕ = join_with_byte 10 (more ∷ rest) in
    let split : (front ++ (line ++ 10 ∷ [])) ++ behind ≡ front ++ (line ++ 10 ∷ behind) = simp append_assoc in
    subst (IsTextOfCalls f) split
    (pieces_spell (more ∷ rest) (n + 1) step.0 (front ++ (line ++ 10 ∷ [])) f
    (line_goes n stage step.0 front line before step.1) step.2)

pub call_files_spelled_so : CallFilesSpelledSo
unfolding file_of
call_files_spelled_so text f h =
    subst (IsTextOfCalls f) (join_with_byte-slice_split 10 text)
    (pieces_spell (pieces text) 1 begin [] f (record { queues = []; text = refl; taken = tt }) h)
