-- The text of a file that is spelled is read again as itself.
use Rattle.cmwq_base.specs.Common.{◌≡◌, inl, inr, ◌+◌, ◌≤◌, ◌==◌, ℕ, Bool, true, false, ◌&&◌, not, List, [], ◌∷◌, ◌++◌}
use Rattle.cmwq_base.specs.Common.{length, Ok, Err, Some, None, refl, sym, ap, ◌∙◌, append_assoc, append-nil, arith}
use Rattle.cmwq_base.specs.Common.{subst, length-append, get_or, if◌then◌else◌, codes, IsTrue, flat_map, All, list_all}
use Rattle.cmwq_base.specs.Common.{lt-leb, le-ltb, le-leb, eqb-true, eq-eqb, nat_tests, All-head, All-tail}
use Rattle.cmwq_base.specs.Common.{slice_split_at, Who, Call, Entry, Counts, QueueShape, Layout, layout_of, is_layout}
use Rattle.cmwq_base.specs.Common.{are_counts, are_queues, is_queue, is_between, fits, entry_fits, reply_fits, IsWho}
use Rattle.cmwq_base.specs.Common.{IsCall, IsEntry, greatest, join_words, call_words, call_text, entry_words}
use Rattle.cmwq_base.specs.Common.{entry_text, end_words, end_text, end_of, counts_words, counts_text, queue_words}
use Rattle.cmwq_base.specs.Common.{queue_text, begins_queue, greatest_number, version_name, old_lines, most_lines}
use Rattle.cmwq_base.specs.Common.{line_limit, room_limit, needs_end, allows_queue, allows_entry, counts_of_format}
use Rattle.cmwq_base.specs.Common.{queue_of_format, entry_of_format, calls_name, number_limit, call_of_format}
use Rattle.cmwq_base.specs.Common.{counts_in, version_text, shape_text, last_text, text_of_format, calls_version_text}
use Rattle.cmwq_base.specs.Common.{calls_text, wide_entry, short_entry_is, allowed_call, wide_call_of, calls_read_again}
use Rattle.cmwq_base.specs.Common.{entries_read_again, ends_read_again, entry_ends_none, counts_read_again}
use Rattle.cmwq_base.specs.Common.{queues_read_again, IsWholeLine, whole_version, whole_long_version}
use Rattle.cmwq_base.specs.Common.{whole_calls_version, whole_counts, whole_queue, whole_call, whole_entry, whole_end}
use Rattle.cmwq_base.specs.Common.{who_begins_no_queue, entry_begins, fits_line, and_parts, allows_counts}
use Rattle.cmwq_base.specs.Common.{allows_numbers, queue_limit, most_queues, nat_le, and_from}
use Rattle.cmwq_text.specs.IdText.{who_text}
use Rattle.cmwq_text.specs.Laws.{IsLineOf}
use Rattle.cmwq_base.specs.Pieces.{pieces}
use Rattle.cmwq_base.specs.Files.{File, IsSound, Stage, Kind, begin, opened, head, body, ended, shape_made, and_then}
use Rattle.cmwq_base.specs.Files.{after_shape_line, queue_line, item_line, end_of_format, or_ended, body_line}
use Rattle.cmwq_base.specs.Files.{first_body_line, after_head, after_whole_line, at_end, without_end, after_pieces}
use Rattle.cmwq_base.specs.Files.{after_text, file_of}
use Rattle.cmwq_base.specs.Kinds.{calls_kind, call_file_of, history_kind, history_file_of}
use Rattle.cmwq_base.specs.FileLaws.{HistoriesReadAgain, OldHistoriesReadAgain, CallFilesReadAgain}
use Rattle.cmwq_base.specs.declared.refusal.Refusal.TheVariants as refusal
use Rattle.cmwq_base.proofs.Limits.{none_passes}
use Rattle.cmwq_base.proofs.Progress.{line_body, body_goes}
use Rattle.cmwq_base.proofs.Texts.{after_first_piece, pieces_some}

-- a line of the kind is read again, is none of a queue and not the last line, and fits the shape
record IsAgain {X : Type 0} (k : Kind X) (v : ℕ) (text : X → List ℕ) (s : Layout) (x : X) : Type 0 where
  line : List ℕ
  whole : IsWholeLine (text x) line
  read : k.item_of v line ≡ Some x
  other : begins_queue line ≡ false
  no_end : end_of_format k v line ≡ None
  inside : k.fits_in s x ≡ true

-- the kind reads the line of the queue again
abbrev ReadsQueue : {X : Type 0} → Kind X → ℕ → QueueShape → Type 0
ReadsQueue k v q = (line : List ℕ) → IsTrue (is_queue q) → IsLineOf (queue_text q) line → k.queue_of v line ≡ Some q

-- what stands after the lines of the kind ends the text
pub record Ends {X : Type 0} (k : Kind X) (v : ℕ) (last : ℕ → List ℕ) : Type 0 where
  pub behind : (n : ℕ) (s : Layout) (xs : List X) → length xs ≤ line_limit v
      → after_text k n (body v s xs) (last (length xs)) ≡ Ok (record { version = v; layout = s; items = xs })
  pub alone : (n : ℕ) (c : Counts) (qs : List QueueShape) → is_layout (layout_of c qs) ≡ true
      → after_text k n (head v c qs) (last 0) ≡ Ok (record { version = v; layout = layout_of c qs; items = [] })

pub pieces_behind : (bytes line rest : List ℕ) → IsWholeLine bytes line → pieces (bytes ++ rest) ≡ line ∷ pieces rest
pieces_behind bytes line rest w = grind (arith, append_assoc, slice_split_at)

module _ {X : Type 0} (k : Kind X) where
  line_goes : (n : ℕ) (stage next : Stage X) (bytes line rest : List ℕ) → IsWholeLine bytes line
      → after_whole_line k n stage line ≡ Ok next → after_text k n stage (bytes ++ rest)
      ≡ after_text k (n + 1) next rest
  line_goes n stage next bytes line rest w h =
      let some = pieces_some rest in
      ap (after_pieces k n stage) (pieces_behind bytes line rest w)
      ∙ after_first_piece k n stage line (pieces rest) some.0 some.1 some.2 (le-ltb 120 (length line) w.short)
      ∙ ap (and_then (λ next. after_text k (n + 1) next rest)) h

counts_again : (v : ℕ) (c : Counts) → IsTrue (are_counts c.cpus c.workers c.callers c.items c.room)
    → IsTrue (allows_counts v c) → counts_of_format v (join_words (counts_words c)) ≡ Some c
unfolding counts_of_format
counts_again v c inside allowed =
    rw (counts_read_again c (join_words (counts_words c)) inside (whole_counts c inside).is, allowed) refl

begun_goes : {X : Type 0} (n v : ℕ) (c : Counts) → IsTrue (are_counts c.cpus c.workers c.callers c.items c.room)
    → IsTrue (allows_counts v c) → after_shape_line {X = X} n v (counts_of_format v (join_words (counts_words c)))
    ≡ Ok (head v c [])
begun_goes n v c inside room = ap (after_shape_line n v) (counts_again v c inside room)

module _ {X : Type 0} (k : Kind X) (v : ℕ) (text : X → List ℕ) (last : ℕ → List ℕ) (ends : Ends k v last) where
  -- ---- lines of the kind

  items_end : (n : ℕ) (s : Layout) (xs ys : List X) → length xs + length ys ≤ line_limit v → All (IsAgain k v text s) ys
      → after_text k n (body v s xs) (flat_map text ys ++ last (length xs + length ys))
      ≡ Ok (record { version = v; layout = s; items = xs ++ ys })
  items_end n s xs [] room each =
      let all : length xs + 0 ≡ length xs = omega arith in
      ap (λ m. after_text k n (body v s xs) (last m)) all ∙ ends.behind n s xs (omega (arith, room))
      ∙ ap (λ items. Ok (record { version = v; layout = s; items = items })) (sym (append-nil xs))
  items_end n s xs (y ∷ ys) room each =
      let a = All-head (IsAgain k v text s) y ys each in
      let more = length-append xs (y ∷ []) in
      let all : length xs + length (y ∷ ys) ≡ length (xs ++ y ∷ []) + length ys = omega (arith, more) in
      ap (λ m. after_text k n (body v s xs) ((text y ++ flat_map text ys) ++ last m)) all
      ∙ ap (after_text k n (body v s xs))
      (append_assoc (text y) (flat_map text ys) (last (length (xs ++ y ∷ []) + length ys)))
      ∙ line_goes k n (body v s xs) (body v s (xs ++ y ∷ [])) (text y) a.line
      (flat_map text ys ++ last (length (xs ++ y ∷ []) + length ys)) a.whole
      (body_goes k n v s xs y a.line a.read a.no_end a.inside (omega arith))
      ∙ items_end (n + 1) s (xs ++ y ∷ []) ys (omega arith) (All-tail (IsAgain k v text s) y ys each)
      ∙ ap (λ items. Ok (record { version = v; layout = s; items = items })) (append_assoc xs (y ∷ []) ys)

  -- ---- lines of queues

  queue_goes : (n : ℕ) (c : Counts) (qs : List QueueShape) (q : QueueShape) → ReadsQueue k v q → IsTrue (is_queue q)
      → length qs + 1 ≤ queue_limit v → after_whole_line k n (head v c qs) (join_words (queue_words q))
      ≡ Ok (head v c (qs ++ q ∷ []))
  unfolding after_whole_line after_head
  queue_goes n c qs q reads inside room =
      rw (
        lt-leb (queue_limit v) (length qs) (omega arith),
        reads (join_words (queue_words q)) inside (whole_queue q inside).is,
      ) refl

  -- what is read of the rest after all queues is read of it with their lines before it
  queues_go : (n : ℕ) (c : Counts) (before qs : List QueueShape) (rest : List ℕ) (f : File X) → All (ReadsQueue k v) qs
      → list_all is_queue qs ≡ true → length before + length qs ≤ queue_limit v
      → ((m : ℕ) → after_text k m (head v c (before ++ qs)) rest ≡ Ok f)
      → after_text k n (head v c before) (flat_map queue_text qs ++ rest) ≡ Ok f
  queues_go n c before [] rest f reads inside room goes =
      ap (λ qs. after_text k n (head v c qs) rest) (sym (append-nil before)) ∙ goes n
  queues_go n c before (q ∷ qs) rest f reads inside room goes =
      let parts = and_parts (is_queue q) (list_all is_queue qs) inside in
      let more = length-append before (q ∷ []) in
      ap (after_text k n (head v c before)) (append_assoc (queue_text q) (flat_map queue_text qs) rest)
      ∙ line_goes k n (head v c before) (head v c (before ++ q ∷ [])) (queue_text q) (join_words (queue_words q))
      (flat_map queue_text qs ++ rest) (whole_queue q parts.0)
      (queue_goes n c before q (All-head (ReadsQueue k v) q qs reads) parts.0 (omega arith))
      ∙ queues_go (n + 1) c (before ++ q ∷ []) qs rest f (All-tail (ReadsQueue k v) q qs reads) parts.1 (omega arith)
      (λ m. ap (λ all. after_text k m (head v c all) rest) (append_assoc before (q ∷ []) qs) ∙ goes m)

  -- ---- the first line that is none of a queue, or the end

  first_goes : (n : ℕ) (c : Counts) (qs : List QueueShape) (x : X) (a : IsAgain k v text (layout_of c qs) x)
      → 1 ≤ line_limit v → is_layout (layout_of c qs) ≡ true → after_whole_line k n (head v c qs) a.line
      ≡ Ok (body v (layout_of c qs) (x ∷ []))
  unfolding after_whole_line after_head
  first_goes n c qs x a room inside =
      ap (λ b. if b then queue_line k n v c qs a.line else first_body_line k n v (shape_made c qs) a.line) a.other
      ∙ ap (λ b. first_body_line k n v (if b then Some (layout_of c qs) else None) a.line) inside
      ∙ line_body k n v (layout_of c qs) [] x a.line a.read a.no_end a.inside (omega arith)

  head_ends : (n : ℕ) (c : Counts) (qs : List QueueShape) (ys : List X) → is_layout (layout_of c qs) ≡ true
      → length ys ≤ line_limit v → All (IsAgain k v text (layout_of c qs)) ys
      → after_text k n (head v c qs) (flat_map text ys ++ last (length ys))
      ≡ Ok (record { version = v; layout = layout_of c qs; items = ys })
  head_ends n c qs [] inside room each = ends.alone n c qs inside
  head_ends n c qs (y ∷ ys) inside room each =
      let a = All-head (IsAgain k v text (layout_of c qs)) y ys each in
      let all : length (y ∷ ys) ≡ length (y ∷ []) + length ys = omega arith in
      ap (λ m. after_text k n (head v c qs) ((text y ++ flat_map text ys) ++ last m)) all
      ∙ ap (after_text k n (head v c qs))
      (append_assoc (text y) (flat_map text ys) (last (length (y ∷ []) + length ys)))
      ∙ line_goes k n (head v c qs) (body v (layout_of c qs) (y ∷ [])) (text y) a.line
      (flat_map text ys ++ last (length (y ∷ []) + length ys)) a.whole (first_goes n c qs y a (omega arith) inside)
      ∙ items_end (n + 1) (layout_of c qs) (y ∷ []) ys (omega arith)
      (All-tail (IsAgain k v text (layout_of c qs)) y ys each)

  -- ---- the whole

  -- from the shape line on
  shape_read_again : (n : ℕ) (stage : Stage X) (f : File X) → f.version ≡ v
      → ((c : Counts) → IsTrue (are_counts c.cpus c.workers c.callers c.items c.room) → IsTrue (allows_counts v c)
      → after_whole_line k n stage (join_words (counts_words c)) ≡ Ok (head v c []))
      → All (ReadsQueue k v) f.layout.queues → is_layout f.layout ≡ true → IsSound k f
      → All (IsAgain k v text f.layout) f.items
      → after_text k n stage (shape_text f.layout ++ (flat_map text f.items ++ last (length f.items))) ≡ Ok f
  shape_read_again n stage f is_version begins reads inside sound each =
      let s : Layout = f.layout in
      let c : Counts = counts_in s in
      let rest : List ℕ = flat_map text f.items ++ last (length f.items) in
      let parts = and_parts (are_counts s.cpus s.workers s.callers s.items s.room) (are_queues s.queues) inside in
      let queues = and_parts (is_between 1 most_queues (length s.queues)) (list_all is_queue s.queues) parts.1 in
      let few : length s.queues ≤ queue_limit v =
      subst (λ w. length s.queues ≤ queue_limit w) is_version sound.queues in
      let rooms : s.room ≤ room_limit v = subst (λ w. s.room ≤ room_limit w) is_version sound.room in
      let numbers : IsTrue (allows_numbers v c) = subst (λ w. IsTrue (allows_numbers w c)) is_version sound.numbers in
      let allowed : IsTrue (allows_counts v c) =
      and_from (nat_le s.room (room_limit v)) (allows_numbers v c) (le-leb s.room (room_limit v) rooms) numbers in
      let room : length f.items ≤ line_limit v = subst (λ w. length f.items ≤ line_limit w) is_version sound.few in
      let made : File X = record { version = v; layout = s; items = f.items } in
      let same : made ≡ f = ap (λ w. record { version = w; layout = s; items = f.items }) (sym is_version) in
      ap (after_text k n stage) (append_assoc (counts_text c) (flat_map queue_text s.queues) rest)
      ∙ line_goes k n stage (head v c []) (counts_text c) (join_words (counts_words c))
      (flat_map queue_text s.queues ++ rest) (whole_counts c parts.0) (begins c parts.0 allowed)
      ∙ queues_go (n + 1) c [] s.queues rest made reads queues.1 (omega (arith, few))
      (λ m. head_ends m c s.queues f.items inside room each)
      ∙ ap Ok same

-- ---- histories

none_in : (v : ℕ) (line : List ℕ) → end_of line ≡ None → end_of_format history_kind v line ≡ None
none_in v line none = grind arith

entry_again : (v : ℕ) (s : Layout) (e : Entry) → (IsEntry greatest_number) e → entry_fits s e ≡ true
    → allows_entry v e ≡ true → IsAgain history_kind v entry_text s e
unfolding entry_of_format
entry_again v s e h inside allowed =
    let line : List ℕ = join_words (entry_words e) in
    let whole = whole_entry e h in
    let said = fits_line s e.who e.call (and_parts (fits s e.who e.call) (reply_fits s e.reply) inside).0 in
    record {
      line = line;
      whole = whole;
      read = rw (entries_read_again e line h said whole.is, allowed) refl;
      other =
          entry_begins e h;
      no_end = none_in v line (entry_ends_none e h);
      inside = inside;
    }

queue_again : (v : ℕ) (q : QueueShape) → allows_queue v q ≡ true → ReadsQueue history_kind v q
unfolding queue_of_format
queue_again v q allowed line is spelled = rw ((queues_read_again q line is spelled).1, allowed) refl

-- the shape line is none that says a format
shape_says_none : (c : Counts) → (history_kind.says_format 2 (join_words (counts_words c)) ≡ false)
    × (history_kind.says_format 3 (join_words (counts_words c)) ≡ false)
shape_says_none c = (refl, refl)

old_begins : (c : Counts) → IsTrue (are_counts c.cpus c.workers c.callers c.items c.room) → IsTrue (allows_counts 1 c)
    → after_whole_line history_kind 1 begin (join_words (counts_words c)) ≡ Ok (head 1 c [])
unfolding after_whole_line
old_begins c inside room = rw ((shape_says_none c).0, (shape_says_none c).1) (begun_goes 1 1 c inside room)

-- ---- the last line of a history

-- a text that ends here, in a format that has no last line or as a front
nothing_more : (k : Kind Entry) (n : ℕ) (f : File Entry) → (k.needs_end f.version && not k.is_front) ≡ false
    → without_end k n f ≡ Ok f
nothing_more k n f none = ap (λ b. if b then Err (refusal.BadLine n) else Ok f) none

body_is_all : (n v : ℕ) (s : Layout) (xs : List Entry) → needs_end v ≡ false
    → after_text history_kind n (body v s xs) [] ≡ Ok (record { version = v; layout = s; items = xs })
unfolding after_pieces at_end
body_is_all n v s xs none = rw none refl

shape_is_all : (n v : ℕ) (c : Counts) (qs : List QueueShape) → needs_end v ≡ false → is_layout (layout_of c qs) ≡ true
    → after_text history_kind n (head v c qs) [] ≡ Ok (record { version = v; layout = layout_of c qs; items = [] })
unfolding after_pieces at_end
shape_is_all n v c qs none inside = rw (inside, none) refl

ended_is_all : (n v : ℕ) (s : Layout) (xs : List Entry) → after_text history_kind n (ended v s xs) []
    ≡ Ok (record { version = v; layout = s; items = xs })
unfolding after_pieces at_end
ended_is_all n v s xs = refl

end_read : (v n : ℕ) → n ≤ greatest_number → needs_end v ≡ true
    → end_of_format history_kind v (join_words (end_words n)) ≡ Some n
end_read v n le needed = ap (λ b. if b then end_of (join_words (end_words n)) else None) needed
    ∙ ends_read_again n (join_words (end_words n)) le (whole_end n le).is

pub body_ends : (n v : ℕ) (s : Layout) (xs : List Entry) → length xs ≤ greatest_number → needs_end v ≡ true
    → body_line history_kind n v s xs (join_words (end_words (length xs))) ≡ Ok (ended v s xs)
unfolding body_line
body_ends n v s xs le needed =
    ap (or_ended history_kind n v s xs (join_words (end_words (length xs)))) (end_read v (length xs) le needed)
    ∙ ap (λ b. if b then Ok (ended v s xs) else Err (refusal.BadLine n)) (eq-eqb (length xs) (length xs) refl)

pub body_goes_over : (n v : ℕ) (s : Layout) (xs : List Entry) → length xs ≤ greatest_number → needs_end v ≡ true
    → after_whole_line history_kind n (body v s xs) (join_words (end_words (length xs))) ≡ Ok (ended v s xs)
unfolding after_whole_line
body_goes_over n v s xs le needed = body_ends n v s xs le needed

pub head_goes_over : (n v : ℕ) (c : Counts) (qs : List QueueShape) → needs_end v ≡ true
    → is_layout (layout_of c qs) ≡ true → after_whole_line history_kind n (head v c qs) (join_words (end_words 0))
    ≡ Ok (ended v (layout_of c qs) [])
unfolding after_whole_line after_head
head_goes_over n v c qs needed inside = grind (arith, body_ends)

-- what stands after the entries of a history, in any format
pub history_ends : (v : ℕ) → Ends history_kind v (last_text v)
history_ends v = by_need (needs_end v) refl
  where
    by_need : (b : Bool) → needs_end v ≡ b → Ends history_kind v (λ m. if b then end_text m else [])
    by_need false none =
        record {
          behind = λ n s xs few. body_is_all n v s xs none;
          alone =
              λ n c qs inside. shape_is_all n v c qs none inside;
        }
    by_need true needed = record {
      behind = λ n s xs few.
          let most : line_limit v ≤ most_lines = none_passes old_lines most_lines v (omega arith) in
          let le : length xs ≤ greatest_number = omega (arith, few, most) in
          ap (after_text history_kind n (body v s xs)) (sym (append-nil (end_text (length xs))))
          ∙ line_goes history_kind n (body v s xs) (ended v s xs) (end_text (length xs))
          (join_words (end_words (length xs))) [] (whole_end (length xs) le) (body_goes_over n v s xs le needed)
          ∙ ended_is_all (n + 1) v s xs;
      alone = λ n c qs inside.
          ap (after_text history_kind n (head v c qs)) (sym (append-nil (end_text 0)))
          ∙ line_goes history_kind n (head v c qs) (ended v (layout_of c qs) []) (end_text 0) (join_words (end_words 0))
          [] (whole_end 0 (omega arith)) (head_goes_over n v c qs needed inside)
          ∙ ended_is_all (n + 1) v (layout_of c qs) [];
    }

pub old_histories_read_again : OldHistoriesReadAgain
unfolding file_of
old_histories_read_again f is_version of_format inside sound each =
    let old =
    subst (λ v. All (λ q. IsTrue (allows_queue v q)) f.layout.queues × All (λ e. IsTrue (allows_entry v e)) f.items)
    is_version of_format in
    ap (after_text history_kind 1 begin)
    (append_assoc (shape_text f.layout) (flat_map entry_text f.items) (last_text 1 (length f.items)))
    ∙ shape_read_again history_kind 1 entry_text (last_text 1) (history_ends 1) 1 begin f is_version old_begins
    (λ i d lt. queue_again 1 _ (old.0 i d lt)) inside sound
    (λ i d lt. entry_again 1 f.layout _ (wide_entry _ (each i d lt)) (sound.fitting i d lt) (old.1 i d lt))

begins : (v : ℕ) (c : Counts) → IsTrue (are_counts c.cpus c.workers c.callers c.items c.room)
    → IsTrue (allows_counts v c) → after_whole_line history_kind 2 (opened v) (join_words (counts_words c))
    ≡ Ok (head v c [])
unfolding after_whole_line
begins v c inside room = begun_goes 2 v c inside room

says : after_whole_line history_kind 1 begin (codes "history 2") ≡ Ok (opened 2)
unfolding after_whole_line
says = refl

long_says : after_whole_line history_kind 1 begin (codes "history 3") ≡ Ok (opened 3)
unfolding after_whole_line
long_says = refl

-- format 2 has all entries with short numbers
pub new_allows : (e : Entry) → (IsEntry greatest) e → allows_entry 2 e ≡ true
new_allows e h = rw (short_entry_is e h) refl

-- in a format whose first line says it, and which has all queues and these entries
newer_read_again : (v : ℕ) (f : File Entry) → f.version ≡ v → IsWholeLine (version_text v) (version_name v)
    → after_whole_line history_kind 1 begin (version_name v) ≡ Ok (opened v)
    → ((q : QueueShape) → allows_queue v q ≡ true) → All (λ e. allows_entry v e ≡ true) f.items
    → IsTrue (is_layout f.layout) → IsSound history_kind f → All (IsEntry greatest_number) f.items
    → history_file_of (text_of_format v f.layout f.items) ≡ Ok f
unfolding file_of
newer_read_again v f is_version whole said queues entries inside sound each =
    let last : List ℕ = last_text v (length f.items) in
    let rest : List ℕ = shape_text f.layout ++ (flat_map entry_text f.items ++ last) in
    let parts : text_of_format v f.layout f.items ≡ version_text v ++ rest = simp append_assoc in
    ap (after_text history_kind 1 begin) parts
    ∙ line_goes history_kind 1 begin (opened v) (version_text v) (version_name v) rest whole said
    ∙ shape_read_again history_kind v entry_text (last_text v) (history_ends v) 2 (opened v) f is_version (begins v)
    (λ i d lt. queue_again v _ (queues (get_or f.layout.queues i d))) inside sound
    (λ i d lt. entry_again v f.layout _ (each i d lt) (sound.fitting i d lt) (entries i d lt))

pub histories_read_again : HistoriesReadAgain
histories_read_again f low high of_format inside sound each = by_version (f.version == 3) refl
  where
    Again : ℕ → Type 0
    Again v = history_file_of (text_of_format v f.layout f.items) ≡ Ok f

    of : (v : ℕ) → f.version ≡ v → All (λ e. allows_entry v e ≡ true) f.items
    of v is = subst (λ v. All (λ e. allows_entry v e ≡ true) f.items) is of_format.1

    by_version : (b : Bool) → (f.version == 3) ≡ b → Again f.version
    by_version true h =
        let is : f.version ≡ 3 = eqb-true f.version 3 h in
        subst Again (sym is)
        (newer_read_again 3 f is whole_long_version long_says (λ q. refl) (of 3 is) inside sound each)
    by_version false h =
        let is : f.version ≡ 2 = grind (arith, nat_tests) in
        subst Again (sym is) (newer_read_again 2 f is whole_version says (λ q. refl) (of 2 is) inside sound each)

-- ---- calls

abbrev call_line : Who × Call → List ℕ
call_line x = call_text x.0 x.1

call_again : (v : ℕ) (s : Layout) (x : Who × Call) → IsWho x.0 → (IsCall (number_limit v)) x.1 → fits s x.0 x.1 ≡ true
    → IsAgain calls_kind v call_line s x
unfolding call_of_format
call_again v s x h k inside =
    let line : List ℕ = join_words (who_text x.0 ∷ call_words x.1) in
    let wide = wide_call_of v x.1 k in
    let whole = whole_call x.0 x.1 h wide in
    record {
      line = line;
      whole = whole;
      read =
          rw (calls_read_again x.0 x.1 line h wide (fits_line s x.0 x.1 inside) whole.is, allowed_call v x.1 k) refl;
      other = who_begins_no_queue x.0 (call_words x.1) h;
      no_end = refl;
      inside = inside;
    }

-- the shape line is none that says a format
shape_says_no_calls : (c : Counts) → calls_kind.says_format 3 (join_words (counts_words c)) ≡ false
shape_says_no_calls c = refl

old_calls_begin : (c : Counts) → IsTrue (are_counts c.cpus c.workers c.callers c.items c.room)
    → IsTrue (allows_counts 1 c) → after_whole_line calls_kind 1 begin (join_words (counts_words c)) ≡ Ok (head 1 c [])
unfolding after_whole_line
old_calls_begin c inside room = rw (shape_says_no_calls c) (begun_goes 1 1 c inside room)

calls_begin : (v : ℕ) (c : Counts) → IsTrue (are_counts c.cpus c.workers c.callers c.items c.room)
    → IsTrue (allows_counts v c) → after_whole_line calls_kind 2 (opened v) (join_words (counts_words c))
    ≡ Ok (head v c [])
unfolding after_whole_line
calls_begin v c inside room = begun_goes 2 v c inside room

calls_say : after_whole_line calls_kind 1 begin calls_name ≡ Ok (opened 3)
unfolding after_whole_line
calls_say = refl

calls_end : (v : ℕ) → Ends calls_kind v (λ m. [])
unfolding after_pieces at_end
calls_end v = grind arith

module _ (f : File (Who × Call)) (inside : IsTrue (is_layout f.layout)) (sound : IsSound calls_kind f)
    (each : All (λ x. IsWho x.0 × (IsCall (number_limit f.version)) x.1) f.items) where
  -- from the shape line on
  calls_again : (v n : ℕ) (stage : Stage (Who × Call)) → f.version ≡ v
      → ((c : Counts) → IsTrue (are_counts c.cpus c.workers c.callers c.items c.room) → IsTrue (allows_counts v c)
      → after_whole_line calls_kind n stage (join_words (counts_words c)) ≡ Ok (head v c []))
      → after_text calls_kind n stage (shape_text f.layout ++ flat_map call_line f.items) ≡ Ok f
  calls_again v n stage is begins =
      let numbers = subst (λ v. All (λ x. IsWho x.0 × (IsCall (number_limit v)) x.1) f.items) is each in
      ap (λ t. after_text calls_kind n stage (shape_text f.layout ++ t)) (sym (append-nil (flat_map call_line f.items)))
      ∙ shape_read_again calls_kind v call_line (λ m. []) (calls_end v) n stage f is begins
      (λ i d lt line is spelled. (queues_read_again _ line is spelled).0) inside sound
      (λ i d lt. let ranges = numbers i d lt in call_again v f.layout _ ranges.0 ranges.1 (sound.fitting i d lt))

  abbrev Again : ℕ → Type 0
  Again v = call_file_of (calls_text v f.layout f.items) ≡ Ok f

  old_calls_again : f.version ≡ 1 → Again 1
  unfolding file_of
  old_calls_again is = calls_again 1 1 begin is old_calls_begin

  new_calls_again : f.version ≡ 3 → Again 3
  unfolding file_of
  new_calls_again is =
      line_goes calls_kind 1 begin (opened 3) (calls_version_text 3) calls_name
      (shape_text f.layout ++ flat_map call_line f.items) whole_calls_version calls_say
      ∙ calls_again 3 2 (opened 3) is (calls_begin 3)

pub call_files_read_again : CallFilesReadAgain
call_files_read_again f (inl is) inside sound each =
    subst (λ v. call_file_of (calls_text v f.layout f.items) ≡ Ok f) (sym is) (old_calls_again f inside sound each is)
call_files_read_again f (inr is) inside sound each =
    subst (λ v. call_file_of (calls_text v f.layout f.items) ≡ Ok f) (sym is) (new_calls_again f inside sound each is)
