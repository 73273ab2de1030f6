-- Files of calls and histories: what is read of a whole text, or the first refusal. Both are a shape line, the queues'
-- lines, and then lines of one kind, which differ in how a queue and such a line is read, and in what has to be inside
-- the shape. Before the shape line a line may say that the format is 2 or 3. A format may have a last line, which says
-- how many lines of the kind stand before it.
use Rattle.std.specs.Prelude.{◌≡◌, ◌⊎◌, ◌+◌, ◌≤◌, ◌&&◌, ◌==◌, if◌then◌else◌, ◌∷◌, ◌++◌}
use Rattle.cmwq_base.specs.Common.{ℕ, Bool, true, false, not, IsTrue, List, [], length, Option, Some, None, Result, Ok}
use Rattle.cmwq_base.specs.Common.{Err, nat_lt, nat_le, All, Counts, QueueShape, Layout, layout_of, is_layout}
use Rattle.cmwq_base.specs.Common.{begins_queue, end_of, line_limit, room_limit, queue_limit, allows_numbers}
use Rattle.cmwq_base.specs.Common.{counts_of_format, counts_in}
use Rattle.cmwq_base.specs.declared.refusal.Refusal.{Refusal}
use Rattle.cmwq_base.specs.declared.refusal.Refusal.TheVariants as refusal
use Rattle.cmwq_base.specs.Pieces.{pieces}

-- what a file says, and its format: 2 or 3 where its first line says so, and else 1
pub record File (X : Type 0) : Type 0 where
  pub version : ℕ
  pub layout : Layout
  pub items : List X

-- how far a file has been read: nothing, the line that says the format, the shape line and queues in a format, lines
-- after these, or the last line
pub data Stage (X : Type 0) : Type 0 where
  begin : Stage X
  opened : ℕ → Stage X
  head : ℕ → Counts → List QueueShape → Stage X
  body : ℕ → Layout → List X → Stage X
  ended : ℕ → Layout → List X → Stage X

-- how the lines of a kind of file are read: whether a first line says that the format is this one, and the others by
-- the format
pub record Kind (X : Type 0) : Type 0 where
  pub says_format : ℕ → List ℕ → Bool
  pub queue_of : ℕ → List ℕ → Option QueueShape
  pub item_of : ℕ → List ℕ → Option X
  pub fits_in : Layout → X → Bool
  -- whether the format has a last line
  pub needs_end : ℕ → Bool
  -- Whether the text may be a front, after which more was to be written: a rest without a line feed is left out then,
  -- as if the text ended before it, and the last line may be missing. Of a whole text both are refused.
  pub is_front : Bool

-- the kind whose texts are fronts, or whole
abbrev pub as_front : {X : Type 0} → Bool → Kind X → Kind X
as_front front k =
    record {
      says_format = k.says_format;
      queue_of = k.queue_of;
      item_of = k.item_of;
      fits_in = k.fits_in;
      needs_end =
          k.needs_end;
      is_front = front;
    }

-- 1 to 3: 1, or what a first line says
abbrev pub IsVersionOf : {X : Type 0} → Kind X → ℕ → Type 0
IsVersionOf k v = (1 ≤ v) × (v ≤ 3) × ((v ≡ 1) ⊎ ((line : List ℕ) × (k.says_format v line ≡ true)))

-- a shape within what the format allows, and no more lines of the kind, each of which fits the shape
pub record IsSound {X : Type 0} (k : Kind X) (f : File X) : Type 0 where
  pub room : f.layout.room ≤ room_limit f.version
  pub numbers : IsTrue (allows_numbers f.version (counts_in f.layout))
  pub queues : length f.layout.queues ≤ queue_limit f.version
  pub few : length f.items ≤ line_limit f.version
  pub fitting : All (λ x. IsTrue (k.fits_in f.layout x)) f.items

abbrev pub is_long : List ℕ → Bool
is_long line = nat_lt 120 (length line)

-- the shape of these counts and queues, if there is a queue and all is inside the limits
abbrev pub shape_made : Counts → List QueueShape → Option Layout
shape_made counts queues = if is_layout (layout_of counts queues) then Some (layout_of counts queues) else None

-- goes on with what was read, or stays refused
abbrev pub and_then : {A B : Type 0} → (A → Result B Refusal) → Result A Refusal → Result B Refusal
and_then f (Ok x) = f x
and_then f (Err e) = Err e

-- n is the number of the line, and v the format
module _ {X : Type 0} where
  -- the shape line
  abbrev pub after_shape_line : ℕ → ℕ → Option Counts → Result (Stage X) Refusal
  after_shape_line n v (Some counts) = Ok (head v counts [])
  after_shape_line n v None = Err (refusal.BadShape n)

  -- the first line: one that says the format, or the shape line
  abbrev pub after_first_line : Kind X → ℕ → List ℕ → Result (Stage X) Refusal
  after_first_line k n line =
      if k.says_format 2 line then Ok (opened 2)
      else if k.says_format 3 line then Ok (opened 3)
      else after_shape_line n 1 (counts_of_format 1 line)

  -- a line of a queue: there are no more than the format allows
  abbrev pub with_queue : ℕ → ℕ → Counts → List QueueShape → Option QueueShape → Result (Stage X) Refusal
  with_queue n v counts queues (Some q) = Ok (head v counts (queues ++ q ∷ []))
  with_queue n v counts queues None = Err (refusal.BadShape n)

  abbrev pub queue_line : Kind X → ℕ → ℕ → Counts → List QueueShape → List ℕ → Result (Stage X) Refusal
  queue_line k n v counts queues line = if nat_le (queue_limit v) (length queues) then Err (refusal.BadShape n)
      else with_queue n v counts queues (k.queue_of v line)

  -- a line of the kind: one more than the format allows is too long whatever it is
  abbrev pub with_body_item : Kind X → ℕ → ℕ → Layout → List X → Option X → Result (Stage X) Refusal
  with_body_item k n v s items (Some x) = if k.fits_in s x then Ok (body v s (items ++ x ∷ []))
      else Err (refusal.NoSuchId n)
  with_body_item k n v s items None = Err (refusal.BadLine n)

  unfoldable pub item_line : Kind X → ℕ → ℕ → Layout → List X → List ℕ → Result (Stage X) Refusal
  item_line k n v s items line = if nat_le (line_limit v) (length items) then Err refusal.TooLong
      else with_body_item k n v s items (k.item_of v line)

  -- how many lines the last line says that stand before it, of a line that is one in this format
  abbrev pub end_of_format : Kind X → ℕ → List ℕ → Option ℕ
  end_of_format k v line = if k.needs_end v then end_of line else None

  -- the last line says how many stand before it, and nothing else does
  abbrev pub or_ended : Kind X → ℕ → ℕ → Layout → List X → List ℕ → Option ℕ → Result (Stage X) Refusal
  or_ended k n v s items line (Some m) = if m == length items then Ok (ended v s items) else Err (refusal.BadLine n)
  or_ended k n v s items line None = item_line k n v s items line

  -- a line of the kind, or the last line
  unfoldable pub body_line : Kind X → ℕ → ℕ → Layout → List X → List ℕ → Result (Stage X) Refusal
  body_line k n v s items line = or_ended k n v s items line (end_of_format k v line)

  -- the first line that is none of a queue
  abbrev pub first_body_line : Kind X → ℕ → ℕ → Option Layout → List ℕ → Result (Stage X) Refusal
  first_body_line k n v (Some s) line = body_line k n v s [] line
  first_body_line k n v None line = Err (refusal.BadShape n)

  unfoldable pub after_head : Kind X → ℕ → ℕ → Counts → List QueueShape → List ℕ → Result (Stage X) Refusal
  after_head k n v counts queues line = if begins_queue line then queue_line k n v counts queues line
      else first_body_line k n v (shape_made counts queues) line

  -- one whole line, the n-th of the file
  unfoldable pub after_whole_line : Kind X → ℕ → Stage X → List ℕ → Result (Stage X) Refusal
  after_whole_line k n begin line = after_first_line k n line
  after_whole_line k n (opened v) line = after_shape_line n v (counts_of_format v line)
  after_whole_line k n (head v counts queues) line = after_head k n v counts queues line
  after_whole_line k n (body v s items) line = body_line k n v s items line
  after_whole_line k n (ended v s items) line = Err (refusal.BadLine n)

  -- a last line without its line feed, the n-th of the file
  unfoldable pub after_cut : ℕ → Stage X → Refusal
  after_cut n begin = refusal.BadLine n
  after_cut n (opened v) = refusal.BadLine n
  after_cut n (head v counts queues) = refusal.BadLine n
  after_cut n (body v s items) = if nat_le (line_limit v) (length items) then refusal.TooLong else refusal.BadLine n
  after_cut n (ended v s items) = refusal.BadLine n

  -- the end of the text, where its n-th line would be: a last line that is missing is refused there, but in a front
  abbrev pub without_end : Kind X → ℕ → File X → Result (File X) Refusal
  without_end k n f = if k.needs_end f.version && not k.is_front then Err (refusal.BadLine n) else Ok f

  abbrev pub without_items : Kind X → ℕ → ℕ → Option Layout → Result (File X) Refusal
  without_items k n v (Some s) = without_end k n (record { version = v; layout = s; items = [] })
  without_items k n v None = Err (refusal.BadShape n)

  unfoldable pub at_end : Kind X → ℕ → Stage X → Result (File X) Refusal
  at_end k n begin = Err (refusal.BadShape n)
  at_end k n (opened v) = Err (refusal.BadShape n)
  at_end k n (head v counts queues) = without_items k n v (shape_made counts queues)
  at_end k n (body v s items) = without_end k n (record { version = v; layout = s; items = items })
  at_end k n (ended v s items) = Ok (record { version = v; layout = s; items = items })

  -- a line without its line feed: of a front it is left out, but after its last line nothing may stand
  abbrev pub is_file_ended : Stage X → Bool
  is_file_ended (ended v s items) = true
  is_file_ended stage = false

  abbrev pub at_cut : Kind X → ℕ → Stage X → Result (File X) Refusal
  at_cut k n stage = if k.is_front && not (is_file_ended stage) then at_end k n stage else Err (after_cut n stage)

  -- what stands after the last line feed: nothing, or such a line
  abbrev pub after_last : Kind X → ℕ → Stage X → List ℕ → Result (File X) Refusal
  after_last k n stage [] = at_end k n stage
  after_last k n stage (b ∷ bs) = if is_long (b ∷ bs) then Err refusal.TooLong else at_cut k n stage

  -- Lines are judged one after the other, and the first refused one decides. One of more than 120 bytes is too long
  -- wherever it stands.
  unfoldable pub after_pieces : Kind X → ℕ → Stage X → List (List ℕ) → Result (File X) Refusal
  after_pieces k n stage [] = at_end k n stage
  after_pieces k n stage (last ∷ []) = after_last k n stage last
  after_pieces k n stage (line ∷ more ∷ rest) =
      if is_long line then Err refusal.TooLong
      else and_then (λ next. after_pieces k (n + 1) next (more ∷ rest)) (after_whole_line k n stage line)

  -- the rest of a text from its n-th line on, and a whole text
  abbrev pub after_text : Kind X → ℕ → Stage X → List ℕ → Result (File X) Refusal
  after_text k n stage text = after_pieces k n stage (pieces text)

  unfoldable pub file_of : Kind X → List ℕ → Result (File X) Refusal
  file_of k text = after_text k 1 begin text
