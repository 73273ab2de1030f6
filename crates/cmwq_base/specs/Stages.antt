-- A stage of the reader as the definitions see it. What gathers the items is seen as a shape and a list.
use Rattle.std.specs.Prelude.{◌≡◌, ◌+◌, ◌≤◌}
use Rattle.cmwq_base.specs.Common.{ℕ, true, List, length, IsTrue, All, Layout, line_limit, room_limit, queue_limit}
use Rattle.cmwq_base.specs.Common.{allows_numbers, counts_in}
use Rattle.cmwq_base.specs.declared.stage.Stage.{Stage as ReaderStage}
use Rattle.cmwq_base.specs.declared.stage.Stage.TheVariants as reader
use Rattle.cmwq_base.specs.declared.stage.Contents.{Contents}
use Rattle.cmwq_base.specs.Files.{File, IsVersionOf, Kind, Stage, begin, opened, head, body, ended}

abbrev pub stage_of : {G X : Type 0} → (G → Layout) → (G → List X) → ReaderStage G → Stage X
stage_of layout items reader.Begin = begin
stage_of layout items (reader.Opened v) = opened v
stage_of layout items (reader.Head v counts queues) = head v counts queues.items
stage_of layout items (reader.Body v all) = body v (layout all) (items all)
stage_of layout items (reader.Ended v all) = ended v (layout all) (items all)

abbrev pub contents_of : {G X : Type 0} → (G → Layout) → (G → List X) → Contents G → File X
contents_of layout items c = record { version = c.version; layout = layout c.all; items = items c.all }

-- at least as many lines as it has taken (a format may be said before the shape line), that these are no more than a
-- file may have, that the format was said, that a file with a last line is of a format that has one, and that each item
-- fits the shape
abbrev pub lines_taken : {X : Type 0} → Stage X → ℕ
lines_taken begin = 0
lines_taken (opened v) = 1
lines_taken (head v counts queues) = 2 + length queues
lines_taken (body v s items) = 2 + length s.queues + length items
lines_taken (ended v s items) = 3 + length s.queues + length items

-- a first line says this format
pub record IsSaid {X : Type 0} (k : Kind X) (v : ℕ) : Type 0 where
  pub low : 2 ≤ v
  pub high : v ≤ 3
  pub line : List ℕ
  pub says : k.says_format v line ≡ true

abbrev pub IsWhole : {X : Type 0} → Kind X → ℕ → Layout → List X → Type 0
IsWhole k v s items = IsVersionOf k v × (length s.queues ≤ queue_limit v) × (s.room ≤ room_limit v)
    × IsTrue (allows_numbers v (counts_in s)) × (length items ≤ line_limit v) × All (λ x. IsTrue (k.fits_in s x)) items

abbrev pub IsStageWithin : {X : Type 0} → Kind X → Stage X → Type 0
IsStageWithin k begin = Unit {0}
IsStageWithin k (opened v) = IsSaid k v
IsStageWithin k (head v counts queues) = IsVersionOf k v × (length queues ≤ queue_limit v)
    × (counts.room ≤ room_limit v) × IsTrue (allows_numbers v counts)
IsStageWithin k (body v s items) = IsWhole k v s items
IsStageWithin k (ended v s items) = IsTrue (k.needs_end v) × IsWhole k v s items
