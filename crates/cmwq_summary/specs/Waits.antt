-- How long was waited, by a key: the longest wait, and all together.
use Rattle.std.specs.Prelude.{◌≡◌, ℕ, ◌+◌, ◌*◌, ◌<◌, ◌≤◌, if◌then◌else◌, List, [], ◌∷◌, length, slice_index_or}
use Rattle.std.specs.Prelude.{slice_set, Option, Some, None}
use Rattle.cmwq_model.specs.declared.entry.Entry.{Entry}
use Rattle.cmwq_model.specs.Prelude.{is_at}
use Rattle.cmwq_summary.specs.declared.span.Span.{Span}
use Rattle.cmwq_summary.specs.declared.waits.Total.{Total}
use Rattle.cmwq_summary.specs.declared.waits.Waited.{Waited}
use Rattle.cmwq_summary.specs.declared.waits.TheConstants.{NOTHING}
use Rattle.cmwq_summary.specs.Spans.{longer}
use Rattle.cmwq_summary.specs.Tallies.{Key}

-- the wait that an entry ends, by the past before it
abbrev pub Wait : Type 0
Wait = List Entry → Entry → Span

abbrev pub plus_span : Total → Span → Total
plus_span t x = record { entries = t.entries + x.entries; ticks = t.ticks + x.ticks }

abbrev pub with_wait : Waited → Span → Waited
with_wait w x = record { longest = longer w.longest x; all = plus_span w.all x }

-- of the waits that are ended under this number
unfoldable pub waited : Key → Wait → List Entry → ℕ → Waited
waited key wait [] k = NOTHING
waited key wait (e ∷ past) k =
    if is_at (key past e) k then with_wait (waited key wait past k) (wait past e) else waited key wait past k

-- ---- a table has what was waited under each number

abbrev pub waited_at : List Waited → ℕ → Waited
waited_at rows k = slice_index_or rows k NOTHING

pub record IsFewTotal (past : List Entry) (t : Total) : Type 0 where
  pub entries : t.entries ≤ 4611686018427387904 * length past
  pub ticks : t.ticks ≤ 4611686018427387904 * length past

pub record AreWaits (key : Key) (wait : Wait) (many : ℕ) (past : List Entry) (rows : List Waited) : Type 0 where
  pub many_are : length rows ≡ many
  pub each : (k : ℕ) → k < many → waited_at rows k ≡ waited key wait past k
  pub few : (k : ℕ) → IsFewTotal past (waited_at rows k).all

-- the table after a wait under this number, where it has that
abbrev pub with_wait_at : List Waited → Option ℕ → Span → List Waited
with_wait_at rows None x = rows
with_wait_at rows (Some k) x = slice_set rows k (with_wait (waited_at rows k) x)

-- each sum has room for one wait more
pub record HasRoom (w : Waited) : Type 0 where
  pub entries : w.all.entries < 85070591730234615865843651857942052864
  pub ticks : w.all.ticks < 85070591730234615865843651857942052864

abbrev pub HaveRoom : List Waited → Type 0
HaveRoom rows = (k : ℕ) → HasRoom (waited_at rows k)
