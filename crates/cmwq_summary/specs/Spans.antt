-- Spans of a history, in entries and in ticks, and its moments: how many there were until then.
use Rattle.std.specs.Prelude.{ℕ, ◌+◌, ◌-◌, ◌≤◌, ◌==◌, if◌then◌else◌, max, List, [], ◌∷◌, length}
use Rattle.cmwq_model.specs.declared.entry.Entry.{Entry}
use Rattle.cmwq_model.specs.Prelude.{now, ticks_told}
use Rattle.cmwq_summary.specs.declared.span.Span.{Span}
use Rattle.cmwq_summary.specs.declared.span.TheConstants.{NO_TIME}

abbrev pub plus : Span → Span → Span
plus a b = record { entries = a.entries + b.entries; ticks = a.ticks + b.ticks }

abbrev pub stretch : Span → Span → Span
stretch from to = record { entries = to.entries - from.entries; ticks = to.ticks - from.ticks }

-- of both the more entries, and the more ticks
abbrev pub longer : Span → Span → Span
longer a b = record { entries = max a.entries b.entries; ticks = max a.ticks b.ticks }

-- no more entries, and no more ticks
pub record IsWithin (a b : Span) : Type 0 where
  pub entries : a.entries ≤ b.entries
  pub ticks : a.ticks ≤ b.ticks

-- so few that there is room for as many again
pub record IsSmall (a : Span) : Type 0 where
  pub entries : a.entries ≤ 4611686018427387904
  pub ticks : a.ticks ≤ 4611686018427387904

-- ---- moments

-- what goes by with an entry
abbrev pub passing : Entry → Span
passing e = record { entries = 1; ticks = ticks_told e.call }

-- the moment after a past
abbrev pub behind : List Entry → Span
behind past = record { entries = length past; ticks = now past }

-- the moment after the entry with this number, and what went by since then
unfoldable pub moment : List Entry → ℕ → Span
moment [] n = NO_TIME
moment (e ∷ past) n = if n == length past then behind (e ∷ past) else moment past n

abbrev pub since : List Entry → ℕ → Span
since past n = stretch (moment past n) (behind past)
