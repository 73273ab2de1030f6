-- What callers see of a judge: the entries that were right so far.
use Rattle.std.specs.Prelude.{◌∷◌, ◌++◌}
use Rattle.cmwq_core.specs.Common.{List, [], Entry, Layout}

-- the entries stand with the oldest first
pub record Judged : Type 0 where
  pub layout : Layout
  pub entries : List Entry

abbrev pub judged_none : Layout → Judged
judged_none s = record { layout = s; entries = [] }

abbrev pub seen_too : Judged → Entry → Judged
seen_too j e = record j { entries = j.entries ++ e ∷ [] }
