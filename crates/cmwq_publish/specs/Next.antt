-- What the next mark of a history says.
use Rattle.std.specs.Prelude.{◌≡◌, if◌then◌else◌, ◌∷◌}
use Rattle.cmwq_publish.specs.Common.{ℕ, Bool, List, option_map, ItemId, Entry, Mark, Layout, is_at, IsLegal, past_of}
use Rattle.cmwq_publish.specs.Common.{bits}

abbrev pub next_names : Mark → ℕ → Bool
next_names m i = is_at (option_map (λ (item : ItemId). item.0) m.item) i

-- the history is legal with the mark's entry, which leaves the mark's bits to the item that it names, and to each other
-- item its own
pub record IsNextMark (s : Layout) (log : List Entry) (m : Mark) : Type 0 where
  pub legal : IsLegal s (m.entry ∷ past_of log)
  pub bits_are : (i : ℕ) → bits (m.entry ∷ past_of log) i ≡ (if next_names m i then m.bits else bits (past_of log) i)
