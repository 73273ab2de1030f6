-- What is written of a service whose history is written while it is made.
use Rattle.std.specs.Prelude.{◌≡◌, ℕ, List, Option, length}
use Rattle.std.specs.Io.KnownBytes.{Appends}
use Rattle.cmwq_model.specs.Prelude.{Layout}
use Rattle.cmwq_model.specs.declared.entry.Entry.{Entry}
use Rattle.cmwq_text.specs.HistoryText.{text_of_format}
use Rattle.cmwq_service.specs.Serving.{Conduct, Ending, IsServed, ItemConduct}

-- the whole text of a history that a service leaves, of so many entries
abbrev pub WritesServed : Layout → ℕ → Conduct → Ending → ItemConduct → ℕ → Option (List ℕ) → Option (List ℕ) → Type 0
WritesServed s waits calls ends does entries a b = (history : List Entry) × IsServed s waits calls ends does history
    × (entries ≡ length history) × Appends a b (text_of_format 3 s history)
