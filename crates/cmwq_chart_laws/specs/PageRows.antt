-- The rows of a page's entries tell the history.
use Rattle.std.specs.Prelude.{◌≡◌, List, true}
use Rattle.std.specs.List.{AllByRecursion}
use Rattle.cmwq_model.specs.Prelude.{IsLegal, Layout, is_layout, past_of}
use Rattle.cmwq_model.specs.Ranges.{IsCall, greatest_long}
use Rattle.cmwq_model.specs.declared.entry.Entry.{Entry}
use Rattle.cmwq_page.specs.Entries.{entries_text}

-- The numbers of each call are in the ranges of their types.
abbrev pub AreInRange : List Entry → Type 0
AreInRange entries = AllByRecursion (λ (e : Entry). IsCall greatest_long e.call) entries

-- Two legal histories of one layout that have the same rows are the same.
abbrev pub RowsTellHistories : Type 0
RowsTellHistories = (s : Layout) (entries others : List Entry) → is_layout s ≡ true → IsLegal s (past_of entries)
    → IsLegal s (past_of others) → AreInRange entries → AreInRange others
    → entries_text entries ≡ entries_text others → entries ≡ others
