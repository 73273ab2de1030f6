-- What a legal history says is inside its layout, and its numbers are inside the ranges of their types: so it can be
-- written, and read again.
use Rattle.std.specs.Prelude.{◌≡◌, ◌≤◌}
use Rattle.cmwq_theory_laws.specs.Common.{ℕ, true, List, length, IsTrue, All, Entry, Layout, is_layout, entry_fits}
use Rattle.cmwq_theory_laws.specs.Common.{IsWho, IsCall, IsEntry, now, IsLegal, past_of, most_time, OfEntries}

-- the call of each entry fits, and the items and workers that its reply names are of the layout
abbrev pub EntriesFit : Type 0
EntriesFit = OfEntries (λ s past e. entry_fits s e ≡ true)

abbrev pub AllInRange : ℕ → List Entry → Type 0
AllInRange most entries = All (λ e. IsWho e.who × IsCall most e.call) entries

-- where the callers, workers and calls are in range, so are all serials and replies, up to as many entries as there are
-- numbers for them, and while the time is within its room
abbrev pub LegalHistoriesFit : Type 0
LegalHistoriesFit = (s : Layout) (most : ℕ) (entries : List Entry) → IsTrue (is_layout s) → IsLegal s (past_of entries)
    → length entries ≤ most → now (past_of entries) ≤ most_time → AllInRange most entries
    → All (λ e. IsTrue (entry_fits s e)) entries × All (IsEntry most) entries
