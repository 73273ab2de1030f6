-- Histories that grow: what is older of a legal one is legal, and a longer one begins with it.
use Rattle.std.specs.Prelude.{◌≡◌, ◌∷◌, ◌++◌}
use Rattle.cmwq_theory_steps.specs.Common.{List, [], Entry, Layout, IsLegal, past_of}

-- a front of a legal history is legal
abbrev pub FrontsAreLegal : Type 0
FrontsAreLegal = (s : Layout) (front rest : List Entry) → IsLegal s (past_of (front ++ rest))
    → IsLegal s (past_of front)

-- the same with the newest first
abbrev pub OlderAreLegal : Type 0
OlderAreLegal = (s : Layout) (newer past : List Entry) → IsLegal s (newer ++ past) → IsLegal s past

-- one more entry stands at the end of the history, and before its past
abbrev pub OneMoreIsNewest : Type 0
OneMoreIsNewest = (entries : List Entry) (e : Entry) → past_of (entries ++ e ∷ []) ≡ e ∷ past_of entries

-- so a history with one more entry begins with the older one
abbrev pub LongerBeginWithOlder : Type 0
LongerBeginWithOlder = (older longer : List Entry) (e : Entry) → past_of longer ≡ e ∷ past_of older
    → longer ≡ older ++ e ∷ []
