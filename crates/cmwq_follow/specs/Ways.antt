-- A search for the schedule that left a history: the way that it goes, and what it has not tried.
use Rattle.std.specs.Prelude.{◌≡◌, ◌+◌, ◌++◌, ◌≤◌, ℕ, true, List, [], ◌∷◌, length, take}
use mathlib.Core.List.{IsPrefix}
use Rattle.cmwq_model.specs.declared.entry.Entry.{Entry}
use Rattle.cmwq_play.specs.Searches.{IsPathTo}
use Rattle.cmwq_play.specs.Stands.{Stand, may, moved}
use Rattle.cmwq_follow.specs.declared.search.Trial.{Trial}
use Rattle.cmwq_follow.specs.declared.search.Way.{Way}
use Rattle.cmwq_follow.specs.declared.search.Tried.{Tried}
use Rattle.cmwq_follow.specs.declared.search.Tried.TheVariants as tried
use Rattle.cmwq_follow.specs.Followed.{LeaveAtMost}

-- a party is left: neither the likely one nor one before the next
abbrev pub IsLeft : Tried → ℕ → Type 0
IsLeft tried.Nobody party = Unit {0}
IsLeft (tried.Others likely next) party = (next ≤ party) × (party ≡ likely → ⊥)

-- nothing is found from this stand by a move of those who are left
abbrev pub NoneLeft : List Entry → ℕ → Stand → Tried → Type 0
NoneLeft history most p t =
    (k : ℕ) → IsLeft t k → may p k ≡ true → LeaveAtMost (moved p k) history most

-- nor from any stand of the way through these moves: in the first one, those of the first are left, and so on
unfoldable pub NoneLeftAlong : List Entry → ℕ → Stand → List ℕ → List Tried → Type 0
NoneLeftAlong history most p path [] = Unit {0}
NoneLeftAlong history most p [] (t ∷ tries) = NoneLeft history most p t
NoneLeftAlong history most p (k ∷ path) (t ∷ tries) =
    NoneLeft history most p t × NoneLeftAlong history most (moved p k) path tries

-- The way leads to where the search stands, and what was left there is a part of the history, from its beginning. It is
-- known of each stand of the way who was tried. If nothing is found by those who are left, nothing is found at all.
pub record Leads (start : Stand) (history : List Entry) (most : ℕ) (path : List ℕ) (tries : List Tried) (p : Stand) :
    Type 0 where
  pub goes : IsPathTo start path p
  pub left : IsPrefix p.history.entries history
  pub part : p.history.entries ≡ history → ⊥
  pub long : length tries ≡ length path + 1
  pub rest : (m : ℕ) → most ≤ m → NoneLeftAlong history m start path tries → LeaveAtMost start history m

-- ---- the search

abbrev pub HasTried : Stand → List Entry → Way → List Tried → Stand → Type 0
HasTried start history way tries p = Leads start history way.most way.path.items tries p

abbrev pub IsUnderWay : Stand → List Entry → Way → Stand → Type 0
IsUnderWay start history way p = HasTried start history way way.tries.items p

-- so many entries of the play for tries are the first of the history
pub record IsKept (history : List Entry) (trial : Trial) : Type 0 where
  pub within : trial.kept ≤ length trial.play.history.entries
  pub same : IsPrefix (take trial.kept trial.play.history.entries) history

-- this party is to be tried: its turn is noted
pub record IsTrying (start : Stand) (history : List Entry) (way : Way) (p : Stand) (party : ℕ) : Type 0 where
  pub front : List Tried
  pub before : Tried
  pub noted : Tried
  pub leads : HasTried start history way (front ++ before ∷ []) p
  pub tries : way.tries.items ≡ front ++ noted ∷ []
  pub others : (m : ℕ) → (may p party ≡ true → LeaveAtMost (moved p party) history m) → NoneLeft history m p noted
      → NoneLeft history m p before

-- all were tried in the last stand, which is noted no more
pub record IsDeadEnd (start : Stand) (history : List Entry) (way : Way) (p : Stand) : Type 0 where
  pub last : Tried
  pub leads : HasTried start history way (way.tries.items ++ last ∷ []) p
  pub nobody : (m : ℕ) → NoneLeft history m p last
