-- What callers see of a summary: the shape, and all entries that it took, the oldest first.
use Rattle.std.specs.Prelude.{◌≡◌, ◌<◌, ◌≤◌, true, List, ◌∷◌, ◌++◌, [], length}
use Rattle.cmwq_model.specs.declared.entry.Entry.{Entry}
use Rattle.cmwq_model.specs.Prelude.{Layout, is_layout, now, past_of}
use Rattle.cmwq_state.specs.Effects.{IsEffect}
use Rattle.cmwq_state.specs.declared.effect.Effect.{Effect}
use Rattle.cmwq_summary.specs.declared.span.Span.{Span}
use Rattle.cmwq_summary.specs.Spans.{behind}

pub record Summed : Type 0 where
  pub layout : Layout
  pub entries : List Entry

abbrev pub past_summed : Summed → List Entry
past_summed h = past_of h.entries

abbrev pub summed_with : Summed → Entry → Summed
summed_with h e = record h { entries = h.entries ++ e ∷ [] }

-- it is the effect of the next entry of a legal history, in a layout inside the limits, whose entries and ticks are few
pub record IsNext (s : Layout) (past : List Entry) (t : Effect) : Type 0 where
  pub inside : is_layout s ≡ true
  pub effect : IsEffect s past t
  pub few : length past < 4611686018427387904
  pub soon : now (t.entry ∷ past) ≤ 4611686018427387904

-- a part may go on with such an entry, after which it is now, if it is that of the past, and is that of the past with
-- the entry then
pub record MayGoOn {X : Type 0} (P : Layout → List Entry → X → Type 0) (t : Effect) (to : Span) (old : X) : Type 0 where
  pub layout : Layout
  pub past : List Entry
  pub next : IsNext layout past t
  pub now_is : to ≡ behind (t.entry ∷ past)
  pub are : P layout past old

abbrev pub GoOn : {X : Type 0} → (Layout → List Entry → X → Type 0) → Effect → Span → X → X → Type 0
GoOn P t to old new =
    (s : Layout) (past : List Entry) → IsNext s past t → to ≡ behind (t.entry ∷ past) → P s past old
    → P s (t.entry ∷ past) new
