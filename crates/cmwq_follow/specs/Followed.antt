-- Which histories schedules leave.
use Rattle.std.specs.Prelude.{◌≡◌, ◌≤◌, ℕ, List, length, take}
use mathlib.Core.List.{IsPrefix}
use Rattle.cmwq_model.specs.declared.entry.Entry.{Entry}
use Rattle.cmwq_play.specs.Searches.{IsSchedule, after}
use Rattle.cmwq_play.specs.Stands.{Stand}
use Rattle.cmwq_follow.specs.declared.search.Followed.{Followed}
use Rattle.cmwq_follow.specs.declared.search.Followed.TheVariants as followed

-- this schedule leaves this history, and nothing else
pub record Leaves (start : Stand) (history : List Entry) (schedule : List ℕ) : Type 0 where
  pub goes : IsSchedule start schedule
  pub left : (after start schedule).history.entries ≡ history

-- No schedule leaves this history, and of none more first entries than so many are those of this history, also where a
-- move left others behind them.
abbrev pub LeaveAtMost : Stand → List Entry → ℕ → Type 0
LeaveAtMost start history most =
    (schedule : List ℕ) → IsSchedule start schedule → ((after start schedule).history.entries ≡ history → ⊥)
    × ((n : ℕ) → n ≤ length (after start schedule).history.entries
    → IsPrefix (take n (after start schedule).history.entries) history → n ≤ most)

abbrev pub IfPath : Followed → (List ℕ → Type 0) → Type 0
IfPath (followed.Path path) P = P path.items
IfPath f P = Unit {0}

abbrev pub IfBreaks : Followed → (ℕ → Type 0) → Type 0
IfBreaks (followed.Breaks most) P = P most
IfBreaks f P = Unit {0}
