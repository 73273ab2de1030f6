-- What a law of histories ranges over.
use Rattle.std.specs.Prelude.{if◌then◌else◌, ◌∷◌}
use Rattle.cmwq_theory_steps.specs.Common.{Entry, Layout, IsLegal, ℕ, Bool, List, []}

-- a law of every legal history of every shape
abbrev pub OfLegal : (Layout → List Entry → Type 0) → Type 0
OfLegal Law = (s : Layout) (past : List Entry) → IsLegal s past → Law s past

-- what holds of each entry, wherever it stands, and of what lay before it
abbrev pub OfEachEntry : (List Entry → Entry → Type 0) → List Entry → Type 0
OfEachEntry Law [] = Unit {0}
OfEachEntry Law (e ∷ past) = Law past e × OfEachEntry Law past

-- what holds of each legal entry and what lay before it
abbrev pub OfEntries : (Layout → List Entry → Entry → Type 0) → Type 0
OfEntries P = (s : Layout) (past : List Entry) (e : Entry) → IsLegal s (e ∷ past) → P s past e

-- a number that counts one, or none
abbrev pub one : Bool → ℕ
one b = if b then 1 else 0
