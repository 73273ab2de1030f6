-- The order of a pool's worklist.
use Rattle.std.specs.Prelude.{◌≡◌, ◌<◌, ◌⊎◌, if◌then◌else◌, ◌∷◌}
use Rattle.cmwq_theory_steps.specs.Common.{ℕ, true, List, [], length, Option, Some, None, Contains, AllByRecursion}
use Rattle.cmwq_theory_steps.specs.Common.{option_or, PoolId, Entry, Queueing, Layout, queueings, is_active, is_listed}
use Rattle.cmwq_theory_steps.specs.Common.{worklist}

-- the length of the first prefix of the history in which the queueing is active
unfoldable pub since : Layout → List Entry → Queueing → Option ℕ
since s [] x = None
since s (e ∷ past) x = option_or (since s past x) (if is_active s (e ∷ past) x then Some (length (e ∷ past)) else None)

-- x became active before y, or by the same event and has the lesser number
pub record IsSooner (s : Layout) (past : List Entry) (x y : Queueing) : Type 0 where
  pub x_since : ℕ
  pub y_since : ℕ
  pub x_is : since s past x ≡ Some x_since
  pub y_is : since s past y ≡ Some y_since
  pub order : (x_since < y_since) ⊎ ((x_since ≡ y_since) × (x.number < y.number))

abbrev pub AreInOrder : Layout → List Entry → List Queueing → Type 0
AreInOrder s past [] = Unit {0}
AreInOrder s past (x ∷ xs) = AllByRecursion (IsSooner s past x) xs × AreInOrder s past xs

-- a pool's worklist has its active queueings that haven't started, and no others, each before those that are later
pub record IsWorklist (s : Layout) (past : List Entry) (p : PoolId) (xs : List Queueing) : Type 0 where
  pub all_stand : AllByRecursion (λ x. is_listed s past p x ≡ true → Contains xs x) (queueings past)
  pub no_others : AllByRecursion (λ x. Contains (queueings past) x × (is_listed s past p x ≡ true)) xs
  pub in_order : AreInOrder s past xs

abbrev pub WorklistsAreInOrder : Type 0
WorklistsAreInOrder = (s : Layout) (past : List Entry) (p : PoolId) → IsWorklist s past p (worklist s past p)
