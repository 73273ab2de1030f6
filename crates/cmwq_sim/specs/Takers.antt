-- Which worker's take would start an item.
use Rattle.std.specs.Prelude.{◌≡◌, ◌<◌}
use Rattle.cmwq_sim.specs.Common.{ℕ, List, Option, Some, None, Entry, Worker, Layout, number_started, answer}
use Rattle.cmwq_model.specs.declared.call.Call.TheVariants as call
use Rattle.cmwq_sim.specs.Shows.{plan_worker}

-- what a take of the worker with this index would start
abbrev pub taken_by : Layout → List Entry → ℕ → Option ℕ
taken_by s past x = number_started (answer s past (Worker (plan_worker x)) call.Take)

pub record IsTaker (s : Layout) (past : List Entry) (x n : ℕ) : Type 0 where
  pub below : x < 8
  pub starts : taken_by s past x ≡ Some n

abbrev pub NoTaker : Layout → List Entry → ℕ → Type 0
NoTaker s past n = (x : ℕ) → x < n → taken_by s past x ≡ None
