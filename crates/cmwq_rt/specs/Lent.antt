-- What callers leave that are lent to runs that wait.
use Rattle.std.specs.Prelude.{◌≡◌}
use Rattle.cmwq_rt.specs.Common.{ℕ, zero, suc, true, Call, Reply, Layout, View, Completes}
use Rattle.cmwq_monitor.specs.Participants.{newcomer}
use Rattle.cmwq_rt.specs.Waiting.{is_wait}

-- so many waits of runs, one after another, each of them whole
abbrev pub WaitsInTurn : Layout → ℕ → View → View → Type 0
WaitsInTurn s zero v w = w ≡ v
WaitsInTurn s (suc n) v w = (before : View) × (c : Call) × (r : Reply) × WaitsInTurn s n v before
    × (is_wait c ≡ true) × Completes s before c r w

-- from the first on, a caller has made the entries of whole waits, and no others
pub record HasOnlyWaited (s : Layout) (v : View) : Type 0 where
  pub waits : ℕ
  pub in_turn : WaitsInTurn s waits (newcomer v.who) v
