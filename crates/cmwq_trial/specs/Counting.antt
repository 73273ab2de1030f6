-- What came of many trials.
use Rattle.std.specs.Prelude.{◌≡◌, ◌+◌, ◌-◌, ◌<◌, ◌≤◌, ℕ, Bool, true, false, length, filter, if◌then◌else◌, nat_lt}
use Rattle.std.specs.Prelude.{Contains, List, [], ◌∷◌, Option, Some, None}
use Rattle.std.specs.List.{AllByRecursion}
use Rattle.cmwq_model.specs.Prelude.{Layout, past_of}
use Rattle.cmwq_core.specs.Relied.{IsReliable}
use Rattle.cmwq_trial.specs.Failing.{history_of, seed_of}
use Rattle.cmwq_trial.specs.declared.failure.Failure.{Failure}
use Rattle.cmwq_trial.specs.declared.failure.Failure.TheVariants.{Stopped, Stuck}
use Rattle.cmwq_trial.specs.declared.counting.Trials.{Trials}

abbrev pub is_stuck : Failure → Bool
is_stuck (Stuck _ _ _) = true
is_stuck (Stopped _ _ _) = false

abbrev pub has_stopped : Failure → Bool
has_stopped (Stuck _ _ _) = false
has_stopped (Stopped _ _ _) = true

-- a user may rely on the history of a failure
abbrev pub IsReliableOf : Layout → Failure → Type 0
IsReliableOf s failure = IsReliable s (past_of (history_of failure))

abbrev pub entries_of : Failure → ℕ
entries_of failure = length (history_of failure)

-- Failures under some of so many seeds from this one on, the last one first: each under a seed of its own.
abbrev pub AreFailures : Layout → ℕ → ℕ → List Failure → Type 0
AreFailures s from many [] = Unit {0}
AreFailures s from many (failure ∷ older) = IsReliableOf s failure × (from ≤ seed_of failure)
    × (seed_of failure < from + many) × AreFailures s from (seed_of failure - from) older

-- the first failure of all, after one more
abbrev pub first_of : Option Failure → Failure → Option Failure
first_of None failure = Some failure
first_of (Some first) _ = Some first

-- the failure under the least seed
abbrev pub first_in : List Failure → Option Failure
first_in [] = None
first_in (failure ∷ older) = first_of (first_in older) failure

-- none of these failures has fewer entries
abbrev pub HaveAsMany : ℕ → List Failure → Type 0
HaveAsMany n failures = AllByRecursion (λ failure. n ≤ entries_of failure) failures

-- a failure with the fewest entries of all, if the first one has more
abbrev pub IsShortest : List Failure → Option Failure → Option Failure → Type 0
IsShortest failures None None = Unit {0}
IsShortest failures None (Some _) = ⊥
IsShortest failures (Some first) None = HaveAsMany (entries_of first) failures
IsShortest failures (Some first) (Some shortest) = Contains failures shortest
    × (entries_of shortest < entries_of first) × HaveAsMany (entries_of shortest) failures

-- One trial for each of so many seeds from this one on, of which these failed: each is counted once, by how it ended.
-- The first failure is that under the least seed. Another one is kept if it is shorter, and none is shorter than that.
pub record AreTrials (s : Layout) (from many : ℕ) (t : Trials) : Type 0 where
  pub failures : List Failure
  pub are : AreFailures s from many failures
  pub ended : t.ended + length failures ≡ many
  pub stuck : t.stuck ≡ length (filter is_stuck failures)
  pub stopped : t.stopped ≡ length (filter has_stopped failures)
  pub first : t.first_failure ≡ first_in failures
  pub shortest : IsShortest failures t.first_failure t.shortest_failure

-- ---- one failure more

-- the shorter one of two that are kept
abbrev pub fewest_entries : Failure → Option Failure → ℕ
fewest_entries first None = entries_of first
fewest_entries first (Some shortest) = entries_of shortest

abbrev pub shortest_after : Failure → Option Failure → Failure → Option Failure
shortest_after first shortest failure =
    if nat_lt (entries_of failure) (fewest_entries first shortest) then Some failure else shortest

abbrev pub one_if : Bool → ℕ
one_if true = 1
one_if false = 0
