-- What waits, and how many are active, refine a history.
use Rattle.cmwq_state.specs.Common.{ℕ, List, length, Entry, Layout, active_count, waiting_queueings, PwqState, count_at}
use Rattle.cmwq_state.specs.Common.{most_cpus}
use Rattle.std.specs.Prelude.{count_by, ◌≡◌, ◌*◌, ◌<◌}
use Rattle.cmwq_model.specs.Prelude.{is_active}
use Rattle.cmwq_theory_steps.specs.Places.{open_on}

-- the pwqs of a history; what its last pass made active doesn't matter
pub record ArePwqsOf (s : Layout) (past : List Entry) (l : PwqState) : Type 0 where
  pub items : l.items ≡ s.items
  pub many : length l.counts ≡ most_cpus * length s.queues
  pub waiting : l.waiting ≡ waiting_queueings s past
  pub counts : (q c : ℕ) → q < length s.queues → c < most_cpus → count_at l.counts q c ≡ active_count s past q c

-- how many queueings of a queue are active on a CPU
abbrev pub active_on : Layout → List Entry → ℕ → ℕ → ℕ
active_on s past q c = count_by (is_active s past) (open_on past q c)

-- these are the numbers of the active ones: for each queue as many as a shape may have CPUs
pub record AreActiveCounts (s : Layout) (past : List Entry) (counts : List ℕ) : Type 0 where
  pub many : length counts ≡ most_cpus * length s.queues
  pub each : (q c : ℕ) → q < length s.queues → c < most_cpus → count_at counts q c ≡ active_on s past q c
