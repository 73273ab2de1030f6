-- What contracts see of a caller or a worker of a hub.
use Rattle.std.specs.Prelude.{◌≡◌, ◌+◌, ◌≤◌, ◌++◌}
use Rattle.cmwq_monitor.specs.Common.{ℕ, Bool, true, false, List, [], length, filter, IsPrefix, Who, Caller, Worker}
use Rattle.cmwq_monitor.specs.Common.{Entry, is_by}

-- who it is, how many entries it made, and the history as far as it has seen it, with the oldest entry first
pub record View : Type 0 where
  pub who : Who
  pub serial : ℕ
  pub seen : List Entry

abbrev pub newcomer : Who → View
newcomer who = record { who = who; serial = 0; seen = [] }

abbrev pub is_caller : Who → Bool
is_caller (Caller c) = true
is_caller (Worker w) = false

-- the entries of one who, in order
abbrev pub made_by : Who → List Entry → List Entry
made_by who entries = filter (is_by who) entries

-- of two views of one history the shorter begins the longer
abbrev pub Agree : List Entry → List Entry → Type 0
Agree a b = (length a ≤ length b → IsPrefix a b) × (length b ≤ length a → IsPrefix b a)

-- What it sees now begins with what it had seen, and of its own entries it has made these since.
pub record Gains (v : View) (new : List Entry) (w : View) : Type 0 where
  pub same : w.who ≡ v.who
  pub serial : w.serial ≡ v.serial + length new
  pub older : IsPrefix v.seen w.seen
  pub made : made_by v.who w.seen ≡ made_by v.who v.seen ++ new
