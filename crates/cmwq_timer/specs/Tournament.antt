-- A tournament of the timers: of each sixteen nodes of a level, the next level keeps the one that fires first.
use Rattle.std.specs.Prelude.{◌≡◌, ◌≢◌, ℕ, zero, suc, ◌+◌, ◌*◌, ◌/◌, ◌<◌, ◌≤◌, Bool, true, false, List, [], ◌∷◌, length}
use Rattle.std.specs.Prelude.{Option, Some, None, option_map, IsTrue, if◌then◌else◌, slice_index_or}
use Rattle.cmwq_timer.specs.declared.timer.Timer.{Timer}
use Rattle.cmwq_timer.specs.declared.candidate.Candidate.{Candidate}
use Rattle.cmwq_timer.specs.declared.candidate.Known.{Known}
use Rattle.cmwq_timer.specs.declared.candidate.Known.TheVariants as known
use Rattle.cmwq_timer.specs.declared.candidate.First.{First}
use Rattle.cmwq_timer.specs.declared.candidate.First.TheVariants as change
use Rattle.cmwq_timer.specs.Due.{is_sooner}
use Rattle.cmwq_timer.specs.Rows.{TimerRows, timer_of}

-- the one of two that fires first
abbrev pub sooner : Option Candidate → Option Candidate → Option Candidate
sooner None other = other
sooner (Some first) None = Some first
sooner (Some first) (Some next) = if is_sooner next.timer first.timer then Some next else Some first

-- the nodes of a level; those of the lowest are the items that are booked
abbrev pub Nodes : Type 0
Nodes = ℕ → Option Candidate

abbrev pub node_at : List (Option Candidate) → Nodes
node_at level k = slice_index_or level k None

abbrev pub candidate_at : TimerRows → Nodes
candidate_at rows i = option_map (λ (t : Timer). record { item = record { 0 = i }; timer = t }) (timer_of rows i)

-- of the nodes from lo and below hi, the one that fires first
pub record IsSoonestOf (nodes : Nodes) (lo hi : ℕ) (c : Candidate) : Type 0 where
  pub at : ℕ
  pub from : lo ≤ at
  pub below : at < hi
  pub is : nodes at ≡ Some c
  pub none_sooner : (k : ℕ) (d : Candidate) → lo ≤ k → k < hi → nodes k ≡ Some d → is_sooner d.timer c.timer ≡ false

abbrev pub IsSoonest : Nodes → ℕ → ℕ → Option Candidate → Type 0
IsSoonest nodes lo hi None = (k : ℕ) → lo ≤ k → k < hi → nodes k ≡ None
IsSoonest nodes lo hi (Some c) = IsSoonestOf nodes lo hi c

-- one of these nodes keeps a candidate in place of another, and the others are as they were
pub record IsWritten (old new : Nodes) (at : ℕ) (was now : Option Candidate) : Type 0 where
  pub before : old at ≡ was
  pub behind : new at ≡ now
  pub others : (k : ℕ) → k ≢ at → new k ≡ old k

-- what is said to be known of the first of these nodes is so: of what it was before, and what was written
abbrev pub IsKnown : Nodes → ℕ → ℕ → Option Candidate → Option Candidate → Known → Type 0
IsKnown nodes lo hi first now known.Stays = IsSoonest nodes lo hi first
IsKnown nodes lo hi first now known.IsWritten = IsSoonest nodes lo hi now
IsKnown nodes lo hi first now known.Lost = Unit {0}

-- the first once that has become of it
abbrev pub first_after : Option Candidate → First → Option Candidate
first_after first change.Stays = first
first_after first (change.Becomes o) = o

-- a level above so many nodes
pub record IsLevel (many : ℕ) (below : Nodes) (level : List (Option Candidate)) : Type 0 where
  pub covers : many ≤ 16 * length level
  pub each : (k : ℕ) → k < length level → IsSoonest below (16 * k) (16 * k + 16) (node_at level k)

pub record AreLevels (rows : TimerRows) (lows middles highs : List (Option Candidate)) (top : Option Candidate) : Type 0
  where
    pub low : IsLevel (length rows) (candidate_at rows) lows
    pub middle : IsLevel (length lows) (node_at lows) middles
    pub high : IsLevel (length middles) (node_at middles) highs
    pub last : IsLevel (length highs) (node_at highs) (top ∷ [])

-- the node of a level that stands above an item
abbrev pub node_above : ℕ → ℕ → ℕ
node_above zero i = i
node_above (suc level) i = node_above level i / 16

abbrev pub any_timer : Timer → Bool
any_timer t = true

-- of the items that a place has and whose timers pass a test, the one that fires first
pub record IsFirstOf (passes : Timer → Bool) (rows : TimerRows) (HasItem : ℕ → Type 0) (c : Candidate) : Type 0 where
  pub booked : timer_of rows c.item.0 ≡ Some c.timer
  pub passing : IsTrue (passes c.timer)
  pub has : HasItem c.item.0
  pub none_sooner : (i : ℕ) (t : Timer) → timer_of rows i ≡ Some t → IsTrue (passes t) → HasItem i
      → is_sooner t c.timer ≡ false

abbrev pub IsFirst : (Timer → Bool) → TimerRows → (ℕ → Type 0) → Option Candidate → Type 0
IsFirst passes rows HasItem None = (i : ℕ) (t : Timer) → timer_of rows i ≡ Some t → IsTrue (passes t) → ¬ (HasItem i)
IsFirst passes rows HasItem (Some c) = IsFirstOf passes rows HasItem c

-- of the items below a node
abbrev pub IsFirstUnder : (Timer → Bool) → TimerRows → ℕ → ℕ → Option Candidate → Type 0
IsFirstUnder passes rows level node o = IsFirst passes rows (λ i. node_above level i ≡ node) o
