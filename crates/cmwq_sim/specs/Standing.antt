-- What a replay stands at: its lists with the book's history show a moment of the plan, and there is room for what
-- comes.
use Rattle.std.specs.Prelude.{◌≡◌, ◌<◌, ◌-◌, ◌++◌, ◌∷◌}
use Rattle.cmwq_sim.specs.Common.{ℕ, [], List, length, map, drop, slice_index, AllByRecursion, past_in}
use Rattle.cmwq_sim.specs.declared.scenario.LineKind.TheVariants as kind
use Rattle.cmwq_sim.specs.declared.execution.Running.{Running}
use Rattle.cmwq_sim.specs.declared.execution.Asleep.{Asleep}
use Rattle.cmwq_sim.specs.declared.execution.Execution.{Execution}
use Rattle.cmwq_sim.specs.Plan.{Plan, Event, ms_of, event_of}
use Rattle.cmwq_sim.specs.Limits.{IsWithinLimits}
use Rattle.cmwq_sim.specs.Lines.{Moment, Job, Sleeper, job_of}
use Rattle.cmwq_sim.specs.Shows.{layout_for, Shows, moment_of}
use Rattle.cmwq_sim.specs.Rooms.{IsRoomy}

abbrev pub job_seen : Plan → Running → Job
job_seen s j = record { item = j.item; burn = j.burn; left = drop j.next (ms_of s j.item) }

abbrev pub sleeper_seen : Plan → Asleep → Sleeper
sleeper_seen s x = record { item = x.item; until = x.until; left = drop x.next (ms_of s x.item) }

abbrev pub moment_in : Plan → Execution → Moment
moment_in s r =
    moment_of s (past_in r.book) (map (job_seen s) r.cpu.items) (map (sleeper_seen s) r.sleeping.items)
    (map event_of r.lines.items)

abbrev pub slot_in : List ℕ → ℕ → ℕ
slot_in slots i = slice_index slots i

pub record Stands (s : Plan) (r : Execution) : Type 0 where
  pub limits : IsWithinLimits s
  pub layout : r.book.layout ≡ layout_for s
  pub room : r.book.room ≡ 1000
  pub shows : Shows s (past_in r.book) (moment_in s r) (slot_in r.slots)
  pub roomy : IsRoomy s (past_in r.book) (moment_in s r)
  pub slots : length r.slots ≡ 8
  pub seated : AllByRecursion (λ x. x < 8) r.slots

-- it stands, and at this moment
pub record StandsAt (s : Plan) (r : Execution) (m : Moment) : Type 0 where
  pub stands : Stands s r
  pub moment : moment_in s r ≡ m

-- one item has started
abbrev pub started_one : Plan → Moment → ℕ → Moment
started_one s m i = record m { ready = drop 1 m.ready; cpu = m.cpu ++ job_of s i ∷ [] }

-- one line for all that start
abbrev pub starts_lines : ℕ → List ℕ → List Event
starts_lines t [] = []
starts_lines t (i ∷ is) = record { at = t; kind = kind.Starts; items = i ∷ is } ∷ []

-- the first has a millisecond less to burn
abbrev pub LessFirst : List Running → List Running → Type 0
LessFirst [] ys = ys ≡ []
LessFirst (x ∷ xs) ys = ys ≡ record x { burn = x.burn - 1 } ∷ xs
