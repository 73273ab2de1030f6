-- The lines of a scenario, millisecond by millisecond. No worker occurs here, and no history.
use Rattle.std.specs.Prelude.{◌+◌, ◌-◌, ◌&&◌, ◌==◌, if◌then◌else◌, ◌∷◌, ◌++◌}
use Rattle.cmwq_sim.specs.Common.{ℕ, suc, Bool, not, List, [], length, drop, map, filter, find, count_by, Option, Some}
use Rattle.cmwq_sim.specs.Common.{None, nat_lt, list_any, fold, range_with_len}
use Rattle.cmwq_sim.specs.declared.scenario.LineKind.{LineKind}
use Rattle.cmwq_sim.specs.declared.scenario.LineKind.TheVariants as kind
use Rattle.cmwq_sim.specs.Plan.{Plan, Event, plan_queue, ms_of, plan_width, is_plan_intensive, is_of_plan_queue}
use Rattle.cmwq_sim.specs.Plan.{whole_time}

-- on the CPU's list: what is left of its burn, and the parts after that
pub record Job : Type 0 where
  pub item : ℕ
  pub burn : ℕ
  pub left : List ℕ

-- asleep: the time of waking, and the parts after that
pub record Sleeper : Type 0 where
  pub item : ℕ
  pub until : ℕ
  pub left : List ℕ

-- The lists at a moment. Of those that wait, ready are the ones that max_active lets start, in order, and after the
-- others, by number.
pub record Moment : Type 0 where
  pub ready : List ℕ
  pub behind : List ℕ
  pub cpu : List Job
  pub sleeping : List Sleeper
  pub lines : List Event

-- one line more
abbrev pub tell : ℕ → LineKind → List ℕ → Moment → Moment
tell t k is m = record m { lines = m.lines ++ record { at = t; kind = k; items = is } ∷ [] }

-- queued one after the other at 0: ready where fewer of its queue than max_active were queued before it
abbrev pub queue_item : Plan → Moment → ℕ → Moment
queue_item s m i =
    if nat_lt (count_by (is_of_plan_queue s (plan_queue s i)) (m.ready ++ m.behind)) (plan_width s (plan_queue s i))
    then record m { ready = m.ready ++ i ∷ [] }
    else record m { behind = m.behind ++ i ∷ [] }

abbrev pub empty : Moment
empty = record { ready = []; behind = []; cpu = []; sleeping = []; lines = [] }

abbrev pub plan_items : Plan → List ℕ
plan_items s = range_with_len 0 (length s.items)

abbrev pub queued_at_first : Plan → Moment
queued_at_first s = fold (queue_item s) empty (plan_items s)

-- where an item ends, the first of its queue that is after becomes ready
abbrev pub is_other_item : ℕ → ℕ → Bool
is_other_item i j = not (j == i)

abbrev pub make_ready : Moment → Option ℕ → Moment
make_ready m None = m
make_ready m (Some i) = record m { ready = m.ready ++ i ∷ []; behind = filter (is_other_item i) m.behind }

abbrev pub end_job : Plan → ℕ → Moment → Moment
end_job s i m = make_ready m (find (is_of_plan_queue s (plan_queue s i)) m.behind)

-- after a burn an item sleeps, or finishes if nothing is left
abbrev pub after_burn : Plan → ℕ → Moment → ℕ → List ℕ → Moment
after_burn s t m i [] = end_job s i (tell t kind.Ends (i ∷ []) m)
after_burn s t m i (pause ∷ left) =
    tell t kind.Sleeps (i ∷ [])
    (record m { sleeping = m.sleeping ++ record { item = i; until = t + pause; left = left } ∷ [] })

-- after a sleep it joins the CPU's list, or finishes if nothing is left
abbrev pub after_sleep : Plan → ℕ → Moment → ℕ → List ℕ → Moment
after_sleep s t m i [] = end_job s i (tell t kind.WakesEnds (i ∷ []) m)
after_sleep s t m i (burn ∷ left) =
    tell t kind.WakesBurns (i ∷ []) (record m { cpu = m.cpu ++ record { item = i; burn = burn; left = left } ∷ [] })

-- (1) the first of the CPU's list, if it has burnt its time
abbrev pub serve_first : Plan → ℕ → Moment → List Job → Moment
serve_first s t m [] = m
serve_first s t m (j ∷ cpu) = if j.burn == 0 then after_burn s t (record m { cpu = cpu }) j.item j.left else m

abbrev pub serve : Plan → ℕ → Moment → Moment
serve s t m = serve_first s t m m.cpu

-- (2) the sleepers whose time is over, by item number
abbrev pub is_due : ℕ → ℕ → Sleeper → Bool
is_due t i x = (x.item == i) && (x.until == t)

abbrev pub is_other_sleeper : ℕ → Sleeper → Bool
is_other_sleeper i x = is_other_item i x.item

abbrev pub wake_sleeper : Plan → ℕ → Moment → Option Sleeper → Moment
wake_sleeper s t m None = m
wake_sleeper s t m (Some x) =
    after_sleep s t (record m { sleeping = filter (is_other_sleeper x.item) m.sleeping }) x.item x.left

abbrev pub wake_item : Plan → ℕ → Moment → ℕ → Moment
wake_item s t m i = wake_sleeper s t m (find (is_due t i) m.sleeping)

abbrev pub wake_sleepers : Plan → ℕ → Moment → Moment
wake_sleepers s t m = fold (wake_item s t) m (plan_items s)

-- (3) of the ready items, in turn, those that start: while no item is on the CPU's list but of queues that are CPU
-- intensive
abbrev pub is_job_held : Plan → Job → Bool
is_job_held s j = not (is_plan_intensive s (plan_queue s j.item))

abbrev pub job_with : ℕ → List ℕ → Job
job_with i [] = record { item = i; burn = 0; left = [] }
job_with i (burn ∷ left) = record { item = i; burn = burn; left = left }

abbrev pub job_of : Plan → ℕ → Job
job_of s i = job_with i (ms_of s i)

unfoldable pub starting_items : Plan → List Job → List ℕ → List ℕ
starting_items s cpu [] = []
starting_items s cpu (i ∷ ready) = if list_any (is_job_held s) cpu then [] else i
    ∷ starting_items s (cpu ++ job_of s i ∷ []) ready

abbrev pub tell_starts : ℕ → List ℕ → Moment → Moment
tell_starts t [] m = m
tell_starts t (i ∷ is) m = tell t kind.Starts (i ∷ is) m

abbrev pub start_these : Plan → ℕ → Moment → List ℕ → Moment
start_these s t m is =
    tell_starts t is (record m { ready = drop (length is) m.ready; cpu = m.cpu ++ map (job_of s) is })

abbrev pub start : Plan → ℕ → Moment → Moment
start s t m = start_these s t m (starting_items s m.cpu m.ready)

-- then the first of the CPU's list burns
abbrev pub burn_first : List Job → List Job
burn_first [] = []
burn_first (j ∷ cpu) = record j { burn = j.burn - 1 } ∷ cpu

abbrev pub burn : Moment → Moment
burn m = record m { cpu = burn_first m.cpu }

abbrev pub millisecond : Plan → Moment → ℕ → Moment
millisecond s m t = burn (start s t (wake_sleepers s t (serve s t m)))

-- all has ended when as many have passed as the items have in all
unfoldable pub scenario_lines : Plan → List Event
scenario_lines s = (fold (millisecond s) (queued_at_first s) (range_with_len 0 (suc (whole_time s)))).lines
