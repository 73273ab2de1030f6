-- The room that a replay still needs.
use Rattle.std.specs.Prelude.{◌+◌, ◌*◌, ◌≤◌}
use Rattle.cmwq_sim.specs.Common.{ℕ, List, length, sum_by, Entry, room_needed}
use Rattle.cmwq_sim.specs.Plan.{Plan, ms_of}
use Rattle.cmwq_sim.specs.Lines.{Moment, Job, Sleeper}
use Rattle.cmwq_sim.specs.Shows.{layout_for}

-- how many parts are left: each sleep takes one
abbrev pub parts_at : Plan → ℕ → ℕ
parts_at s i = length (ms_of s i)

abbrev pub parts_of_job : Job → ℕ
parts_of_job j = length j.left

abbrev pub parts_of_sleeper : Sleeper → ℕ
parts_of_sleeper x = length x.left

abbrev pub parts_left : Plan → Moment → ℕ
parts_left s m =
    sum_by (parts_at s) m.ready + sum_by (parts_at s) m.behind + sum_by parts_of_job m.cpu + sum_by parts_of_sleeper
    m.sleeping

-- with what the parts that are left may still need, eight items of eight parts need no more than this
abbrev pub IsRoomy : Plan → List Entry → Moment → Type 0
IsRoomy s past m = room_needed (layout_for s) past + 2 * parts_left s m ≤ 152
