-- All items have ended when as many milliseconds have passed as they have in all, and each has one line that tells its
-- end.
use Rattle.std.specs.Prelude.{◌≡◌, ◌<◌, ◌&&◌, ◌==◌}
use Rattle.cmwq_sim.specs.Common.{ℕ, suc, Bool, true, false, [], length, count_by, fold, list_any, range_with_len}
use Rattle.cmwq_sim.specs.declared.scenario.LineKind.{LineKind}
use Rattle.cmwq_sim.specs.declared.scenario.LineKind.TheVariants as kind
use Rattle.cmwq_sim.specs.Plan.{Plan, Event, whole_time}
use Rattle.cmwq_sim.specs.Limits.{IsWithinLimits}
use Rattle.cmwq_sim.specs.Lines.{Moment, queued_at_first, millisecond, scenario_lines}

pub record NobodyIsLeft (m : Moment) : Type 0 where
  pub ready : m.ready ≡ []
  pub behind : m.behind ≡ []
  pub cpu : m.cpu ≡ []
  pub sleeping : m.sleeping ≡ []

-- the moment after so many milliseconds
abbrev pub moment_after : Plan → ℕ → Moment
moment_after s n = fold (millisecond s) (queued_at_first s) (range_with_len 0 n)

abbrev pub AllItemsEnd : Type 0
AllItemsEnd = (s : Plan) → IsWithinLimits s → NobodyIsLeft (moment_after s (suc (whole_time s)))

abbrev pub is_end_line : LineKind → Bool
is_end_line kind.WakesEnds = true
is_end_line kind.Ends = true
is_end_line k = false

abbrev pub tells_end : ℕ → Event → Bool
tells_end i e = is_end_line e.kind && list_any (λ j. j == i) e.items

abbrev pub EachEndsOnce : Type 0
EachEndsOnce = (s : Plan) (i : ℕ) → IsWithinLimits s → i < length s.items → count_by (tells_end i) (scenario_lines s)
    ≡ 1
