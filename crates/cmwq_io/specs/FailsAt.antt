-- What a clause reads of a source or a sink that fails on purpose.
use Rattle.std.specs.Prelude.{ℕ, ◌-◌, nat_lt, if◌then◌else◌, List, Option, Some, None}
use Rattle.cmwq_io.specs.declared.trouble.Trouble.{Trouble}
use Rattle.cmwq_io.specs.declared.fails_at.Plan.{Plan}
use Rattle.cmwq_io.specs.declared.fails_at.FailsAt.{FailsAt}

abbrev pub failing_inner : {T : Type 0} → FailsAt T → T
failing_inner f = f.inner

abbrev pub failing_plan : {T : Type 0} → FailsAt T → Plan
failing_plan f = f.plan

abbrev pub failing_troubles : {T : Type 0} → FailsAt T → ℕ
failing_troubles f = f.troubles

abbrev pub failing_outcomes : {T : Type 0} → FailsAt T → List (Option Trouble)
failing_outcomes f = f.outcomes

-- the trouble that the next call answers
abbrev pub trouble_due : Plan → Option Trouble
trouble_due p = if nat_lt 0 p.before then None else if nat_lt 0 p.times then Some p.trouble else None

-- the plan after one more call
abbrev pub plan_after : Plan → Plan
plan_after p = if nat_lt 0 p.before then record p { before = p.before - 1 } else record p { times = p.times - 1 }
