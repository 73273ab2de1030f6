-- How long something went on: how many entries came while it did so, and how many ticks these let go by.
use Rattle.std.specs.Prelude.{Bool, if◌then◌else◌, List, [], ◌∷◌}
use Rattle.cmwq_model.specs.declared.id.WorkerId.{WorkerId}
use Rattle.cmwq_model.specs.declared.entry.Entry.{Entry}
use Rattle.cmwq_model.specs.Prelude.{runs_awake, runs_asleep}
use Rattle.cmwq_summary.specs.declared.span.Span.{Span}
use Rattle.cmwq_summary.specs.declared.span.TheConstants.{NO_TIME}
use Rattle.cmwq_summary.specs.declared.activity.Spent.{Spent}
use Rattle.cmwq_summary.specs.Spans.{passing, plus}

-- the sum over the entries before which this was so
unfoldable pub sum_while : (List Entry → Bool) → List Entry → Span
sum_while during [] = NO_TIME
sum_while during (e ∷ past) = plus (sum_while during past) (if during past then passing e else NO_TIME)

-- how long a worker's runs were awake, and how long they slept
abbrev pub awake : WorkerId → List Entry → Bool
awake w past = runs_awake past w

abbrev pub asleep : WorkerId → List Entry → Bool
asleep w past = runs_asleep past w

abbrev pub spent_by : List Entry → WorkerId → Spent
spent_by past w = record { awake = sum_while (awake w) past; asleep = sum_while (asleep w) past }
