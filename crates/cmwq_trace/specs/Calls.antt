-- The templates of the events of calls, by what they did and whether it was of an item.
use Rattle.std.specs.Prelude.{ℕ, List, Option, if◌then◌else◌, is_some}
use Rattle.cmwq_chart.specs.declared.signs.SignKind.{SignKind}
use Rattle.cmwq_chart.specs.declared.signs.SignKind.TheVariants as kind
use Rattle.cmwq_trace.specs.declared.calls.TheConstants as template

abbrev pub template_alone : SignKind → List ℕ
template_alone kind.Queued = template.QUEUED.now
template_alone kind.Delayed = template.DELAYED.now
template_alone kind.Fired = template.FIRED.now
template_alone kind.Cancelled = template.CANCELLED.now
template_alone kind.Waits = template.WAITS.now
template_alone kind.Tick = template.TICKS.now
template_alone kind.Changed = template.CHANGES.now
template_alone kind.Refused = template.REFUSED.now

abbrev pub template_of_item : SignKind → List ℕ
template_of_item kind.Queued = template.QUEUED_OF.now
template_of_item kind.Delayed = template.DELAYED_OF.now
template_of_item kind.Fired = template.FIRED_OF.now
template_of_item kind.Cancelled = template.CANCELLED_OF.now
template_of_item kind.Waits = template.WAITS_OF.now
template_of_item kind.Tick = template.TICKS_OF.now
template_of_item kind.Changed = template.CHANGES_OF.now
template_of_item kind.Refused = template.REFUSED_OF.now

abbrev pub call_template : SignKind → Option ℕ → List ℕ
call_template k item = if is_some item then template_of_item k else template_alone k
