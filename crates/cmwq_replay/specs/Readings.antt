-- What is read of a scenario, as plain values.
use Rattle.std.specs.Prelude.{◌≡◌}
use Rattle.cmwq_replay.specs.Common.{length, map, string_bytes, Item, plan_item, plan_of, IsWithinLimits, Named}
use Rattle.cmwq_replay.specs.Common.{map_named, named_of}
use Rattle.cmwq_sim.specs.declared.scenario.SimItem.{SimItem}
use Rattle.cmwq_json.specs.declared.names.Members.{Members}
use Rattle.cmwq_replay.specs.declared.scenario.ScenarioWithNames.{ScenarioWithNames}
use Rattle.cmwq_replay.specs.Scenarios.{PlanWithNames}

abbrev pub named_items : Members SimItem → Named Item
named_items m = map_named plan_item (named_of m)

abbrev pub with_names_of : ScenarioWithNames → PlanWithNames
with_names_of s = record { plan = plan_of s.scenario; names = map string_bytes s.names.items }

-- it may be replayed, and each item has a name
abbrev pub HasLimits : ScenarioWithNames → Type 0
HasLimits s = IsWithinLimits (plan_of s.scenario) × (length s.names.items ≡ length s.scenario.items.items)
