-- Scenarios and their lines, as plain values.
use Rattle.std.specs.Prelude.{ℕ, Bool, false, ◌==◌, List, [], slice_index_or, sum, map}
use Rattle.cmwq_sim.specs.declared.scenario.SimQueue.{SimQueue}
use Rattle.cmwq_sim.specs.declared.scenario.SimItem.{SimItem}
use Rattle.cmwq_sim.specs.declared.scenario.Scenario.{Scenario}
use Rattle.cmwq_sim.specs.declared.scenario.LineKind.{LineKind}
use Rattle.cmwq_sim.specs.declared.scenario.TableLine.{TableLine}

-- an item with its queue, and its burns and sleeps in turn
pub record Item : Type 0 where
  pub queue : ℕ
  pub ms : List ℕ

pub record Plan : Type 0 where
  pub queues : List SimQueue
  pub items : List Item

abbrev pub plan_item : SimItem → Item
plan_item x = record { queue = x.queue; ms = x.ms.items }

abbrev pub plan_of : Scenario → Plan
plan_of s = record { queues = s.queues.items; items = map plan_item s.items.items }

-- a line tells at what time what befell which items
pub record Event : Type 0 where
  pub at : ℕ
  pub kind : LineKind
  pub items : List ℕ

abbrev pub event_of : TableLine → Event
event_of l = record { at = l.at; kind = l.kind; items = l.items.items }

-- what stands for what the plan doesn't have
abbrev pub no_sim_queue : SimQueue
no_sim_queue = record { max_active = 0; intensive = false }

abbrev pub no_item : Item
no_item = record { queue = 0; ms = [] }

-- an item's queue and its parts, and what that queue is
abbrev pub plan_queue : Plan → ℕ → ℕ
plan_queue s i = (slice_index_or s.items i no_item).queue

abbrev pub ms_of : Plan → ℕ → List ℕ
ms_of s i = (slice_index_or s.items i no_item).ms

abbrev pub plan_width : Plan → ℕ → ℕ
plan_width s q = (slice_index_or s.queues q no_sim_queue).max_active

abbrev pub is_plan_intensive : Plan → ℕ → Bool
is_plan_intensive s q = (slice_index_or s.queues q no_sim_queue).intensive

abbrev pub is_of_plan_queue : Plan → ℕ → ℕ → Bool
is_of_plan_queue s q i = plan_queue s i == q

-- all of its time
abbrev pub time_of : Item → ℕ
time_of x = sum x.ms

abbrev pub whole_time : Plan → ℕ
whole_time s = sum (map time_of s.items)
