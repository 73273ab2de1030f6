-- What a JSON value says of a scenario, or which member of it is refused first.
use Rattle.std.specs.Prelude.{if◌then◌else◌, ◌∷◌, ◌++◌}
use Rattle.cmwq_replay.specs.Common.{ℕ, List, [], length, Option, Some, None, Result, Ok, Err, option_map}
use Rattle.cmwq_replay.specs.Common.{option_and_then, codes, nat_lt, Data, Items, get, as_str, as_array, SimQueue, Plan}
use Rattle.cmwq_replay.specs.Common.{Item, in_turn, has_keys, name_said, Named, nobody, number_of_name, add_named}
use Rattle.cmwq_replay.specs.Common.{is_in_range, number_between, parts_said}
use Rattle.cmwq_json.specs.declared.refused.Refused.{Refused}
use Rattle.cmwq_json.specs.Parts.{top, queues, items}

-- ---- a queue: its name, its max_active, and whether it is CPU intensive

abbrev pub sim_queue_said : Data → Option (List ℕ × SimQueue)
sim_queue_said d =
    if has_keys (codes "intensive" ∷ codes "max_active" ∷ codes "name" ∷ []) d
    then option_map (λ parts. (parts.0, record { max_active = parts.1; intensive = parts.2 })) (parts_said d)
    else None

abbrev pub add_sim_queue : Named SimQueue → Data → Option (Named SimQueue)
add_sim_queue before d = option_and_then (add_named 8 before) (sim_queue_said d)

-- ---- an item: its name, its queue, and its burns and sleeps in turn

abbrev pub add_part : List ℕ → Data → Option (List ℕ)
add_part before d = option_map (λ n. before ++ n ∷ []) (number_between 1 1000 d)

-- there are 1 to 8
abbrev pub if_few : Result (List ℕ) ℕ → Option (List ℕ)
if_few (Ok ms) = if is_in_range 1 8 (length ms) then Some ms else None
if_few (Err i) = None

abbrev pub ms_said : Data → Option (List ℕ)
ms_said d = option_and_then (λ ds. if_few (in_turn add_part 0 [] ds)) (as_array d)

abbrev pub queue_number : List (List ℕ) → Data → Option ℕ
queue_number queue_names d = option_and_then (number_of_name queue_names) (as_str d)

abbrev pub item_with : Option (List ℕ) → Option ℕ → Option (List ℕ) → Option (List ℕ × Item)
item_with (Some name) (Some queue) (Some ms) = Some (name, record { queue = queue; ms = ms })
item_with (Some name) (Some queue) None = None
item_with (Some name) None o = None
item_with None q o = None

abbrev pub sim_item_said : List (List ℕ) → Data → Option (List ℕ × Item)
sim_item_said queue_names d =
    if has_keys (codes "ms" ∷ codes "name" ∷ codes "queue" ∷ []) d
    then item_with (option_and_then name_said (get (codes "name") d))
    (option_and_then (queue_number queue_names) (get (codes "queue") d))
    (option_and_then ms_said (get (codes "ms") d))
    else None

abbrev pub add_sim_item : List (List ℕ) → Named Item → Data → Option (Named Item)
add_sim_item queue_names before d = option_and_then (add_named 8 before) (sim_item_said queue_names d)

-- ---- the whole

-- a plan, with the names of its items
pub record PlanWithNames : Type 0 where
  pub plan : Plan
  pub names : List (List ℕ)

-- the items are looked at once there is a queue and none is refused
abbrev pub script_with : Named SimQueue → Result (Named Item) ℕ → Result PlanWithNames Refused
script_with qs (Ok is) = Ok (record { plan = record { queues = qs.values; items = is.values }; names = is.names })
script_with qs (Err i) = Err (items i)

abbrev pub items_then : Items → Result (Named SimQueue) ℕ → Result PlanWithNames Refused
items_then is (Err i) = Err (queues i)
items_then is (Ok qs) = if nat_lt 0 (length qs.values) then script_with qs (in_turn (add_sim_item qs.names) 0 nobody is)
    else Err (queues 0)

abbrev pub lists_said : Option Items → Option Items → Result PlanWithNames Refused
lists_said (Some qs) (Some is) = items_then is (in_turn add_sim_queue 0 nobody qs)
lists_said (Some qs) None = Err top
lists_said None o = Err top

abbrev pub scenario_of : Data → Result PlanWithNames Refused
scenario_of d =
    if has_keys (codes "items" ∷ codes "queues" ∷ []) d
    then lists_said (option_and_then as_array (get (codes "queues") d))
    (option_and_then as_array (get (codes "items") d))
    else Err top
