-- What every reader of queues takes from a queue: its name, its max_active, and whether it is CPU intensive.
use Rattle.cmwq_json.specs.Common.{ℕ, Bool, List, Option, Some, None, option_and_then, codes, Data, get, as_bool}
use Rattle.cmwq_json.specs.Names.{name_said}
use Rattle.cmwq_json.specs.Numbers.{width_said}

abbrev pub with_parts : Option (List ℕ) → Option ℕ → Option Bool → Option (List ℕ × ℕ × Bool)
with_parts (Some name) (Some width) (Some intensive) = Some (name, width, intensive)
with_parts (Some name) (Some width) None = None
with_parts (Some name) None o = None
with_parts None w o = None

abbrev pub parts_said : Data → Option (List ℕ × ℕ × Bool)
parts_said d =
    with_parts (option_and_then name_said (get (codes "name") d))
    (option_and_then width_said (get (codes "max_active") d)) (option_and_then as_bool (get (codes "intensive") d))
