-- Queues: each has a name of its own, its max_active and its flags. A freezable that is left out is false.
use Rattle.cmwq_text.specs.Words.{◌>>=◌}
use Rattle.std.specs.Prelude.{if◌then◌else◌, ◌∷◌}
use Rattle.cmwq_json_script.specs.Common.{ℕ, Bool, false, List, [], Option, Some, None, codes, option_map_or, Data, get}
use Rattle.cmwq_json_script.specs.Common.{as_bool, QueueShape, has_keys_with_optional, Named, add_named, parts_said}

abbrev pub has_queue_keys : Data → Bool
has_queue_keys =
    has_keys_with_optional (codes "high" ∷ codes "intensive" ∷ codes "max_active" ∷ codes "name" ∷ [])
    (codes "freezable" ∷ [])

abbrev pub freezable_said : Data → Option Bool
freezable_said d = option_map_or as_bool (get (codes "freezable") d) (Some false)

abbrev pub queue_said : Data → Option (List ℕ × QueueShape)
queue_said d =
    if has_queue_keys d then (do
      parts ← parts_said d
      flag ← get (codes "high") d
      high ← as_bool flag
      freezable ← freezable_said d
      Some (parts.0, record { max_active = parts.1; high = high; intensive = parts.2; freezable = freezable }))
    else None

abbrev pub add_queue : ℕ → Named QueueShape → Data → Option (Named QueueShape)
add_queue most before d = do
  queue ← queue_said d
  add_named most before queue
