-- What is read, as plain values.
use Rattle.cmwq_json.specs.Common.{Result, result_map_both}

-- what a reader answered, as a plain value
abbrev pub map_ok : {X Y E : Type 0} → (X → Y) → Result X E → Result Y E
map_ok f r = result_map_both f (λ e. e) r
