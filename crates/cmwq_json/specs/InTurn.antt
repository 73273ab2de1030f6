-- The items of an array taken in turn.
use Rattle.std.specs.Prelude.{◌+◌}
use Rattle.cmwq_json.specs.Common.{ℕ, Option, Result, Ok, Err, option_map_or, Data, Items, no_items, item}

-- Each item adds to what those before it said. The first that can't gives its place, counted on from n.
abbrev pub in_turn : {S : Type 0} → (S → Data → Option S) → ℕ → S → Items → Result S ℕ
in_turn adds n before no_items = Ok before
in_turn adds n before (item d ds) = option_map_or (λ after. in_turn adds (n + 1) after ds) (adds before d) (Err n)
