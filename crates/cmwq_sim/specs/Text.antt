-- The text of lines: a heading, and then for each line its time, a tab, and what befell whom.
use Rattle.std.specs.Prelude.{◌∷◌, ◌++◌}
use Rattle.cmwq_sim.specs.Common.{ℕ, Bool, true, false, List, [], length, slice_index_or, nat_lt, codes, decimal}
use Rattle.cmwq_sim.specs.Common.{flat_map}
use Rattle.cmwq_sim.specs.declared.scenario.LineKind.{LineKind}
use Rattle.cmwq_sim.specs.declared.scenario.LineKind.TheVariants as kind
use Rattle.cmwq_sim.specs.Plan.{Event}

abbrev pub name_at : List (List ℕ) → ℕ → List ℕ
name_at names i = slice_index_or names i []

-- another name, after those before it
abbrev pub and_name : List (List ℕ) → ℕ → List ℕ
and_name names i = codes " and " ++ name_at names i

abbrev pub item_names_text : List (List ℕ) → List ℕ → List ℕ
item_names_text names [] = []
item_names_text names (i ∷ is) = name_at names i ++ flat_map (and_name names) is

-- what befell one, or more than one: only starts are told together
abbrev pub deed_text : LineKind → Bool → List ℕ
deed_text kind.Starts false = codes " starts and burns CPU"
deed_text kind.Starts true = codes " start and burn CPU"
deed_text kind.Sleeps many = codes " sleeps"
deed_text kind.WakesBurns many = codes " wakes up and burns CPU"
deed_text kind.WakesEnds many = codes " wakes up and finishes"
deed_text kind.Ends many = codes " finishes"

-- 9 is the tab and 10 the line feed
abbrev pub event_text : List (List ℕ) → Event → List ℕ
event_text names e = decimal e.at ++ 9 ∷ [] ++ item_names_text names e.items
    ++ deed_text e.kind (nat_lt 1 (length e.items)) ++ 10 ∷ []

abbrev pub heading : List ℕ
heading = codes "TIME IN MSECS" ++ 9 ∷ [] ++ codes "EVENT" ++ 10 ∷ []

abbrev pub lines_text : List (List ℕ) → List Event → List ℕ
lines_text names es = heading ++ flat_map (event_text names) es
