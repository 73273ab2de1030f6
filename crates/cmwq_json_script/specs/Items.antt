-- Items: each has a name of its own, and what it does.
use Rattle.cmwq_text.specs.Words.{◌>>=◌}
use Rattle.std.specs.Prelude.{if◌then◌else◌, ◌∷◌}
use Rattle.cmwq_json_script.specs.Common.{ℕ, List, [], Option, Some, None, codes, Data, get, has_keys, Named, nobody}
use Rattle.cmwq_json_script.specs.Common.{add_named}
use Rattle.cmwq_json_script.specs.declared.used.Used.{Used}
use Rattle.cmwq_json_script.specs.declared.action.Action.{Action}
use Rattle.cmwq_json_script.specs.declared.action.Actor.TheVariants.{Item}
use Rattle.cmwq_json_script.specs.Known.{Known, known_name}
use Rattle.cmwq_json_script.specs.Used.{none_used}
use Rattle.cmwq_json_script.specs.Actions.{Does, does_said}

abbrev pub item_said : Known → Used → Data → Option (List ℕ × Does)
item_said known used d =
    if has_keys (codes "does" ∷ codes "name" ∷ []) d then (do
      name ← known_name d
      actions ← get (codes "does") d
      does ← does_said Item known used actions
      Some (name, does))
    else None

-- the items so far, and the gates and locks that they use
pub record Work : Type 0 where
  pub items : Named (List Action)
  pub used : Used

abbrev pub no_work : Work
no_work = record { items = nobody; used = none_used }

abbrev pub add_item : ℕ → Known → Work → Data → Option Work
add_item most known before d = do
  said ← item_said known before.used d
  items ← add_named most before.items (said.0, said.1.actions)
  Some (record { items = items; used = said.1.used })
