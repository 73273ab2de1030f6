-- The names that a script gives, or any other JSON object with such lists: each member of a list may have one.
use Rattle.std.specs.Prelude.{ℕ, List, Option, option_and_then, codes}
use Rattle.serde_json.specs.Data.{Data}
use Rattle.serde_json.specs.Find.{as_str, at, get}
use Rattle.cmwq_names.specs.declared.kind.Kind.{Kind}
use Rattle.cmwq_names.specs.declared.kind.Kind.TheVariants.{Item, Queue, Caller}

abbrev pub key : Kind → List ℕ
key Item = codes "items"
key Queue = codes "queues"
key Caller = codes "callers"

abbrev pub member_of : Data → Kind → ℕ → Option Data
member_of d k n = option_and_then (at n) (get (key k) d)

abbrev pub name_of : Data → Kind → ℕ → Option (List ℕ)
name_of d k n = option_and_then as_str (option_and_then (get (codes "name")) (member_of d k n))
