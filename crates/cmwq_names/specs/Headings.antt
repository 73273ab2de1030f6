-- After which words the number of an item, a queue or a caller stands.
use Rattle.std.specs.Prelude.{ℕ, Bool, ◌==◌, if◌then◌else◌, List, [], ◌∷◌, Option, Some, None, codes}
use Rattle.std.specs.List.{ends_with, list_any}
use Rattle.cmwq_names.specs.declared.form.Form.{Form}
use Rattle.cmwq_names.specs.declared.form.Form.TheVariants.{Plain, Json, Xml}
use Rattle.cmwq_names.specs.declared.kind.Kind.{Kind}
use Rattle.cmwq_names.specs.declared.kind.Kind.TheVariants.{Item, Queue, Caller}

abbrev pub item_headings : Form → List (List ℕ)
item_headings Plain = codes "item " ∷ codes "flush_delayed " ∷ codes "cancel_sync " ∷ []
item_headings Json = codes "item " ∷ []
item_headings Xml = codes "<title>item " ∷ []

abbrev pub queue_headings : Form → List (List ℕ)
queue_headings Plain = codes "queue " ∷ codes "flush " ∷ codes "drain " ∷ codes "destroy " ∷ []
queue_headings Json = codes "\"queue " ∷ []
queue_headings Xml = codes "\">q" ∷ []

abbrev pub caller_headings : Form → List (List ℕ)
caller_headings Plain = codes "caller c" ∷ []
caller_headings Json = codes "\"c" ∷ []
caller_headings Xml = codes "\">c" ∷ codes "<title>c" ∷ []

abbrev pub is_heading : List ℕ → List ℕ → Bool
is_heading words heading = ends_with (λ a b. a == b) words heading

abbrev pub is_after : List ℕ → List (List ℕ) → Bool
is_after words headings = list_any (is_heading words) headings

abbrev pub kind_after : Form → List ℕ → Option Kind
kind_after form words =
    if is_after words (item_headings form) then Some Item
    else if is_after words (queue_headings form) then Some Queue
    else if is_after words (caller_headings form) then Some Caller
    else None
