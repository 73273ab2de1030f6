-- The name of a row of a chart. There is little room for it, so a row shows the front of a long one, and its tooltip all
-- of it.
use Rattle.std.specs.Prelude.{ℕ, zero, suc, ◌-◌, ◌/◌, ◌==◌, Bool, false, nat_le, if◌then◌else◌, List, [], ◌∷◌, ◌++◌}
use Rattle.std.specs.Prelude.{length, take, slice_index_or, codes}
use Rattle.cmwq_names.specs.Escapes.{escaped}
use Rattle.cmwq_names.specs.Headings.{is_after}
use Rattle.cmwq_names.specs.declared.form.Form.{Form}
use Rattle.cmwq_names.specs.declared.form.Form.TheVariants.{Xml}
use Rattle.cmwq_names.specs.declared.kind.Kind.{Kind}
use Rattle.cmwq_names.specs.declared.kind.Kind.TheVariants.{Item, Queue, Caller}

abbrev pub label_headings : List (List ℕ)
label_headings = codes "\">q" ∷ codes "\">c" ∷ []

abbrev pub is_label : Form → List ℕ → Bool
is_label Xml words = is_after words label_headings
is_label form words = false

-- for how many bytes there is room: the CPU follows the name of a queue
abbrev pub room_of : Kind → ℕ
room_of Queue = 6
room_of Item = 12
room_of Caller = 12

-- A byte that is not the first of its letter is 128 to 191. A front of at most so many bytes has whole letters alone.
abbrev pub is_inner : ℕ → Bool
is_inner byte = byte / 64 == 2

unfoldable pub whole_front : List ℕ → ℕ → ℕ
whole_front name zero = zero
whole_front name (suc n) = if is_inner (slice_index_or name (suc n) 0) then whole_front name n else suc n

abbrev pub beside : List ℕ → List ℕ → List ℕ
beside digits name = digits ++ codes " (" ++ name ++ codes ")"

abbrev pub cut_label : List ℕ → List ℕ → ℕ → List ℕ
cut_label digits name most =
    digits ++ codes " (" ++ escaped Xml (take (whole_front name most) name) ++ codes "..)<title>" ++ escaped Xml name
    ++ codes "</title>"

abbrev pub label : Kind → List ℕ → List ℕ → List ℕ
label kind digits name =
    if nat_le (length name) (room_of kind) then beside digits (escaped Xml name)
    else cut_label digits name (room_of kind - 2)
