-- A text with names in place of numbers.
use Rattle.std.specs.Prelude.{ℕ, zero, suc, ◌*◌, ◌+◌, ◌-◌, Bool, true, false, ◌==◌, not, if◌then◌else◌, List, [], ◌∷◌}
use Rattle.std.specs.Prelude.{◌++◌, length, take, drop, min, Option, Some, None}
use Rattle.std.specs.List.{position}
use Rattle.std.specs.Option.{option_map_or}
use Rattle.std.specs.Char.{is_ascii_digit}
use Rattle.serde_json.specs.Data.{Data}
use Rattle.cmwq_names.specs.Escapes.{escaped}
use Rattle.cmwq_names.specs.Headings.{kind_after}
use Rattle.cmwq_names.specs.Labels.{beside, is_label, label}
use Rattle.cmwq_names.specs.Names.{name_of}
use Rattle.cmwq_names.specs.declared.form.Form.{Form}
use Rattle.cmwq_names.specs.declared.form.Form.TheVariants.{Xml}
use Rattle.cmwq_names.specs.declared.kind.Kind.{Kind}
use Rattle.cmwq_names.specs.declared.kind.Kind.TheVariants.{Queue, Caller}

-- ---- a number

-- what digits stand for, or 65536 if that is more, which is the number of nothing
abbrev pub with_digit : ℕ → ℕ → ℕ
with_digit n digit = min (n * 10 + (digit - 48)) 65536

unfoldable pub value_from : ℕ → List ℕ → ℕ
value_from n [] = n
value_from n (digit ∷ digits) = value_from (with_digit n digit) digits

-- How it is shown: by the name alone; or where a letter stands before it, as in `c0`, by the number and the name.
abbrev pub is_beside : Form → Kind → Bool
is_beside form Caller = true
is_beside Xml Queue = true
is_beside form kind = false

-- A row of a chart has little room for it.
abbrev pub with_name : Form → Bool → Kind → List ℕ → List ℕ → List ℕ
with_name form row kind digits name =
    if row then label kind digits name
    else if is_beside form kind then beside digits (escaped form name) else escaped form name

abbrev pub of_kind : Data → Form → Bool → List ℕ → Kind → List ℕ
of_kind script form row digits kind =
    option_map_or (with_name form row kind digits) (name_of script kind (value_from 0 digits)) digits

abbrev pub shown : Data → Form → List ℕ → List ℕ → List ℕ
shown script form words digits =
    option_map_or (of_kind script form (is_label form words) digits) (kind_after form words) digits

-- ---- a text: words, and a number after them, and what is left

abbrev pub is_no_digit : ℕ → Bool
is_no_digit byte = not (is_ascii_digit byte)

abbrev pub place_or_end : Option ℕ → List ℕ → ℕ
place_or_end None text = length text
place_or_end (Some n) text = n

abbrev pub first_digit : List ℕ → ℕ
first_digit text = place_or_end (position is_ascii_digit text) text

abbrev pub words_before : List ℕ → List ℕ
words_before text = take (first_digit text) text

abbrev pub from_digits : List ℕ → List ℕ
from_digits text = drop (first_digit text) text

-- a digit, and those that follow it
abbrev pub digits_end : List ℕ → ℕ
digits_end text = 1 + place_or_end (position is_no_digit (drop 1 text)) (drop 1 text)

abbrev pub digits_at : List ℕ → List ℕ
digits_at text = take (digits_end text) text

abbrev pub after_digits : List ℕ → List ℕ
after_digits text = drop (digits_end text) text

-- at most so many numbers are looked at
unfoldable pub named_first : ℕ → Data → Form → List ℕ → List ℕ
named_first zero script form text = text
named_first (suc n) script form text =
    if length (from_digits text) == 0 then text
    else words_before text ++ shown script form (words_before text) (digits_at (from_digits text))
    ++ named_first n script form (after_digits (from_digits text))

-- and in a text there are no more of them than bytes
abbrev pub named : Data → Form → List ℕ → List ℕ
named script form text = named_first (length text) script form text
