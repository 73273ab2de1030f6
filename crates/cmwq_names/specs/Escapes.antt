-- A name as a form of text takes it.
use Rattle.std.specs.Prelude.{ℕ, zero, suc, ◌+◌, ◌/◌, ◌%◌, Bool, ◌==◌, ◌&&◌, ◌||◌, nat_le, nat_lt, if◌then◌else◌}
use Rattle.std.specs.Prelude.{List, [], ◌∷◌, ◌++◌, slice_index_or, flat_map, codes}
use Rattle.cmwq_names.specs.declared.form.Form.{Form}
use Rattle.cmwq_names.specs.declared.form.Form.TheVariants.{Plain, Json, Xml}

-- control characters, of which no form takes all, are escaped as in JSON
abbrev pub is_control : ℕ → Bool
is_control byte = nat_lt byte 32 || byte == 127

abbrev pub hex : ℕ → ℕ
hex digit = if nat_lt digit 10 then digit + 48 else digit + 87

abbrev pub control_text : ℕ → List ℕ
control_text byte = codes "\\u00" ++ hex (byte / 16) ∷ hex (byte % 16) ∷ []

-- in JSON, which may stand in HTML
abbrev pub in_json : ℕ → List ℕ
in_json byte =
    if byte == 34 then codes "\\\""
    else if byte == 92 then codes "\\\\"
    else if byte == 60 then codes "\\u003c"
    else byte ∷ []

abbrev pub in_xml : ℕ → List ℕ
in_xml byte =
    if byte == 38 then codes "&amp;"
    else if byte == 60 then codes "&lt;"
    else if byte == 62 then codes "&gt;"
    else if byte == 34 then codes "&quot;"
    else if byte == 39 then codes "&#39;"
    else byte ∷ []

abbrev pub in_form : Form → ℕ → List ℕ
in_form Plain byte = byte ∷ []
in_form Json byte = in_json byte
in_form Xml byte = in_xml byte

abbrev pub escaped_byte : Form → ℕ → List ℕ
escaped_byte form byte = if is_control byte then control_text byte else in_form form byte

-- those of two bytes, U+0080 to U+009F, and U+FFFE and U+FFFF, which are no characters of XML
abbrev pub is_upper_control : List ℕ → Bool
is_upper_control text =
    slice_index_or text 0 0 == 194 && (nat_le 128 (slice_index_or text 1 0) && nat_lt (slice_index_or text 1 0) 160)

abbrev pub is_no_character : List ℕ → Bool
is_no_character text =
    slice_index_or text 0 0 == 239
    && (slice_index_or text 1 0 == 191 && (slice_index_or text 2 0 == 190 || slice_index_or text 2 0 == 191))

-- the letter or the byte with which a text begins, and how many bytes more such a letter has
abbrev pub first_escaped : Form → List ℕ → List ℕ
first_escaped form text =
    if is_upper_control text then control_text (slice_index_or text 1 0)
    else if is_no_character text then (if slice_index_or text 2 0 == 190 then codes "\\ufffe" else codes "\\uffff")
    else escaped_byte form (slice_index_or text 0 0)

abbrev pub more_of_first : List ℕ → ℕ
more_of_first text = if is_upper_control text then 1 else if is_no_character text then 2 else 0

-- a text of whose first letter so many bytes are left, which are in no letter of their own
unfoldable pub escaped_behind : ℕ → Form → List ℕ → List ℕ
escaped_behind more form [] = []
escaped_behind (suc more) form (byte ∷ bytes) = escaped_behind more form bytes
escaped_behind zero form (byte ∷ bytes) =
    first_escaped form (byte ∷ bytes) ++ escaped_behind (more_of_first (byte ∷ bytes)) form bytes

abbrev pub escaped : Form → List ℕ → List ℕ
escaped form name = escaped_behind 0 form name

-- JSON in an element of HTML: what `<` begins in a string would else end the element
abbrev pub in_element : ℕ → List ℕ
in_element byte = if byte == 60 then codes "\\u003c" else byte ∷ []

-- the element of a page that has a script
abbrev pub script_element : List ℕ → List ℕ
script_element script =
    codes "<script type=\"application/json\" id=\"names\">" ++ flat_map in_element script ++ codes "</script>\n"
