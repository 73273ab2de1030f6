-- Lists read from the front on: a reader gives a value and what is left of the list, if it can.
use Rattle.cmwq_text.specs.Words.{◌>>=◌}
use Rattle.std.specs.Prelude.{if◌then◌else◌}
use Rattle.cmwq_json_script.specs.Common.{Bool, true, false, Option, Some, None, Data, Items, no_items, item, as_str}
use Rattle.cmwq_json_script.specs.declared.word.Word.{Word}
use Rattle.cmwq_json_script.specs.Words.{word_of}

abbrev pub first_item : Items → Option (Data × Items)
first_item no_items = None
first_item (item d ds) = Some (d, ds)

abbrev pub has_no_item : Items → Bool
has_no_item no_items = true
has_no_item (item d ds) = false

-- what is read where nothing is left
abbrev pub whole : {A : Type 0} → Option (A × Items) → Option A
whole read = do
  a ← read
  if has_no_item a.1 then Some a.0 else None

-- what the first of a list says
abbrev pub part_in : {A : Type 0} → (Data → Option A) → Items → Option (A × Items)
part_in says ds = do
  d ← first_item ds
  a ← says d.0
  Some (a, d.1)

abbrev pub word_said : Data → Option Word
word_said d = do
  bytes ← as_str d
  word_of bytes

abbrev pub word_of_items : Items → Option (Word × Items)
word_of_items ds = part_in word_said ds

-- values that stand after one another, and what is made of them
abbrev pub items_none : {Y : Type 0} → Y → Items → Option (Y × Items)
items_none y ds = Some (y, ds)

abbrev pub items_one : {A Y : Type 0} → (Data → Option A) → (A → Y) → Items → Option (Y × Items)
items_one says make ds = do
  a ← part_in says ds
  Some (make a.0, a.1)

abbrev pub items_two : {A B Y : Type 0} → (Data → Option A) → (Data → Option B) → (A → B → Y) → Items
    → Option (Y × Items)
items_two says_a says_b make ds = do
  a ← part_in says_a ds
  b ← part_in says_b a.1
  Some (make a.0 b.0, b.1)

abbrev pub items_three : {A B C Y : Type 0} → (Data → Option A) → (Data → Option B) → (Data → Option C)
    → (A → B → C → Y) → Items → Option (Y × Items)
items_three says_a says_b says_c make ds = do
  a ← part_in says_a ds
  b ← part_in says_b a.1
  c ← part_in says_c b.1
  Some (make a.0 b.0 c.0, c.1)

abbrev pub items_four : {A B C D Y : Type 0} → (Data → Option A) → (Data → Option B) → (Data → Option C)
    → (Data → Option D) → (A → B → C → D → Y) → Items → Option (Y × Items)
items_four says_a says_b says_c says_d make ds = do
  a ← part_in says_a ds
  b ← part_in says_b a.1
  c ← part_in says_c b.1
  d ← part_in says_d c.1
  Some (make a.0 b.0 c.0 d.0, d.1)
