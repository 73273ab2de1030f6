-- Lists of items, by their numbers, as contracts see them.
use Rattle.std.specs.Prelude.{◌≡◌, ℕ, ◌<◌, Bool, true, false, not, List, [], ◌∷◌, ◌++◌, Option, map, filter, position}
use Rattle.std.specs.Prelude.{nat_eq, slice_index_or, slice_set}
use Rattle.std.specs.List.{list_any}

-- the lists, and how many items there are, whose numbers are below that
pub record Listed : Type 0 where
  pub items : ℕ
  pub lists : List (List ℕ)

abbrev pub list_at : List (List ℕ) → ℕ → List ℕ
list_at lists l = slice_index_or lists l []

abbrev pub has_item : ℕ → List ℕ → Bool
has_item i xs = list_any (nat_eq i) xs

-- no number comes twice
abbrev pub AreDistinct : List ℕ → Type 0
AreDistinct [] = Unit {0}
AreDistinct (x ∷ xs) = (has_item x xs ≡ false) × AreDistinct xs

-- the list that an item is in
abbrev pub list_of : List (List ℕ) → ℕ → Option ℕ
list_of lists i = position (has_item i) lists

abbrev pub without_item : ℕ → List ℕ → List ℕ
without_item i xs = filter (λ x. not (nat_eq i x)) xs

-- item i after all others of list l
abbrev pub lists_with : Listed → ℕ → ℕ → Listed
lists_with s l i = record s { lists = slice_set s.lists l (list_at s.lists l ++ i ∷ []) }

-- item i is in no list
abbrev pub lists_without : Listed → ℕ → Listed
lists_without s i = record s { lists = map (without_item i) s.lists }

-- no item is twice in a list, or in two lists, and each is one of the items
pub record AreListedOnce (s : Listed) : Type 0 where
  pub distinct : (l : ℕ) → AreDistinct (list_at s.lists l)
  pub apart : (i l m : ℕ) → has_item i (list_at s.lists l) ≡ true → has_item i (list_at s.lists m) ≡ true → l ≡ m
  pub known : (i l : ℕ) → has_item i (list_at s.lists l) ≡ true → i < s.items
