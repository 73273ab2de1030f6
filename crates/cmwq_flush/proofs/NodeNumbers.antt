-- The numbers of an item's two nodes, by age, as one is put in a list and taken out.
use Rattle.std.proofs.Common.{ap₂}
use Rattle.cmwq_flush.specs.Common.{◌≡◌, ◌≢◌, ◌⊎◌, ℕ, ◌<◌, Bool, true, false, not, cond, List, [], ◌∷◌, ◌++◌, length}
use Rattle.cmwq_flush.specs.Common.{set, Option, Some, None, sym, ap, refl, ◌∙◌, arith, ⊎_elim, map, Contains}
use Rattle.cmwq_flush.specs.Common.{nat_tests, cases_eq, range_with_len, get_or-set_same, get_or-set_other}
use Rattle.std.specs.Prelude.{◌&&◌, ◌||◌, nat_lt}
use Rattle.std.proofs.lemmas.Bool.{eq-eqb, ne_eqb}
use Rattle.std.proofs.lemmas.List.{length-set}
use Rattle.std.proofs.lemmas.List.FromFn.{fill_by_all, length-map-range_with_len, get_or-map-range_with_len}
use Rattle.cmwq_lemmas.proofs.Truth.{or_true, or_false, and_true, and_false}
use Rattle.cmwq_list.specs.Lists.{without_item, list_at}
use Rattle.cmwq_flush.specs.declared.openings.Row.{Row}
use Rattle.cmwq_flush.specs.Numbers.{AreRising, without}
use Rattle.cmwq_flush.specs.Rows.{no_row}
use Rattle.cmwq_flush.specs.ItemNumbers.{numbers_open}
use Rattle.cmwq_flush.specs.Openings.{is_node_listed, node_row, node_number, by_age, numbers_of_nodes, opened_by}
use Rattle.cmwq_flush.proofs.Nodes.{listed-pushed, listed-removed}

-- ---- of all items

pub opened_at : (lists : List (List ℕ)) (rows : List Row) (items i : ℕ) → i < items
    → numbers_open (opened_by lists rows items) i ≡ numbers_of_nodes lists rows i
opened_at lists rows items i lt =
    get_or-map-range_with_len (numbers_of_nodes lists rows) 0 items i i [] lt (omega arith)

pub item_inside : (lists : List (List ℕ)) (rows : List Row) (items i : ℕ) → i < length (opened_by lists rows items)
    → i < items
item_inside lists rows items i lt = let size = length-map-range_with_len (numbers_of_nodes lists rows) 0 items in
    omega arith

-- where those of one item alone change
pub opened_set : (f g : ℕ → List ℕ) (items i : ℕ) (ns : List ℕ) → i < items → f i ≡ ns → ((j : ℕ) → j ≢ i → f j ≡ g j)
    → map f (range_with_len 0 items) ≡ set (map g (range_with_len 0 items)) i ns
opened_set f g items i ns lt here others =
    let gs = map g (range_with_len 0 items) in
    let size = length-map-range_with_len g 0 items in
    sym (fill_by_all f (set gs i ns) items [] (length-set gs i ns ∙ size)
    (λ k inside. ⊎_elim (λ (same : k ≡ i). rw same (get_or-set_same gs i ns [] (omega arith) ∙ sym here))
    (λ (differs : k ≡ i → ⊥). get_or-set_other gs i k ns [] differs
    ∙ get_or-map-range_with_len g 0 items k k [] inside (omega arith) ∙ sym (others k differs)) (cases_eq k i)))

-- ---- by age

pub ordered : (a b : ℕ) (c : Bool) → nat_lt a b ≡ c → by_age (Some a) (Some b) ≡ cond c (a ∷ b ∷ []) (b ∷ a ∷ [])
ordered a b c e = ap (λ d. cond d (a ∷ b ∷ []) (b ∷ a ∷ [])) e

pub latest_first : (o : Option ℕ) (n : ℕ) → ((b : ℕ) → o ≡ Some b → b < n) → by_age (Some n) o ≡ by_age None o ++ n ∷ []
latest_first o n less = grind arith

pub latest_second : (a n : ℕ) → a < n → by_age (Some a) (Some n) ≡ by_age (Some a) None ++ n ∷ []
latest_second a n lt = ordered a n true (grind (arith, nat_tests))

alone : (n : ℕ) → [] ≡ without n (n ∷ [])
alone n = ap (λ b. cond (not b) (n ∷ []) []) (sym (eq-eqb n n refl))

other : (b n : ℕ) (c : Bool) → nat_lt n b ≡ c → b ≢ n → b ∷ [] ≡ without n (cond c (n ∷ b ∷ []) (b ∷ n ∷ []))
other b n c e differs = grind arith

pub ended_first : (o : Option ℕ) (n : ℕ) → ((b : ℕ) → o ≡ Some b → b ≢ n)
    → by_age None o ≡ without n (by_age (Some n) o)
ended_first o n differ = grind arith

another : (a n : ℕ) (c : Bool) → nat_lt a n ≡ c → a ≢ n → a ∷ [] ≡ without n (cond c (a ∷ n ∷ []) (n ∷ a ∷ []))
another a n c e differs = grind arith

pub ended_second : (o : Option ℕ) (n : ℕ) → ((a : ℕ) → o ≡ Some a → a ≢ n)
    → by_age o None ≡ without n (by_age o (Some n))
ended_second o n differ = grind arith

either : (a b n : ℕ) (c : Bool) → Contains (cond c (a ∷ b ∷ []) (b ∷ a ∷ [])) n → (a ≡ n) ⊎ (b ≡ n)
either a b n c found = grind arith

pub one_of : (o p : Option ℕ) (n : ℕ) → Contains (by_age o p) n → (o ≡ Some n) ⊎ (p ≡ Some n)
one_of o p n found = grind arith

pub numbers_rise : (o p : Option ℕ) → ((a b : ℕ) → o ≡ Some a → p ≡ Some b → a ≢ b) → AreRising (by_age o p)
numbers_rise o p differ = grind arith

-- ---- of one node

some_number : (b : Bool) (n m : ℕ) → cond b (Some n) None ≡ Some m → (b ≡ true) × (n ≡ m)
some_number b n m e = grind arith

none_number : (b : Bool) (n : ℕ) → cond b (Some n) None ≡ None → b ≡ false
none_number b n e = grind arith

pub some_at : (lists : List (List ℕ)) (rows : List Row) (v n : ℕ) → node_number lists rows v ≡ Some n
    → (is_node_listed lists v ≡ true) × ((node_row rows v).number ≡ n)
some_at lists rows v n e = some_number (is_node_listed lists v) (node_row rows v).number n e

pub none_at : (lists : List (List ℕ)) (rows : List Row) (v : ℕ) → node_number lists rows v ≡ None
    → is_node_listed lists v ≡ false
none_at lists rows v e = none_number (is_node_listed lists v) (node_row rows v).number e

pub number_at_listed : (lists : List (List ℕ)) (rows : List Row) (v : ℕ) → is_node_listed lists v ≡ true
    → node_number lists rows v ≡ Some (node_row rows v).number
number_at_listed lists rows v e = ap (λ b. cond b (Some (node_row rows v).number) None) e

pub number_at_free : (lists : List (List ℕ)) (rows : List Row) (v : ℕ) → is_node_listed lists v ≡ false
    → node_number lists rows v ≡ None
number_at_free lists rows v e = ap (λ b. cond b (Some (node_row rows v).number) None) e

module _ (lists : List (List ℕ)) (rows : List Row) (l v : ℕ) (r : Row) (lt : l < length lists) where
  pub number-pushed : v < length rows → node_number (set lists l (list_at lists l ++ v ∷ [])) (set rows v r) v
      ≡ Some r.number
  number-pushed inside =
      number_at_listed (set lists l (list_at lists l ++ v ∷ [])) (set rows v r) v
      (listed-pushed lists l v v lt ∙ ap (λ b. is_node_listed lists v || b) (eq-eqb v v refl)
      ∙ or_true (is_node_listed lists v))
      ∙ ap (λ (s : Row). Some s.number) (get_or-set_same rows v r no_row inside)

  pub number-kept : (w : ℕ) → w ≢ v → node_number (set lists l (list_at lists l ++ v ∷ [])) (set rows v r) w
      ≡ node_number lists rows w
  number-kept w differs =
      ap₂ (λ b (s : Row). cond b (Some s.number) None)
      (listed-pushed lists l v w lt ∙ ap (λ b. is_node_listed lists w || b) (ne_eqb w v differs)
      ∙ or_false (is_node_listed lists w)) (get_or-set_other rows v w r no_row differs)

module _ (lists : List (List ℕ)) (rows : List Row) (v : ℕ) where
  pub number-removed : node_number (map (without_item v) lists) rows v ≡ None
  number-removed =
      number_at_free (map (without_item v) lists) rows v
      (listed-removed lists v v ∙ ap (λ b. is_node_listed lists v && not b) (eq-eqb v v refl)
      ∙ and_false (is_node_listed lists v))

  pub number-stays : (w : ℕ) → w ≢ v → node_number (map (without_item v) lists) rows w ≡ node_number lists rows w
  number-stays w differs =
      ap (λ b. cond b (Some (node_row rows w).number) None)
      (listed-removed lists v w ∙ ap (λ b. is_node_listed lists w && not b) (ne_eqb w v differs)
      ∙ and_true (is_node_listed lists w))
