-- Which nodes are in lists, as one is put in and taken out.
use Rattle.cmwq_flush.specs.Common.{◌≡◌, ◌≢◌, ℕ, ◌+◌, ◌<◌, Bool, ⊎_elim, cases_eq, true, false, not, cond, List, []}
use Rattle.cmwq_flush.specs.Common.{◌∷◌, ◌++◌, length, get_or, set, zero, suc, Some, None, is_some, sym, ap, refl, ◌∙◌}
use Rattle.cmwq_flush.specs.Common.{arith, map, All, Contains, false≢true, get_or-map, length-map, map-set, map_push}
use Rattle.cmwq_flush.specs.Common.{get_or-set_same, get_or-set_other, position_or_len}
use Rattle.std.specs.Prelude.{◌&&◌, ◌||◌, nat_eq, nat_lt, slice_get}
use Rattle.std.specs.List.{list_any}
use Rattle.std.proofs.lemmas.List.{length-set, ext_get_or}
use Rattle.std.proofs.lemmas.Bool.{or_parts, or_right, eq-eqb, eqb-true, eqb-false}
use Rattle.cmwq_list.specs.Lists.{has_item, without_item, list_at, list_of}
use Rattle.cmwq_list.proofs.Members.{has-push, has-without}
use Rattle.cmwq_flush.specs.declared.openings.Row.{Row}
use Rattle.cmwq_flush.specs.Rows.{no_row, number_of_row, row_numbers, rows_at, is_other_row, without_row}
use Rattle.cmwq_flush.specs.Openings.{is_node_listed, node_row, rows_of_nodes}

-- one list alone is changed by a map
pub set_one : {X : Type 0} (f : List X → List X) (xs : List (List X)) (q : ℕ) → q < length xs
    → ((l : ℕ) → l ≢ q → f (get_or xs l []) ≡ get_or xs l []) → map f xs ≡ set xs q (f (get_or xs q []))
set_one f xs q lt others =
    ext_get_or [] (map f xs) (set xs q (f (get_or xs q [])))
    (length-map xs f ∙ sym (length-set xs q (f (get_or xs q []))))
    (λ k within. let inside : k < length xs = let size = length-map xs f in omega arith in
    get_or-map f xs k [] [] inside
    ∙ ⊎_elim (λ (same : k ≡ q). rw same (sym (get_or-set_same xs q (f (get_or xs q [])) [] lt)))
    (λ (differs : k ≡ q → ⊥). others k differs ∙ sym (get_or-set_other xs q k (f (get_or xs q [])) [] differs))
    (cases_eq k q))

-- a list that has the node is found where there is one
first_found : (b : Bool) (k m : ℕ) → nat_lt k m ≡ b → (c : Bool) → nat_lt (cond (not c) (1 + k) 0) (suc m) ≡ (c || b)
first_found b k m e c = grind arith

place_found : (p : List ℕ → Bool) (xs : List (List ℕ)) → nat_lt (position_or_len p xs) (length xs) ≡ list_any p xs
place_found p [] = refl
place_found p (x ∷ xs) = first_found (list_any p xs) (position_or_len p xs) (length xs) (place_found p xs) (p x)

some_if : (b : Bool) (k : ℕ) → is_some (cond b (Some k) None) ≡ b
some_if b k = grind arith

pub listed_found : (lists : List (List ℕ)) (v : ℕ) → is_some (list_of lists v) ≡ is_node_listed lists v
listed_found lists v =
    some_if (nat_lt (position_or_len (has_item v) lists) (length lists)) (position_or_len (has_item v) lists)
    ∙ place_found (has_item v) lists

none_if : (b : Bool) (k : ℕ) → b ≡ false → cond b (Some k) None ≡ None
none_if b k e = grind arith

pub not_listed : (lists : List (List ℕ)) (v : ℕ) → is_node_listed lists v ≡ false → list_of lists v ≡ None
not_listed lists v e =
    none_if (nat_lt (position_or_len (has_item v) lists) (length lists)) (position_or_len (has_item v) lists)
    (place_found (has_item v) lists ∙ e)

pub in_list : (lists : List (List ℕ)) (v l : ℕ) → has_item v (list_at lists l) ≡ true → is_node_listed lists v ≡ true
in_list [] v l h = absurd (false≢true h)
in_list (x ∷ xs) v zero h = ap (λ b. b || list_any (has_item v) xs) h
in_list (x ∷ xs) v (suc l) h = or_right (has_item v x) (list_any (has_item v) xs) (in_list xs v l h)

or_swap : (a b c : Bool) → ((a || b) || c) ≡ ((a || c) || b)
or_swap a b c = grind arith

or_assoc : (a b c : Bool) → (a || (b || c)) ≡ ((a || b) || c)
or_assoc a b c = grind arith

pub listed-pushed : (lists : List (List ℕ)) (l v w : ℕ) → l < length lists
    → is_node_listed (set lists l (list_at lists l ++ v ∷ [])) w ≡ (is_node_listed lists w || nat_eq w v)
listed-pushed [] l v w lt = absurd (omega arith)
listed-pushed (x ∷ xs) zero v w lt = ap (λ b. b || list_any (has_item w) xs) (has-push w v x)
    ∙ or_swap (has_item w x) (nat_eq w v) (list_any (has_item w) xs)
listed-pushed (x ∷ xs) (suc l) v w lt = ap (λ b. has_item w x || b) (listed-pushed xs l v w (omega arith))
    ∙ or_assoc (has_item w x) (is_node_listed xs w) (nat_eq w v)

both_kept : (a b c : Bool) → ((a && c) || (b && c)) ≡ ((a || b) && c)
both_kept a b c = grind arith

pub listed-removed : (lists : List (List ℕ)) (v w : ℕ) → is_node_listed (map (without_item v) lists) w
    ≡ (is_node_listed lists w && not (nat_eq w v))
listed-removed [] v w = refl
listed-removed (x ∷ xs) v w = grind (arith, has-without, both_kept, listed-removed xs v w)

-- ---- rows

-- a write at a node that is in no list changes no row
kept_list : (rows : List Row) (v : ℕ) (r : Row) (xs : List ℕ) → has_item v xs ≡ false
    → map (node_row (set rows v r)) xs ≡ map (node_row rows) xs
kept_list rows v r [] h = refl
kept_list rows v r (x ∷ xs) h =
    let parts = or_parts (nat_eq v x) (has_item v xs) h in
    ap (λ y. y ∷ map (node_row (set rows v r)) xs)
    (get_or-set_other rows v x r no_row (λ e. eqb-false v x parts.0 (sym e)))
    ∙ ap (λ ys. node_row rows x ∷ ys) (kept_list rows v r xs parts.1)

pub kept_rows : (lists : List (List ℕ)) (rows : List Row) (v : ℕ) (r : Row) → is_node_listed lists v ≡ false
    → rows_of_nodes lists (set rows v r) ≡ rows_of_nodes lists rows
kept_rows [] rows v r h = refl
kept_rows (x ∷ xs) rows v r h = grind (arith, or_parts, kept_list, kept_rows xs rows v r)

pub rows_at-of : (lists : List (List ℕ)) (rows : List Row) (l : ℕ) → rows_at (rows_of_nodes lists rows) l
    ≡ map (node_row rows) (list_at lists l)
rows_at-of [] rows l = refl
rows_at-of (x ∷ xs) rows zero = refl
rows_at-of (x ∷ xs) rows (suc l) = rows_at-of xs rows l

pub rows-pushed : (lists : List (List ℕ)) (rows : List Row) (l v : ℕ) (r : Row) → l < length lists → v < length rows
    → is_node_listed lists v ≡ false
    → rows_of_nodes (set lists l (list_at lists l ++ v ∷ [])) (set rows v r)
    ≡ set (rows_of_nodes lists rows) l (rows_at (rows_of_nodes lists rows) l ++ r ∷ [])
rows-pushed lists rows l v r lt inside free =
    let f = node_row (set rows v r) in
    let xs = list_at lists l in
    map-set (map f) lists l (xs ++ v ∷ [])
    ∙ ap (λ ys. set ys l (map f (xs ++ v ∷ []))) (kept_rows lists rows v r free)
    ∙ ap (set (rows_of_nodes lists rows) l)
    (map_push f xs v ∙ ap (λ y. map f xs ++ y ∷ []) (get_or-set_same rows v r no_row inside)
    ∙ ap (λ ys. ys ++ r ∷ [])
    (sym (rows_at-of lists (set rows v r) l) ∙ ap (λ ys. rows_at ys l) (kept_rows lists rows v r free)))

-- the row of a node goes with it, where no other node in a list has its number
removed_list : (rows : List Row) (v n : ℕ) (xs : List ℕ)
    → ((w : ℕ) → has_item w xs ≡ true → not (nat_eq v w) ≡ is_other_row n (node_row rows w))
    → map (node_row rows) (without_item v xs) ≡ without_row n (map (node_row rows) xs)
removed_list rows v n [] h = refl
removed_list rows v n (x ∷ xs) h = grind (arith, removed_list rows v n xs)

pub rows-removed : (lists : List (List ℕ)) (rows : List Row) (v n : ℕ)
    → ((w : ℕ) → is_node_listed lists w ≡ true → not (nat_eq v w) ≡ is_other_row n (node_row rows w))
    → rows_of_nodes (map (without_item v) lists) rows ≡ map (without_row n) (rows_of_nodes lists rows)
rows-removed [] rows v n h = refl
rows-removed (x ∷ xs) rows v n h = grind (arith, removed_list, or_right, rows-removed xs rows v n)

-- what is at a place of a list is in it
pub has_at : (xs : List ℕ) (k d : ℕ) → k < length xs → has_item (get_or xs k d) xs ≡ true
has_at [] k d lt = absurd (omega arith)
has_at (x ∷ xs) zero d lt = ap (λ b. b || has_item x xs) (eq-eqb x x refl)
has_at (x ∷ xs) (suc k) d lt =
    or_right (nat_eq (get_or xs k d) x) (has_item (get_or xs k d) xs) (has_at xs k d (omega arith))

pub at_of : (xs : List ℕ) (v : ℕ) → has_item v xs ≡ true → (k : ℕ) × (k < length xs) × (get_or xs k 0 ≡ v)
at_of [] v h = absurd (false≢true h)
at_of (x ∷ xs) v h = by (nat_eq v x) refl (at_of xs v)
  where
    by : (b : Bool) → nat_eq v x ≡ b → (has_item v xs ≡ true → (k : ℕ) × (k < length xs) × (get_or xs k 0 ≡ v))
        → (k : ℕ) × (k < length (x ∷ xs)) × (get_or (x ∷ xs) k 0 ≡ v)
    by true e later = (0, omega arith, sym (eqb-true v x e))
    by false e later = let rest = later (sym (ap (λ b. b || has_item v xs) e) ∙ h) in
        (suc rest.0, omega (arith, rest.1), rest.2)

-- a number of a queue is that of a node in its list
pub record IsNodeIn (lists : List (List ℕ)) (rows : List Row) (l n v : ℕ) : Type 0 where
  pub here : has_item v (list_at lists l) ≡ true
  pub number : (node_row rows v).number ≡ n

pub node_in : (lists : List (List ℕ)) (rows : List Row) (l n : ℕ)
    → Contains (row_numbers (rows_at (rows_of_nodes lists rows) l)) n → (v : ℕ) × IsNodeIn lists rows l n v
node_in lists rows l n found =
    let xs = list_at lists l in
    let at : Contains (map number_of_row (map (node_row rows) xs)) n = rw (rows_at-of lists rows l) at found in
    let k = at.0 in
    let inside : k < length xs = let size = length-map (map (node_row rows) xs) number_of_row in let size2 =
    length-map xs (node_row rows) in omega (arith, at.1) in
    let read = get_or-map number_of_row (map (node_row rows) xs) k no_row n (rw length-map inside)
    ∙ ap number_of_row (get_or-map (node_row rows) xs k 0 no_row inside) in
    (get_or xs k 0, record { here = has_at xs k 0 inside; number = sym read ∙ at.2 })

pub number_there : (lists : List (List ℕ)) (rows : List Row) (l v : ℕ) → has_item v (list_at lists l) ≡ true
    → Contains (rows_at (rows_of_nodes lists rows) l) (node_row rows v)
number_there lists rows l v h =
    let xs = list_at lists l in
    let at = at_of xs v h in
    rw (rows_at-of lists rows l) (
      at.0,
      rw length-map at.1,
      get_or-map (node_row rows) xs at.0 0 (node_row rows v) at.1
          ∙ ap (node_row rows) at.2,
    )

-- ---- the first

pub first_listed : (lists : List (List ℕ)) (l v : ℕ) → Some v ≡ slice_get (list_at lists l) 0
    → is_node_listed lists v ≡ true
first_listed lists l v e = in_list lists v l (by (list_at lists l) e)
  where
    by : (xs : List ℕ) → Some v ≡ slice_get xs 0 → has_item v xs ≡ true
    by [] h = cc
    by (x ∷ xs) h = ap (λ b. b || has_item v xs) (eq-eqb v x cc)

pub first_in : (rows : List Row) (xs : List ℕ) (v : ℕ) → Some v ≡ slice_get xs 0
    → slice_get (row_numbers (map (node_row rows) xs)) 0 ≡ Some (number_of_row (node_row rows v))
first_in rows [] v e = cc
first_in rows (x ∷ xs) v e = let same : v ≡ x = cc in ap (λ w. Some (number_of_row (node_row rows w))) (sym same)

-- ---- a node in a list is in one of them

pub listed_in : (lists : List (List ℕ)) (v : ℕ) → is_node_listed lists v ≡ true
    → (l : ℕ) × (has_item v (list_at lists l) ≡ true)
listed_in [] v h = absurd (false≢true h)
listed_in (x ∷ xs) v h = by (has_item v x) refl (listed_in xs v)
  where
    by : (b : Bool) → has_item v x ≡ b → (is_node_listed xs v ≡ true → (l : ℕ) × (has_item v (list_at xs l) ≡ true))
        → (l : ℕ) × (has_item v (list_at (x ∷ xs) l) ≡ true)
    by true e later = (0, e)
    by false e later = let rest = later (sym (ap (λ b. b || list_any (has_item v) xs) e) ∙ h) in (suc rest.0, rest.1)

pub listed_below : (lists : List (List ℕ)) (rows : List Row) (n w : ℕ)
    → ((l : ℕ) → All (λ r. r.number < n) (rows_at (rows_of_nodes lists rows) l)) → is_node_listed lists w ≡ true
    → (node_row rows w).number < n
listed_below lists rows n w below h =
    let l = listed_in lists w h in
    let at = number_there lists rows l.0 w l.1 in
    let less = below l.0 at.0 (node_row rows w) at.1 in
    let same = ap number_of_row at.2 in
    omega arith
