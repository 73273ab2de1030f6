-- What is open after a queueing of an item is opened, and after it ends.
use Rattle.std.proofs.Common.{ap₂, inl, inr}
use Rattle.cmwq_flush.specs.Common.{◌≡◌, ◌≢◌, ◌⊎◌, ℕ, ◌+◌, ◌<◌, ◌≤◌, Bool, true, false, not, cond, List, [], ◌∷◌, ◌++◌}
use Rattle.cmwq_flush.specs.Common.{length, get_or, set, Some, sym, ap, refl, ◌∙◌, arith, ⊎_elim, map, Contains, eqb}
use Rattle.cmwq_flush.specs.Common.{false≢true, cases_lt, zero, suc, replicate, length-map, get_or-map, get_or_past}
use Rattle.cmwq_flush.specs.Common.{get_or-set_same, get_or-set_other, ◌↔◌}
use Rattle.std.specs.Prelude.{◌*◌, ◌&&◌, nat_eq}
use Rattle.std.proofs.lemmas.List.{length-set, length-replicate, get_or-replicate, ext_get_or}
use Rattle.std.proofs.lemmas.List.FromFn.{length-map-range_with_len, get_or-map-range_with_len}
use Rattle.std.proofs.lemmas.Bool.{eq-eqb, ne_eqb, eqb-true, or_cases, and_parts}
use Rattle.std.proofs.lemmas.List.Sums.{position_or_len_is}
use Rattle.cmwq_lemmas.proofs.Truth.{same_bools}
use Rattle.cmwq_list.specs.Lists.{Listed, AreListedOnce, has_item, without_item, list_at, list_of, lists_with}
use Rattle.cmwq_list.specs.Lists.{lists_without}
use Rattle.cmwq_flush.specs.declared.openings.Row.{Row}
use Rattle.cmwq_flush.specs.Numbers.{without}
use Rattle.cmwq_flush.specs.Rows.{no_row, number_of_row, row_numbers, rows_at, without_row, is_other_row}
use Rattle.cmwq_flush.specs.ItemNumbers.{numbers_open}
use Rattle.cmwq_flush.specs.Openings.{AreOpenings, is_node_listed, node_row, node_number, rows_of_nodes, by_age}
use Rattle.cmwq_flush.specs.Openings.{numbers_of_nodes, opened_by, node_has_number}
use Rattle.cmwq_lemmas.proofs.Lists.{filter_all}
use Rattle.cmwq_flush.proofs.Nodes.{set_one, listed-pushed, listed-removed, rows-removed, node_in, in_list}
use Rattle.cmwq_flush.proofs.Nodes.{number_there}
use Rattle.cmwq_flush.proofs.NodeNumbers.{opened_at, opened_set, latest_first, latest_second, ended_first, ended_second}
use Rattle.cmwq_flush.proofs.NodeNumbers.{one_of, some_at, number_at_listed, number_at_free, number-pushed, number-kept}
use Rattle.cmwq_flush.proofs.NodeNumbers.{number-removed, number-stays}
use Rattle.cmwq_flush.proofs.OverflowNodes.{none_listed}
use Rattle.cmwq_list.proofs.Members.{owner_has}
use Rattle.std.proofs.lemmas.List.Elements.{recursion_from_All}

chosen : (b c : Bool) (x y : ℕ) → b ≡ c → cond b x y ≡ cond c x y
chosen b c x y e = ap (λ d. cond d x y) e

-- ---- a queueing is opened

module _ (lists : List (List ℕ)) (rows : List Row) (items i v : ℕ) (there : i < items)
    (chosen_is : v ≡ cond (is_node_listed lists (2 * i)) (2 * i + 1) (2 * i))
    (few : length (numbers_of_nodes lists rows i) < 2) where
  pub free_listed : is_node_listed lists v ≡ false
  free_listed = grind arith

  pub chosen_low : v < 2 * items
  chosen_low = grind arith

  module _ (l : ℕ) (r : Row) (lt : l < length lists) (many : length rows ≡ 2 * items) (latest : (w : ℕ)
      → is_node_listed lists w ≡ true → (node_row rows w).number < r.number) where
    abbrev lists2 : List (List ℕ)
    lists2 = set lists l (list_at lists l ++ v ∷ [])

    abbrev rows2 : List Row
    rows2 = set rows v r

    older : (w a : ℕ) → node_number lists rows w ≡ Some a → a < r.number
    older w a e = let is = some_at lists rows w a e in let less = latest w is.0 in let same = is.1 in omega arith

    numbers-opened : numbers_of_nodes lists2 rows2 i ≡ numbers_of_nodes lists rows i ++ r.number ∷ []
    numbers-opened =
        grind (
          arith,
          chosen_low,
          chosen,
          number-pushed,
          number-kept,
          latest_first,
          number_at_free,
          number_at_listed,
          free_listed,
          latest_second,
        )

    others : (j : ℕ) → j ≢ i → numbers_of_nodes lists2 rows2 j ≡ numbers_of_nodes lists rows j
    others j differs = grind (arith, chosen, number-kept)

    pub opened-pushed : opened_by lists2 rows2 items
        ≡ set (opened_by lists rows items) i (numbers_open (opened_by lists rows items) i ++ r.number ∷ [])
    opened-pushed =
        opened_set (numbers_of_nodes lists2 rows2) (numbers_of_nodes lists rows) items i
        (numbers_open (opened_by lists rows items) i ++ r.number ∷ []) there
        (numbers-opened ∙ ap (λ ns. ns ++ r.number ∷ []) (sym (opened_at lists rows items i there))) others

-- no number comes twice: a listed node is the new one, or was listed
module _ (items : ℕ) (s : Listed) (rows : List Row) (l v : ℕ) (r : Row) (is : AreOpenings items s rows)
    (lt : l < length s.lists) (low : v < s.items) (free : is_node_listed s.lists v ≡ false) (latest : (w : ℕ)
    → is_node_listed s.lists w ≡ true → (node_row rows w).number < r.number) where
  listed : (w : ℕ) → is_node_listed (lists_with s l v).lists w ≡ true → (is_node_listed s.lists w ≡ true) ⊎ (w ≡ v)
  listed w h =
      ⊎_elim (λ (e : is_node_listed s.lists w ≡ true). inl e) (λ (e : nat_eq w v ≡ true). inr (eqb-true w v e))
      (or_cases (is_node_listed s.lists w) (nat_eq w v) (sym (listed-pushed s.lists l v w lt) ∙ h))

  same_row : (w : ℕ) → is_node_listed s.lists w ≡ true → node_row (set rows v r) w ≡ node_row rows w
  same_row w h =
      get_or-set_other rows v w r no_row (λ e. absurd (false≢true (sym free ∙ ap (is_node_listed s.lists) (sym e) ∙ h)))

  new_row : node_row (set rows v r) v ≡ r
  new_row = get_or-set_same rows v r no_row (let many = is.many in let nodes = is.nodes in omega arith)

  once : (w x : ℕ) → is_node_listed (lists_with s l v).lists w ≡ true → is_node_listed (lists_with s l v).lists x ≡ true
      → (node_row (set rows v r) w).number ≡ (node_row (set rows v r) x).number → w ≡ x
  once w x hw hx same =
      ⊎_elim (λ (w_old : is_node_listed s.lists w ≡ true). ⊎_elim (λ (x_old : is_node_listed s.lists x ≡ true).
      is.once w x w_old x_old (ap (λ (t : Row). t.number) (sym (same_row w w_old)) ∙ same
      ∙ ap (λ (t : Row). t.number) (same_row x x_old))) (λ (x_new : x ≡ v).
      let at_w = ap (λ (t : Row). t.number) (same_row w w_old) in let at_x =
      ap (λ (y : ℕ). (node_row (set rows v r) y).number) x_new ∙ ap (λ (t : Row). t.number) new_row in let less =
      latest w w_old in absurd (omega arith)) (listed x hx))
      (λ (w_new : w ≡ v). ⊎_elim (λ (x_old : is_node_listed s.lists x ≡ true).
      let at_x = ap (λ (t : Row). t.number) (same_row x x_old) in let at_w =
      ap (λ (y : ℕ). (node_row (set rows v r) y).number) w_new ∙ ap (λ (t : Row). t.number) new_row in let less =
      latest x x_old in absurd (omega arith)) (λ (x_new : x ≡ v). w_new ∙ sym x_new) (listed x hx)) (listed w hw)

  pub openings-pushed : AreOpenings items (lists_with s l v) (set rows v r)
  openings-pushed = record {
    nodes = is.nodes;
    many = length-set rows v r ∙ is.many;
    known = λ w h. ⊎_elim (λ (old : is_node_listed s.lists w ≡ true). is.known w old) (λ (e : w ≡ v). omega arith)
        (listed w h);
    once = once;
  }

-- ---- a queueing ends

there_if : (xs : List (List ℕ)) (i n : ℕ) → Contains (get_or xs i []) n → i < length xs
there_if xs i n found =
    ⊎_elim (λ (lt : i < length xs). lt) (λ (past : length xs ≤ i). let none : get_or xs i [] ≡ [] =
    get_or_past xs i [] past in let empty = rw none at found in absurd (omega (arith, empty.1)))
    (cases_lt i (length xs))

rows_if : (xs : List (List Row)) (q n : ℕ) → Contains (row_numbers (get_or xs q [])) n → q < length xs
rows_if xs q n found =
    ⊎_elim (λ (lt : q < length xs). lt) (λ (past : length xs ≤ q). let none : get_or xs q [] ≡ [] =
    get_or_past xs q [] past in let empty = rw none at found in absurd (omega (arith, empty.1)))
    (cases_lt q (length xs))

pub item_there : (lists : List (List ℕ)) (rows : List Row) (items i n : ℕ)
    → Contains (numbers_open (opened_by lists rows items) i) n → i < items
item_there lists rows items i n found = let lt = there_if (opened_by lists rows items) i n found in let size =
    length-map-range_with_len (numbers_of_nodes lists rows) 0 items in omega arith

module _ (items : ℕ) (s : Listed) (rows : List Row) (is : AreOpenings items s rows) (i n v : ℕ)
    (chosen_is : v ≡ cond (node_has_number s.lists rows (2 * i) n) (2 * i) (2 * i + 1))
    (is_open : Contains (numbers_open (opened_by s.lists rows items) i) n) where
  there : i < items
  there = item_there s.lists rows items i n is_open

  pub node_is : (is_node_listed s.lists v ≡ true) × ((node_row rows v).number ≡ n)
  node_is = by (node_has_number s.lists rows (2 * i) n) refl
    where
      by : (b : Bool) → node_has_number s.lists rows (2 * i) n ≡ b
          → (is_node_listed s.lists v ≡ true) × ((node_row rows v).number ≡ n)
      by true e =
          let at = chosen_is ∙ chosen _ _ (2 * i) (2 * i + 1) e in
          let parts = and_parts (is_node_listed s.lists (2 * i)) (eqb (node_row rows (2 * i)).number n) e in (
            ap (is_node_listed s.lists) at ∙ parts.0,
            ap (λ w. (node_row rows w).number) at
                ∙ eqb-true (node_row rows (2 * i)).number n parts.1,
          )
      by false e =
          let at = chosen_is ∙ chosen _ _ (2 * i) (2 * i + 1) e in
          ⊎_elim (λ (first : node_number s.lists rows (2 * i) ≡ Some n). let k = some_at s.lists rows (2 * i) n first in
          absurd (false≢true (sym e ∙ ap₂ (λ a b. a && b) k.0 (eq-eqb (node_row rows (2 * i)).number n k.1))))
          (λ (second : node_number s.lists rows (2 * i + 1) ≡ Some n). let k =
          some_at s.lists rows (2 * i + 1) n second in
          (ap (is_node_listed s.lists) at ∙ k.0, ap (λ w. (node_row rows w).number) at ∙ k.1))
          (one_of (node_number s.lists rows (2 * i)) (node_number s.lists rows (2 * i + 1)) n
          (rw (opened_at s.lists rows items i there) at is_open))

  only_it : (w : ℕ) → is_node_listed s.lists w ≡ true → (node_row rows w).number ≡ n → w ≡ v
  only_it w h number = is.once w v h node_is.0 (number ∙ sym node_is.1)

  same_test : (w : ℕ) → is_node_listed s.lists w ≡ true → not (nat_eq v w) ≡ is_other_row n (node_row rows w)
  same_test w h =
      ap not (same_bools (nat_eq v w) (eqb (node_row rows w).number n)
      (λ e. eq-eqb (node_row rows w).number n (ap (λ (x : ℕ). (node_row rows x).number) (sym (eqb-true v w e))
      ∙ node_is.1)) (λ e. eq-eqb v w (sym (only_it w h (eqb-true (node_row rows w).number n e)))))

  pub closed_rows : rows_of_nodes (map (without_item v) s.lists) rows ≡ map (without_row n) (rows_of_nodes s.lists rows)
  closed_rows = rows-removed s.lists rows v n same_test

  differs_from : (w m : ℕ) → w ≢ v → node_number s.lists rows w ≡ Some m → m ≢ n
  differs_from w m differs e same = let k = some_at s.lists rows w m e in differs (only_it w k.0 (k.1 ∙ same))

  numbers_closed : numbers_of_nodes (map (without_item v) s.lists) rows i ≡ without n (numbers_of_nodes s.lists rows i)
  numbers_closed =
      grind (
        arith,
        chosen,
        number-removed,
        node_is,
        number_at_listed,
        number-stays,
        ended_first,
        differs_from,
        ended_second,
      )

  others_stay : (j : ℕ) → j ≢ i → numbers_of_nodes (map (without_item v) s.lists) rows j
      ≡ numbers_of_nodes s.lists rows j
  others_stay j differs = grind (arith, chosen, number-stays)

  pub closed_opened : opened_by (map (without_item v) s.lists) rows items
      ≡ set (opened_by s.lists rows items) i (without n (numbers_open (opened_by s.lists rows items) i))
  closed_opened =
      opened_set (numbers_of_nodes (map (without_item v) s.lists) rows) (numbers_of_nodes s.lists rows) items i
      (without n (numbers_open (opened_by s.lists rows items) i)) there
      (numbers_closed ∙ ap (without n) (sym (opened_at s.lists rows items i there))) others_stay

  pub openings_removed : AreOpenings items (lists_without s v) rows
  openings_removed = grind (arith, once, and_parts, listed-removed)

  -- the number stands in one queue's list
  module _ (once : AreListedOnce s) (q : ℕ) (here : Contains (row_numbers (rows_at (rows_of_nodes s.lists rows) q)) n)
    where
      has_it : (l : ℕ) → Contains (row_numbers (rows_at (rows_of_nodes s.lists rows) l)) n
          → has_item v (list_at s.lists l) ≡ true
      has_it l found = let w = node_in s.lists rows l n found in
          ap (λ x. has_item x (list_at s.lists l)) (sym (only_it w.0 (in_list s.lists w.0 l w.1.here) w.1.number))
          ∙ w.1.here

      lacks_it : (l : ℕ) → l ≢ q → without_row n (rows_at (rows_of_nodes s.lists rows) l)
          ≡ rows_at (rows_of_nodes s.lists rows) l
      lacks_it l differs =
          filter_all (is_other_row n) (rows_at (rows_of_nodes s.lists rows) l)
          (recursion_from_All (λ r. is_other_row n r ≡ true) (rows_at (rows_of_nodes s.lists rows) l)
          (λ k d lt. ap not (ne_eqb (get_or (rows_at (rows_of_nodes s.lists rows) l) k d).number n (λ same.
          differs (once.apart v l q
          (has_it l (
            k,
            rw length-map lt,
            get_or-map number_of_row (rows_at (rows_of_nodes s.lists rows) l) k d n lt
                ∙ same,
          )) (has_it q here))))))

      pub closed_in_one : map (without_row n) (rows_of_nodes s.lists rows)
          ≡ set (rows_of_nodes s.lists rows) q (without_row n (rows_at (rows_of_nodes s.lists rows) q))
      closed_in_one =
          set_one (without_row n) (rows_of_nodes s.lists rows) q (rows_if (rows_of_nodes s.lists rows) q n here) lacks_it

      pub has_row_of : Contains (rows_at (rows_of_nodes s.lists rows) q)
          (record { number = n; colour = (node_row rows v).colour })
      has_row_of = let R : ℕ → Row = λ m. record { number = m; colour = (node_row rows v).colour } in
          rw (ap R (sym node_is.1)) (number_there s.lists rows q v (has_it q here))

-- ---- at first

pub rows_at_first : (queues : ℕ) (rows : List Row) → rows_of_nodes (replicate queues []) rows ≡ replicate queues []
rows_at_first zero rows = refl
rows_at_first (suc queues) rows = ap (λ ys. [] ∷ ys) (rows_at_first queues rows)

pub opened_at_first : (queues items : ℕ) (rows : List Row) → opened_by (replicate queues []) rows items
    ≡ replicate items []
opened_at_first queues items rows =
    ext_get_or [] (opened_by (replicate queues []) rows items) (replicate items [])
    (length-map-range_with_len (numbers_of_nodes (replicate queues []) rows) 0 items ∙ sym (length-replicate items []))
    (λ k lt. let size = length-map-range_with_len (numbers_of_nodes (replicate queues []) rows) 0 items in
    get_or-map-range_with_len (numbers_of_nodes (replicate queues []) rows) 0 items k k [] (omega arith) (omega arith)
    ∙ ap₂ by_age (number_at_free (replicate queues []) rows (2 * k) (none_listed queues (2 * k)))
    (number_at_free (replicate queues []) rows (2 * k + 1) (none_listed queues (2 * k + 1)))
    ∙ sym (get_or-replicate items k [] [] (omega arith)))

pub openings_at_first : (queues items : ℕ) (s : Listed) (rows : List Row)
    → s ≡ record { items = 2 * items; lists = replicate queues [] } → length rows ≡ 2 * items → AreOpenings items s rows
openings_at_first queues items s rows e many = grind (arith, false≢true, none_listed, once)

-- ---- what is read

-- ---- whether a number is open on a queue

-- it is in the first list that has it
first_place : (lists : List (List ℕ)) (v q : ℕ) → ((l : ℕ) → has_item v (list_at lists l) ≡ true → l ≡ q)
    → q < length lists → has_item v (list_at lists q) ≡ true → list_of lists v ≡ Some q
first_place lists v q alone lt here = grind (arith, position_or_len_is)

module _ (items : ℕ) (s : Listed) (rows : List Row) (is : AreOpenings items s rows) (i n v : ℕ)
    (chosen_is : v ≡ cond (node_has_number s.lists rows (2 * i) n) (2 * i) (2 * i + 1))
    (is_open : Contains (numbers_open (opened_by s.lists rows items) i) n) (once : AreListedOnce s) (q : ℕ)
    (lt : q < length s.lists) where
  pub open_on : (list_of s.lists v ≡ Some q) ↔ Contains (row_numbers (rows_at (rows_of_nodes s.lists rows) q)) n
  open_on =
      let it = node_is items s rows is i n v chosen_is is_open in (
        (λ e. let there = number_there s.lists rows q v (owner_has s.lists v q e) in (
          there.0,
          rw length-map there.1,
          get_or-map number_of_row (rows_at (rows_of_nodes s.lists rows) q) there.0
              (node_row rows v) n there.1 ∙ ap number_of_row there.2 ∙ it.1,
        )),
        (λ found. let w = node_in s.lists rows q n found in
            let same : w.0 ≡ v = is.once w.0 v (in_list s.lists w.0 q w.1.here) it.0 (w.1.number ∙ sym it.1) in
            let here : has_item v (list_at s.lists q) ≡ true = ap (λ x. has_item x (list_at s.lists q)) (sym same)
            ∙ w.1.here in
            first_place s.lists v q (λ l h. once.apart v l q h here) lt here),
      )
