-- What waits, after a queueing is put after the others, or taken out, by the rows of items and the lists of their
-- numbers.
use Rattle.cmwq_pwq.specs.Common.{◌≡◌, ◌≢◌, ℕ, zero, suc, ◌+◌, ◌<◌, Bool, true, false, not, ◌&&◌, List, [], ◌∷◌, ◌++◌}
use Rattle.cmwq_pwq.specs.Common.{length, filter, cond, take, drop, Option, Some, None, refl, sym, ap, ap₂, ◌∙◌, subst}
use Rattle.cmwq_pwq.specs.Common.{arith, AllByRecursion, list_any, slice_set, eq-eqb, eqb-true, le-ltb, length-set}
use Rattle.cmwq_pwq.specs.Common.{get_or-set_other, All_map, All_both, All_filter, append-nil, drop_more}
use Rattle.cmwq_pwq.specs.Common.{take-append-drop, Queueing, is_of, is_on, has_number, most_cpus}
use Rattle.std.specs.Prelude.{◌||◌, nat_eq, nat_lt, is_some, map, option_map, option_and_then, slice_get}
use Rattle.std.specs.List.{position_or_len}
use Rattle.std.proofs.Common.{⊎_elim}
use Rattle.std.proofs.lemmas.Bool.{false_from_ne_true, false≢true, or_parts, or_right, eqb-false, ne_eqb, cases_eq}
use Rattle.std.proofs.lemmas.Bool.{cond-false}
use Rattle.std.proofs.lemmas.List.{get_or-set_same, get_or-map, map-append, length-map}
use Rattle.std.proofs.lemmas.List.Elements.{filter-append}
use Rattle.std.proofs.lemmas.List.Sums.{position_or_len_is}
use Rattle.std.proofs.lemmas.Option.{same_Some, slice_get-map, slice_get_within, get_or_from_slice_get}
use Rattle.std.proofs.lemmas.Option.{slice_get-get_or}
use Rattle.cmwq_lemmas.proofs.Filters.{filter_twice, filter_same}
use Rattle.cmwq_lemmas.proofs.Lists.{All_each, All_push, filter_all}
use Rattle.cmwq_lemmas.proofs.Truth.{and_false, flip}
use Rattle.cmwq_list.specs.Lists.{Listed, AreDistinct, AreListedOnce, has_item, list_at, list_of, lists_with}
use Rattle.cmwq_list.specs.Lists.{lists_without, without_item}
use Rattle.cmwq_pwq.specs.Pwqs.{IsNumberOfItem, is_other_waiting, place_of}
use Rattle.cmwq_pwq.proofs.Passes.{on_itself, on_parts, one_place}
use Rattle.cmwq_pwq.specs.Waiting.{AreWaitingKept, IsFirstTaken, HasOwnRow, WaitingState, is_at_place, is_of_other}
use Rattle.cmwq_pwq.specs.Waiting.{row_of}
use Rattle.cmwq_lemmas.proofs.Passing.{none_pass}

-- ---- lists of lists

-- an item that none of the lists has is in no list
pub in_none : (lists : List (List ℕ)) (i : ℕ) → ((m : ℕ) → m < length lists → has_item i (list_at lists m) ≡ false)
    → list_of lists i ≡ None
in_none lists i lacks =
    let pos : position_or_len (has_item i) lists ≡ length lists =
    position_or_len_is (has_item i) lists (length lists) [] (omega arith) lacks (λ less. absurd (omega arith)) in
    ap (λ p. cond (nat_lt p (length lists)) (Some p) None) pos
    ∙ cond-false (nat_lt (length lists) (length lists)) (Some (length lists)) None
    (le-ltb (length lists) (length lists) (omega arith))

pub one_lacks : (lists : List (List ℕ)) (i : ℕ) → length lists ≡ 1 → has_item i (list_at lists 0) ≡ false → (m : ℕ)
    → m < length lists → has_item i (list_at lists m) ≡ false
one_lacks lists i one lacks m less = let e : m ≡ 0 = omega arith in ap (λ k. has_item i (list_at lists k)) e ∙ lacks

-- of one list, it is in that
pub in_one : (lists : List (List ℕ)) (i : ℕ) → length lists ≡ 1
    → is_some (list_of lists i) ≡ has_item i (list_at lists 0)
in_one lists i one = grind (arith, in_none, one_lacks, position_or_len_is)

filtered_lacks : (p : ℕ → Bool) (i : ℕ) (xs : List ℕ) → has_item i xs ≡ false → has_item i (filter p xs) ≡ false
filtered_lacks p i [] lacks = refl
filtered_lacks p i (x ∷ xs) lacks = grind (arith, filtered_lacks p i xs)

maps_same : {X : Type 0} (f g : ℕ → X) (xs : List ℕ) → AllByRecursion (λ i. f i ≡ g i) xs → map f xs ≡ map g xs
maps_same f g [] same = refl
maps_same f g (x ∷ xs) same = ap₂ (λ y ys. y ∷ ys) same.0 (maps_same f g xs same.1)

-- ---- rows

module _ (rows : List Queueing) where
  abbrev waiting_of : List ℕ → List Queueing
  waiting_of xs = map (row_of rows) xs

  pub row_at : (xs : List ℕ) (k i : ℕ) → AllByRecursion (HasOwnRow rows) xs → slice_get xs k ≡ Some i → HasOwnRow rows i
  row_at [] k i each e = absurd (let bad : None ≡ Some i = e in cc)
  row_at (x ∷ xs) zero i each e = subst (HasOwnRow rows) (same_Some x i e) each.0
  row_at (x ∷ xs) (suc k) i each e = row_at xs k i each.1 e

  -- the row that is read is that of what waits
  pub read_at : (xs : List ℕ) (k : ℕ) → AllByRecursion (HasOwnRow rows) xs
      → option_and_then (slice_get rows) (slice_get xs k) ≡ slice_get (waiting_of xs) k
  read_at xs k each = by (slice_get xs k) refl ∙ sym (slice_get-map (row_of rows) xs k)
    where
      by : (o : Option ℕ) → slice_get xs k ≡ o → option_and_then (slice_get rows) o ≡ option_map (row_of rows) o
      by o e = grind (arith, slice_get-get_or, row_at)

  -- what waits at a place stands in its item's row
  pub item_at : (xs : List ℕ) (k : ℕ) (x : Queueing) → AllByRecursion (HasOwnRow rows) xs
      → slice_get (waiting_of xs) k ≡ Some x → (slice_get xs k ≡ Some x.item.0) × (row_of rows x.item.0 ≡ x)
  item_at xs k x each e = by (slice_get xs k) refl (sym (slice_get-map (row_of rows) xs k) ∙ e)
    where
      by : (o : Option ℕ) → slice_get xs k ≡ o → option_map (row_of rows) o ≡ Some x
          → (slice_get xs k ≡ Some x.item.0) × (row_of rows x.item.0 ≡ x)
      by o at is = grind (arith, row_at)

  -- an item has one that waits where its number is listed
  pub of_item : (i : ℕ) (xs : List ℕ) → AllByRecursion (HasOwnRow rows) xs → list_any (is_of i) (waiting_of xs)
      ≡ has_item i xs
  of_item i [] each = refl
  of_item i (x ∷ xs) each = grind (arith, of_item i xs each.1)

  pub known_items : (xs : List ℕ) → AllByRecursion (HasOwnRow rows) xs
      → AllByRecursion (λ x. x.item.0 < length rows) (waiting_of xs)
  known_items [] each = tt
  known_items (x ∷ xs) each = (rw each.0.item each.0.inside, known_items xs each.1)

  -- ---- an item's queueing is taken out

  pub unlinked_rest : (i : ℕ) (xs : List ℕ) → AllByRecursion (HasOwnRow rows) xs
      → waiting_of (without_item i xs) ≡ filter (is_of_other i) (waiting_of xs)
  unlinked_rest i [] each = refl
  unlinked_rest i (x ∷ xs) each = grind (arith, unlinked_rest i xs each.1)

  lacks_without : (i : ℕ) (xs : List ℕ) → has_item i xs ≡ false → without_item i xs ≡ xs
  lacks_without i [] lacks = refl
  lacks_without i (x ∷ xs) lacks = grind (arith, lacks_without i xs)

  has_at : (xs : List ℕ) (k i : ℕ) → slice_get xs k ≡ Some i → has_item i xs ≡ true
  has_at [] k i e = absurd (let bad : None ≡ Some i = e in cc)
  has_at (x ∷ xs) zero i e = ap (λ b. b || has_item i xs) (eq-eqb i x (sym (same_Some x i e)))
  has_at (x ∷ xs) (suc k) i e = or_right (nat_eq i x) (has_item i xs) (has_at xs k i e)

  pub unlinked_at : (xs : List ℕ) (k i : ℕ) → AreDistinct xs → slice_get xs k ≡ Some i
      → waiting_of (without_item i xs) ≡ take k (waiting_of xs) ++ drop (suc k) (waiting_of xs)
  unlinked_at [] k i distinct e = grind arith
  unlinked_at (x ∷ xs) zero i distinct e = grind (arith, lacks_without, distinct.0)
  unlinked_at (x ∷ xs) (suc k) i distinct e =
      grind (arith, false≢true, has_at, unlinked_at xs k i distinct.1 e, distinct.0)

-- one filter after another
without_filter : (p : ℕ → Bool) (i : ℕ) (xs : List ℕ) → without_item i (filter p xs) ≡ filter p (without_item i xs)
without_filter p i xs = grind (arith, filter_twice, filter_same, All_each, flip)

each_without : (P : ℕ → Type 0) (i : ℕ) (xs : List ℕ) → AllByRecursion P xs → AllByRecursion P (without_item i xs)
each_without P i xs each =
    All_filter P (λ x. not (nat_eq i x)) xs (All_map P (λ x. not (nat_eq i x) ≡ true → P x) xs (λ x is passes. is) each)

module _ (rows : List Queueing) (all pwqs : Listed) (kept : AreWaitingKept rows all pwqs) where
  abbrev items : List ℕ
  items = list_at all.lists 0

  pub all_without : (i : ℕ) → list_at (lists_without all i).lists 0 ≡ without_item i items
  all_without i = get_or-map (without_item i) all.lists 0 [] [] (let one = kept.one in omega arith)

  pub unlinked_kept : (i : ℕ) → AreWaitingKept rows (lists_without all i) (lists_without pwqs i)
  unlinked_kept i = record {
    items = kept.items;
    items_of_pwqs = kept.items_of_pwqs;
    one = length-map all.lists (without_item i) ∙ kept.one;
    each = subst (AllByRecursion (HasOwnRow rows)) (sym (all_without i))
        (each_without (HasOwnRow rows) i items kept.each);
    of_pwqs = λ p less.
        let inside : p < length pwqs.lists = rw (length-map pwqs.lists (without_item i)) at less in
        get_or-map (without_item i) pwqs.lists p [] [] inside
        ∙ (ap (without_item i) (kept.of_pwqs p inside)
        ∙ (without_filter (is_at_place rows p) i items ∙ ap (filter (is_at_place rows p)) (sym (all_without i))));
  }

  pub all_pushed : (x : Queueing) → list_at (lists_with all 0 x.item.0).lists 0 ≡ items ++ x.item.0 ∷ []
  all_pushed x = get_or-set_same all.lists 0 (items ++ x.item.0 ∷ []) [] (let one = kept.one in omega arith)

  -- ---- a queueing is put after the others

  module _ (x : Queueing) (inside : x.item.0 < length rows) (lacks : has_item x.item.0 items ≡ false) where
    abbrev rows2 : List Queueing
    rows2 = slice_set rows x.item.0 x

    row_here : row_of rows2 x.item.0 ≡ x
    row_here = get_or-set_same rows x.item.0 x _ inside

    others_of : (xs : List ℕ) → has_item x.item.0 xs ≡ false → AllByRecursion (λ j. row_of rows2 j ≡ row_of rows j) xs
    others_of [] lacks = tt
    others_of (y ∷ ys) lacks =
        let parts = or_parts (nat_eq x.item.0 y) (has_item x.item.0 ys) lacks in
        (get_or-set_other rows x.item.0 y x _ (λ e. eqb-false x.item.0 y parts.0 (sym e)), others_of ys parts.1)

    others : AllByRecursion (λ j. row_of rows2 j ≡ row_of rows j) items
    others = others_of items lacks

    pub pushed_behind : map (row_of rows2) (items ++ x.item.0 ∷ []) ≡ map (row_of rows) items ++ x ∷ []
    pushed_behind = map-append (row_of rows2) items (x.item.0 ∷ [])
        ∙ ap₂ (λ ys y. ys ++ y ∷ []) (maps_same (row_of rows2) (row_of rows) items others) row_here

    rows2_many : length rows2 ≡ length rows
    rows2_many = length-set rows x.item.0 x

    rows2_each : x.place.cpu.0 < most_cpus → AllByRecursion (HasOwnRow rows2) (items ++ x.item.0 ∷ [])
    rows2_each cpu = All_push (HasOwnRow rows2) items x.item.0
        (All_both (HasOwnRow rows) (λ j. row_of rows2 j ≡ row_of rows j) (HasOwnRow rows2) items
        (λ j is same. record {
          inside = rw rows2_many is.inside;
          item = ap (λ y. y.item.0) same ∙ is.item;
          cpu =
              rw same is.cpu;
        }) kept.each others)
        (record { inside = rw rows2_many inside; item = ap (λ y. y.item.0) row_here; cpu = rw row_here cpu })

    at_place_same : (p : ℕ) → filter (is_at_place rows2 p) items ≡ filter (is_at_place rows p) items
    at_place_same p =
        filter_same (is_at_place rows2 p) (is_at_place rows p) items
        (All_map _ _ items (λ j same. ap (λ y. nat_eq (place_of y.place.queue.0 y.place.cpu.0) p) same) others)

    module _ (cpu : x.place.cpu.0 < most_cpus) (place : place_of x.place.queue.0 x.place.cpu.0 < length pwqs.lists)
      where
        of_pwqs_pushed : (p : ℕ) → p < length pwqs.lists
            → list_at (lists_with pwqs (place_of x.place.queue.0 x.place.cpu.0) x.item.0).lists p
            ≡ filter (is_at_place rows2 p) (items ++ x.item.0 ∷ [])
        of_pwqs_pushed p less = ⊎_elim same other (cases_eq p (place_of x.place.queue.0 x.place.cpu.0)) ∙ sym split
          where
            here : is_at_place rows2 p x.item.0 ≡ nat_eq (place_of x.place.queue.0 x.place.cpu.0) p
            here = ap (λ y. nat_eq (place_of y.place.queue.0 y.place.cpu.0) p) row_here

            split : filter (is_at_place rows2 p) (items ++ x.item.0 ∷ []) ≡ filter (is_at_place rows p) items
                ++ cond (nat_eq (place_of x.place.queue.0 x.place.cpu.0) p) (x.item.0 ∷ []) []
            split = filter-append (is_at_place rows2 p) items (x.item.0 ∷ [])
                ∙ ap₂ (λ ys b. ys ++ cond b (x.item.0 ∷ []) []) (at_place_same p) here

            same : p ≡ place_of x.place.queue.0 x.place.cpu.0
                → list_at (lists_with pwqs (place_of x.place.queue.0 x.place.cpu.0) x.item.0).lists p
                ≡ filter (is_at_place rows p) items
                ++ cond (nat_eq (place_of x.place.queue.0 x.place.cpu.0) p) (x.item.0 ∷ []) []
            same e =
                ap (λ k. list_at (lists_with pwqs (place_of x.place.queue.0 x.place.cpu.0) x.item.0).lists k) e
                ∙ (get_or-set_same pwqs.lists (place_of x.place.queue.0 x.place.cpu.0) _ [] place
                ∙ ap₂ (λ ys b. ys ++ cond b (x.item.0 ∷ []) []) (ap (list_at pwqs.lists) (sym e) ∙ kept.of_pwqs p less)
                (sym (eq-eqb (place_of x.place.queue.0 x.place.cpu.0) p (sym e))))

            other : p ≢ place_of x.place.queue.0 x.place.cpu.0
                → list_at (lists_with pwqs (place_of x.place.queue.0 x.place.cpu.0) x.item.0).lists p
                ≡ filter (is_at_place rows p) items
                ++ cond (nat_eq (place_of x.place.queue.0 x.place.cpu.0) p) (x.item.0 ∷ []) []
            other ne =
                get_or-set_other pwqs.lists (place_of x.place.queue.0 x.place.cpu.0) p _ [] ne
                ∙ (kept.of_pwqs p less
                ∙ (sym (append-nil (filter (is_at_place rows p) items))
                ∙ ap (λ b. filter (is_at_place rows p) items ++ cond b (x.item.0 ∷ []) [])
                (sym (ne_eqb (place_of x.place.queue.0 x.place.cpu.0) p (λ e. ne (sym e))))))

        pub pushed_kept : AreWaitingKept rows2 (lists_with all 0 x.item.0)
            (lists_with pwqs (place_of x.place.queue.0 x.place.cpu.0) x.item.0)
        pushed_kept = record {
          items = kept.items ∙ sym rows2_many;
          items_of_pwqs = kept.items_of_pwqs ∙ sym rows2_many;
          one = length-set all.lists 0 (items ++ x.item.0 ∷ []) ∙ kept.one;
          each = subst (AllByRecursion (HasOwnRow rows2)) (sym (all_pushed x)) (rows2_each cpu);
          of_pwqs = λ p less. of_pwqs_pushed p (rw (length-set pwqs.lists) at less)
              ∙ ap (filter (is_at_place rows2 p)) (sym (all_pushed x));
        }

  -- an item that none of all is, is of no pwq
  pub of_no_pwq : (i : ℕ) → has_item i items ≡ false → list_of pwqs.lists i ≡ None
  of_no_pwq i lacks =
      in_none pwqs.lists i (λ p less. ap (has_item i) (kept.of_pwqs p less)
      ∙ filtered_lacks (is_at_place rows p) i items lacks)

  pub of_no_item : (i : ℕ) → has_item i items ≡ false → list_of all.lists i ≡ None
  of_no_item i lacks = in_none all.lists i (one_lacks all.lists i kept.one lacks)

  pub free_item : (i : ℕ) → list_any (is_of i) (map (row_of rows) items) ≡ false → has_item i items ≡ false
  free_item i free = sym (of_item rows i items kept.each) ∙ free

  -- ---- what is seen afterwards

  abbrev seen : ℕ → ℕ → List Queueing → WaitingState
  seen n m ys = record { items = n; places = m; queueings = ys }

  pub unlinked_seen : (i : ℕ)
      → seen (length rows) (length (lists_without pwqs i).lists)
      (map (row_of rows) (list_at (lists_without all i).lists 0))
      ≡ seen (length rows) (length pwqs.lists) (filter (is_of_other i) (map (row_of rows) items))
  unlinked_seen i =
      ap₂ (λ m ys. seen (length rows) m ys) (length-map pwqs.lists (without_item i))
      (ap (map (row_of rows)) (all_without i) ∙ unlinked_rest rows i items kept.each)

  pub unlinked_by_index : AreListedOnce all → (i k : ℕ) (x : Queueing) → slice_get (map (row_of rows) items) k ≡ Some x
      → x.item.0 ≡ i →
      map (row_of rows) (list_at (lists_without all i).lists 0) ≡ take k (map (row_of rows) items)
      ++ drop (k + 1) (map (row_of rows) items)
  unlinked_by_index once i k x at same =
      let one_more : suc k ≡ k + 1 = omega arith in
      ap (map (row_of rows)) (all_without i)
      ∙ (unlinked_at rows items k i (once.distinct 0) ((item_at rows items k x kept.each at).0 ∙ ap Some same)
      ∙ ap (λ n. take k (map (row_of rows) items) ++ drop n (map (row_of rows) items)) one_more)

  pub pushed_seen : (x : Queueing) → x.item.0 < length rows → has_item x.item.0 items ≡ false →
      seen (length (slice_set rows x.item.0 x))
      (length (lists_with pwqs (place_of x.place.queue.0 x.place.cpu.0) x.item.0).lists)
      (map (row_of (slice_set rows x.item.0 x)) (list_at (lists_with all 0 x.item.0).lists 0))
      ≡ seen (length rows) (length pwqs.lists) (map (row_of rows) items ++ x ∷ [])
  pushed_seen x inside lacks =
      ap (λ n. seen n (length (lists_with pwqs (place_of x.place.queue.0 x.place.cpu.0) x.item.0).lists)
      (map (row_of (slice_set rows x.item.0 x)) (list_at (lists_with all 0 x.item.0).lists 0)))
      (length-set rows x.item.0 x)
      ∙ ap₂ (λ m ys. seen (length rows) m ys) (length-set pwqs.lists (place_of x.place.queue.0 x.place.cpu.0) _)
      (ap (map (row_of (slice_set rows x.item.0 x))) (all_pushed x) ∙ pushed_behind x inside lacks)

-- ---- a queueing that may wait

module _ (rows : List Queueing) (x : Queueing) where
  -- whether it stands in its item's row
  abbrev pub is_in_row : Bool
  is_in_row = nat_eq (row_of rows x.item.0).number x.number

  number_in_row : (xs : List ℕ) → AllByRecursion (HasOwnRow rows) xs → IsNumberOfItem x (map (row_of rows) xs)
      → list_any (has_number x.number) (map (row_of rows) xs) ≡ (is_in_row && has_item x.item.0 xs)
  number_in_row [] each of = sym (and_false is_in_row)
  number_in_row (y ∷ ys) each of = grind (arith, number_in_row ys each.1 of.1)

  -- where it waits, the others are those of other items
  others_by_number : (xs : List ℕ) → AllByRecursion (HasOwnRow rows) xs → IsNumberOfItem x (map (row_of rows) xs)
      → is_in_row ≡ true → filter (is_of_other x.item.0) (map (row_of rows) xs)
      ≡ filter (is_other_waiting x.number) (map (row_of rows) xs)
  others_by_number xs each of is =
      filter_same (is_of_other x.item.0) (is_other_waiting x.number) (map (row_of rows) xs) (alike xs each of)
    where
      alike : (xs : List ℕ) → AllByRecursion (HasOwnRow rows) xs → IsNumberOfItem x (map (row_of rows) xs)
          → AllByRecursion (λ y. is_of_other x.item.0 y ≡ is_other_waiting x.number y) (map (row_of rows) xs)
      alike [] each of = tt
      alike (y ∷ ys) each of = grind (arith, alike ys each.1 of.1)

  module _ (all pwqs : Listed) (kept : AreWaitingKept rows all pwqs)
      (of : IsNumberOfItem x (map (row_of rows) (list_at all.lists 0))) where
    pub waits_in_row : (is_in_row && is_some (list_of all.lists x.item.0))
        ≡ list_any (has_number x.number) (map (row_of rows) (list_at all.lists 0))
    waits_in_row = ap (λ b. is_in_row && b) (in_one all.lists x.item.0 kept.one)
        ∙ sym (number_in_row (list_at all.lists 0) kept.each of)

    pub rest_by_number : is_in_row ≡ true → filter (is_of_other x.item.0) (map (row_of rows) (list_at all.lists 0))
        ≡ filter (is_other_waiting x.number) (map (row_of rows) (list_at all.lists 0))
    rest_by_number is = others_by_number (list_at all.lists 0) kept.each of is

-- where none passes, none is taken out
pub rest_of_none : (n : ℕ) (ys : List Queueing) → list_any (has_number n) ys ≡ false
    → ys ≡ filter (is_other_waiting n) ys
rest_of_none n ys fails =
    sym (filter_all (is_other_waiting n) ys (All_map _ _ ys (λ y e. ap not e) (none_pass (has_number n) ys fails)))

-- ---- the first of a place

-- the first that passes stands at k, after such as fail
record IsFirstAt (rows : List Queueing) (p : ℕ) (xs : List ℕ) (i k : ℕ) : Type 0 where
  at : slice_get xs k ≡ Some i
  passes : is_at_place rows p i ≡ true
  fail : AllByRecursion (λ y. nat_eq (place_of y.place.queue.0 y.place.cpu.0) p ≡ false) (take k (map (row_of rows) xs))

first_at : (rows : List Queueing) (p : ℕ) (xs : List ℕ) (i : ℕ) → slice_get (filter (is_at_place rows p) xs) 0 ≡ Some i
    → (k : ℕ) × IsFirstAt rows p xs i k
first_at rows p [] i e = absurd (let bad : None ≡ Some i = e in cc)
first_at rows p (x ∷ xs) i e = by (is_at_place rows p x) refl e (first_at rows p xs i)
  where
    by : (b : Bool) → is_at_place rows p x ≡ b
        → slice_get (cond b (x ∷ filter (is_at_place rows p) xs) (filter (is_at_place rows p) xs)) 0 ≡ Some i
        → (slice_get (filter (is_at_place rows p) xs) 0 ≡ Some i → (k : ℕ) × IsFirstAt rows p xs i k)
        → (k : ℕ) × IsFirstAt rows p (x ∷ xs) i k
    by true is e later = let same : x ≡ i = same_Some x i e in
        (0, record { at = e; passes = ap (is_at_place rows p) (sym same) ∙ is; fail = tt })
    by false fails e later = let found = later e in
        (suc found.0, record { at = found.1.at; passes = found.1.passes; fail = (fails, found.1.fail) })

none_at : (rows : List Queueing) (p : ℕ) (xs : List ℕ) → slice_get (filter (is_at_place rows p) xs) 0 ≡ None
    → AllByRecursion (λ y. nat_eq (place_of y.place.queue.0 y.place.cpu.0) p ≡ false) (map (row_of rows) xs)
none_at rows p [] e = tt
none_at rows p (x ∷ xs) e = grind (arith, none_at rows p xs)

-- what is not at the place is not on that queue and CPU
not_on : (q c : ℕ) (ys : List Queueing)
    → AllByRecursion (λ y. nat_eq (place_of y.place.queue.0 y.place.cpu.0) (place_of q c) ≡ false) ys
    → AllByRecursion (λ y. is_on q c y ≡ false) ys
not_on q c ys none = grind (arith, All_map, false_from_ne_true, on_parts)

module _ (rows : List Queueing) (all pwqs : Listed) (kept : AreWaitingKept rows all pwqs) (q c : ℕ)
    (cpu : c < most_cpus) (place : place_of q c < length pwqs.lists) where
  abbrev xs : List ℕ
  xs = list_at all.lists 0

  pub first_row : (i : ℕ) → slice_get (list_at pwqs.lists (place_of q c)) 0 ≡ Some i → HasOwnRow rows i
  first_row i e = let found =
      first_at rows (place_of q c) xs i (ap (λ ys. slice_get ys 0) (sym (kept.of_pwqs (place_of q c) place)) ∙ e) in
      row_at rows xs found.0 i kept.each found.1.at

  pub first_taken : (i : ℕ) (rest : List Queueing) → slice_get (list_at pwqs.lists (place_of q c)) 0 ≡ Some i
      → ((k : ℕ) (x : Queueing) → slice_get (map (row_of rows) xs) k ≡ Some x → x.item.0 ≡ (row_of rows i).item.0
      → rest ≡ take k (map (row_of rows) xs) ++ drop (k + 1) (map (row_of rows) xs))
      → IsFirstTaken q c (map (row_of rows) xs) rest (row_of rows i)
  first_taken i rest e taken =
      let found =
      first_at rows (place_of q c) xs i (ap (λ ys. slice_get ys 0) (sym (kept.of_pwqs (place_of q c) place)) ∙ e) in
      let k = found.0 in
      let ys = map (row_of rows) xs in
      let row = row_at rows xs k i kept.each found.1.at in
      let at : slice_get ys k ≡ Some (row_of rows i) =
      slice_get-map (row_of rows) xs k ∙ ap (option_map (row_of rows)) found.1.at in
      let one =
      one_place (row_of rows i).place.queue.0 (row_of rows i).place.cpu.0 q c row.cpu cpu
      (eqb-true _ (place_of q c) found.1.passes) in
      record {
        before = take k ys;
        after = drop (k + 1) ys;
        stood = sym (take-append-drop k ys)
            ∙ ap (λ zs. take k ys ++ zs) (drop_more ys k (row_of rows i) (slice_get_within ys k (row_of rows i) at)
            ∙ ap (λ y. y ∷ drop (k + 1) ys) (get_or_from_slice_get ys k (row_of rows i) (row_of rows i) at));
        left = taken k (row_of rows i) at refl;
        is_there = on_itself q c (row_of rows i) one.0 one.1;
        none_before = not_on q c (take k ys) found.1.fail;
      }

  pub none_there : slice_get (list_at pwqs.lists (place_of q c)) 0 ≡ None
      → AllByRecursion (λ y. is_on q c y ≡ false) (map (row_of rows) xs)
  none_there e =
      not_on q c (map (row_of rows) xs)
      (none_at rows (place_of q c) xs (ap (λ ys. slice_get ys 0) (sym (kept.of_pwqs (place_of q c) place)) ∙ e))
