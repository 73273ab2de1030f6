-- What stands in the lists of pools, each item with what is noted of it.
use Rattle.cmwq_pool.specs.Common.{◌≡◌, ℕ, ◌<◌, ◌&&◌, ◌||◌, Bool, true, false, eqb, not, List, [], ◌∷◌, ◌++◌, length}
use Rattle.cmwq_pool.specs.Common.{set, map, filter, find, Option, Some, None, refl, sym, ap, ap₂, ◌∙◌, arith, is_some}
use Rattle.cmwq_pool.specs.Common.{option_map, nat_eq, list_any, get_or-set_same, get_or-set_other}
use Rattle.std.proofs.lemmas.Bool.{and_parts, eqb-true, eqb-false, eq-eqb, or_parts, false≢true}
use Rattle.std.proofs.lemmas.List.{get_or_past, map_push}
use Rattle.std.proofs.lemmas.List.Sums.{fails_before_first}
use Rattle.std.proofs.lemmas.Option.{same_Some, slice_get-map}
use Rattle.std.specs.Prelude.{slice_get}
use Rattle.cmwq_lemmas.proofs.Truth.{not_chosen, same_bools, and_false, and_true}
use Rattle.cmwq_list.specs.Lists.{Listed, AreListedOnce, list_at, list_of, has_item, without_item}
use Rattle.cmwq_pool.specs.declared.note.Note.{Note}
use Rattle.cmwq_pool.specs.declared.task.Task.{Task}
use Rattle.cmwq_pool.specs.declared.slot.Slot.{Slot}
use Rattle.cmwq_pool.specs.Slots.{is_task_of, slots_run_item}
use Rattle.cmwq_pool.specs.PoolState.{task, is_task, is_other_task, is_task_startable}
use Rattle.cmwq_pool.specs.Upkeep.{no_note, note_at, noted_task}
use Rattle.cmwq_list.proofs.Members.{owner_has}

flipped : (a b : ℕ) → eqb a b ≡ eqb b a
flipped a b =
    same_bools (eqb a b) (eqb b a) (λ h. eq-eqb b a (sym (eqb-true a b h))) (λ h. eq-eqb a b (sym (eqb-true b a h)))

-- ---- which list has an item

-- where none is told to have it no list has it
pub no_owner : (ls : List (List ℕ)) (i q : ℕ) → list_of ls i ≡ None → has_item i (list_at ls q) ≡ false
no_owner ls i q h = grind (arith, not_chosen, fails_before_first, get_or_past)

pub in_no_list : (ls : List (List ℕ)) (i : ℕ) → ((q : ℕ) → has_item i (list_at ls q) ≡ false) → list_of ls i ≡ None
in_no_list ls i nowhere = by (list_of ls i) refl
  where
    by : (o : Option ℕ) → list_of ls i ≡ o → list_of ls i ≡ None
    by None h = h
    by (Some l) h = absurd (false≢true (sym (nowhere l) ∙ owner_has ls i l h))

-- ---- tasks of a list

module _ (notes : List Note) where
  pub any_item : (i : ℕ) (xs : List ℕ) → list_any (is_task_of i) (map (noted_task notes) xs) ≡ has_item i xs
  any_item i [] = refl
  any_item i (x ∷ xs) = ap₂ (λ a b. a || b) (flipped x i) (any_item i xs)

  pub any_task : (n i : ℕ) (xs : List ℕ) → list_any (is_task n i) (map (noted_task notes) xs)
      ≡ (has_item i xs && eqb (note_at notes i).number n)
  any_task n i [] = refl
  any_task n i (x ∷ xs) = grind (arith, any_task n i xs)

  -- so it is listed exactly where its item is, with its number
  pub task_parts : (n i : ℕ) (xs : List ℕ) → list_any (is_task n i) (map (noted_task notes) xs) ≡ true
      → (has_item i xs ≡ true) × ((note_at notes i).number ≡ n)
  task_parts n i xs h = let parts =
      and_parts (has_item i xs) (eqb (note_at notes i).number n) (sym (any_task n i xs) ∙ h) in
      (parts.0, eqb-true (note_at notes i).number n parts.1)

  pub no_task : (n i : ℕ) (xs : List ℕ) → has_item i xs ≡ false → list_any (is_task n i) (map (noted_task notes) xs)
      ≡ false
  no_task n i xs lacks = any_task n i xs ∙ ap (λ b. b && eqb (note_at notes i).number n) lacks

  pub other_number : (n i : ℕ) (xs : List ℕ) → eqb (note_at notes i).number n ≡ false
      → list_any (is_task n i) (map (noted_task notes) xs) ≡ false
  other_number n i xs differs = any_task n i xs ∙ (ap (λ b. has_item i xs && b) differs ∙ and_false (has_item i xs))

  pub owned_task : (lists : Listed) (o l n i : ℕ) → AreListedOnce lists → list_of lists.lists i ≡ Some o
      → eqb (note_at notes i).number n ≡ true
      → eqb o l ≡ list_any (is_task n i) (map (noted_task notes) (list_at lists.lists l))
  owned_task lists o l n i once owner number =
      let owned = owner_has lists.lists i o owner in
      same_bools (eqb o l) (has_item i (list_at lists.lists l))
      (λ h. ap (λ k. has_item i (list_at lists.lists k)) (sym (eqb-true o l h)) ∙ owned)
      (λ h. eq-eqb o l (once.apart i o l owned h))
      ∙ sym (any_task n i (list_at lists.lists l)
      ∙ (ap (λ b. has_item i (list_at lists.lists l) && b) number ∙ and_true (has_item i (list_at lists.lists l))))

  -- ---- what leaves a list

  same_test : (n i x : ℕ) → (note_at notes i).number ≡ n → not (nat_eq i x) ≡ is_other_task n i (noted_task notes x)
  same_test n i x number = grind arith

  pub taken : (n i : ℕ) (xs : List ℕ) → (note_at notes i).number ≡ n → map (noted_task notes) (without_item i xs)
      ≡ filter (is_other_task n i) (map (noted_task notes) xs)
  taken n i [] number = refl
  taken n i (x ∷ xs) number = grind (arith, taken n i xs number)

  -- ---- what joins a list

  pub kept_notes : (i : ℕ) (y : Note) (xs : List ℕ) → has_item i xs ≡ false → map (noted_task (set notes i y)) xs
      ≡ map (noted_task notes) xs
  kept_notes i y [] h = refl
  kept_notes i y (x ∷ xs) h =
      let parts = or_parts (nat_eq i x) (has_item i xs) h in
      ap₂ (λ t ts. t ∷ ts)
      (ap (λ (m : Note). task m.number x m.intensive)
      (get_or-set_other notes i x y no_note (λ e. eqb-false i x parts.0 (sym e)))) (kept_notes i y xs parts.1)

  pub added : (i : ℕ) (y : Note) (xs : List ℕ) → i < length notes → has_item i xs ≡ false
      → map (noted_task (set notes i y)) (xs ++ i ∷ []) ≡ map (noted_task notes) xs ++ task y.number i y.intensive ∷ []
  added i y xs low h =
      map_push (noted_task (set notes i y)) xs i
      ∙ ap₂ (λ ts t. ts ++ t ∷ []) (kept_notes i y xs h)
      (ap (λ (m : Note). task m.number i m.intensive) (get_or-set_same notes i y no_note low))

  -- ---- the first that may start

  pub first_startable : (slots : List Slot) (xs : List ℕ) → find (is_task_startable slots) (map (noted_task notes) xs)
      ≡ option_map (noted_task notes) (find (λ i. not (slots_run_item slots i)) xs)
  first_startable slots [] = refl
  first_startable slots (x ∷ xs) = grind (arith, first_startable slots xs)

pub found_has : (p : ℕ → Bool) (xs : List ℕ) (i : ℕ) → find p xs ≡ Some i → has_item i xs ≡ true
found_has p [] i h = cc
found_has p (x ∷ xs) i h = grind (arith, found_has p xs i)

-- all but a task that isn't there is all
pub filter_lacking : (n i : ℕ) (ts : List Task) → list_any (is_task n i) ts ≡ false → filter (is_other_task n i) ts ≡ ts
filter_lacking n i [] h = refl
filter_lacking n i (t ∷ ts) h = grind (arith, filter_lacking n i ts)

pub empty_lacks : (i : ℕ) (xs : List ℕ) → length xs ≡ 0 → has_item i xs ≡ false
empty_lacks i [] h = refl
empty_lacks i (x ∷ xs) h = absurd (omega arith)

pub some_first : {A B C : Type 0} (f : B → C) (g : A → B) (o : Option A) → is_some (option_map f (option_map g o))
    ≡ true → is_some o ≡ true
some_first f g o h = grind arith

-- an item stands where its task is listed
pub listed_item : (notes : List Note) (xs : List ℕ) (k i : ℕ) (t : Task)
    → slice_get (map (noted_task notes) xs) k ≡ Some t
    → t.item.0 ≡ i → slice_get xs k ≡ Some i
listed_item notes xs k i t at item = by (slice_get xs k) refl (sym (slice_get-map (noted_task notes) xs k) ∙ at)
  where
    by : (o : Option ℕ) → slice_get xs k ≡ o → option_map (noted_task notes) (slice_get xs k) ≡ Some t
        → slice_get xs k ≡ Some i
    by None is h = let bad : None ≡ Some t = sym (ap (option_map (noted_task notes)) is) ∙ h in cc
    by (Some j) is h =
        let task : noted_task notes j ≡ t =
        same_Some (noted_task notes j) t (sym (ap (option_map (noted_task notes)) is) ∙ h) in
        is ∙ ap Some (ap (λ (u : Task). u.item.0) task ∙ item)
