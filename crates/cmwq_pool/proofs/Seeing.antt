-- What the parts of the pools are seen as, and what a change of the parts changes.
use Rattle.cmwq_pool.specs.Common.{◌≡◌, ◌≢◌, ℕ, zero, suc, ◌+◌, ◌<◌, ◌||◌, true}
use Rattle.cmwq_pool.specs.Common.{false, not, List, [], ◌∷◌, ◌++◌, length, get_or, set, map, find, option_map, refl}
use Rattle.cmwq_pool.specs.Common.{sym, ap, ap₂, ◌∙◌, arith, replicate, slice_set, slice_index_or, range_with_len}
use Rattle.cmwq_pool.specs.Common.{list_any, length-set, length-replicate, get_or-set_same, get_or-set_other}
use Rattle.std.proofs.Common.{⊎_elim}
use Rattle.std.proofs.lemmas.Bool.{cases_eq, cases_lt, false_from_ne_true, false≢true, or_right}
use Rattle.std.proofs.lemmas.List.{ext_get_or, get_or-map, get_or-replicate, get_or_default, get_or_past}
use Rattle.std.proofs.lemmas.List.FromFn.{fill_by_all, get_or-map-range_with_len, length-map-range_with_len}
use Rattle.cmwq_list.specs.Lists.{Listed, list_at, has_item, without_item, lists_with, lists_without}
use Rattle.cmwq_list.specs.Lists.{AreListedOnce}
use Rattle.cmwq_pool.specs.declared.note.Note.{Note}
use Rattle.cmwq_pool.specs.declared.slot.Slot.{Slot}
use Rattle.cmwq_pool.specs.Slots.{slots_run_item, slots_started}
use Rattle.cmwq_pool.specs.PoolState.{PoolState, task, is_task, next_task, pool_with_run, pool_with_task}
use Rattle.cmwq_pool.specs.PoolState.{pool_without_task}
use Rattle.cmwq_pool.specs.Pools.{no_pool, pool_numbered, with_pool, lists_item, may_list, AreOfOneShape}
use Rattle.cmwq_pool.specs.Upkeep.{note_at, noted_task, pool_seen, pools_seen}
use Rattle.cmwq_pool.proofs.Starting.{same_pool_state}
use Rattle.cmwq_pool.proofs.Tasks.{any_item, taken, kept_notes, added, first_startable, filter_lacking}
use Rattle.cmwq_list.proofs.Members.{without_none}

-- ---- each pool by its number

pub seen_at : (lists : Listed) (notes : List Note) (workers : List (List Slot)) (p : ℕ) → p < length workers
    → pool_numbered (pools_seen lists notes workers) p ≡ pool_seen lists notes workers p
seen_at lists notes workers p less =
    get_or-map-range_with_len (pool_seen lists notes workers) 0 (length workers) p p no_pool less (omega arith)

pub seen_many : (lists : Listed) (notes : List Note) (workers : List (List Slot))
    → length (pools_seen lists notes workers) ≡ length workers
seen_many lists notes workers = length-map-range_with_len (pool_seen lists notes workers) 0 (length workers)

-- pools of one shape have parts of one size
module _ (lists lists1 : Listed) (notes notes1 : List Note) (workers workers1 : List (List Slot))
    (shape : AreOfOneShape (pools_seen lists notes workers) (pools_seen lists1 notes1 workers1)) where
  pub as_many : length workers ≡ length workers1
  as_many = sym (seen_many lists notes workers) ∙ (shape.many ∙ seen_many lists1 notes1 workers1)

  pub as_many_items : 0 < length workers → lists.items ≡ lists1.items
  as_many_items some =
      ap (λ (l : PoolState). l.items) (sym (seen_at lists notes workers 0 some))
      ∙ (shape.items 0
      ∙ ap (λ (l : PoolState). l.items) (seen_at lists1 notes1 workers1 0 (omega (arith, as_many))))

  pub as_many_workers : (p : ℕ) → length (slice_index_or workers p []) ≡ length (slice_index_or workers1 p [])
  as_many_workers p = ⊎_elim
      (λ less. ap (λ (l : PoolState). length l.slots) (sym (seen_at lists notes workers p less))
      ∙ (shape.workers p
      ∙ ap (λ (l : PoolState). length l.slots) (seen_at lists1 notes1 workers1 p (omega (arith, less, as_many)))))
      (λ past. ap length (get_or_past workers p [] past)
      ∙ sym (ap length (get_or_past workers1 p [] (omega (arith, past, as_many))))) (cases_lt p (length workers))

-- one of them changes
pub one_changed : (a b : List PoolState) (p : ℕ) (y : PoolState) → length b ≡ length a → p < length a
    → pool_numbered b p ≡ y → ((q : ℕ) → q < length a → q ≢ p → pool_numbered b q ≡ pool_numbered a q)
    → b ≡ slice_set a p y
one_changed a b p y same less here others =
    ext_get_or no_pool b (slice_set a p y) (same ∙ sym (length-set a p y)) (λ q low. ⊎_elim
    (λ is. ap (pool_numbered b) is
    ∙ (here ∙ (sym (get_or-set_same a p y no_pool less) ∙ ap (λ k. get_or (slice_set a p y) k no_pool) (sym is))))
    (λ differs. others q (omega (arith, low, same)) differs ∙ sym (get_or-set_other a p q y no_pool differs))
    (cases_eq q p))

-- the parts change, and with them what is seen of one pool
pub parts_changed : (lists lists1 : Listed) (notes notes1 : List Note) (workers workers1 : List (List Slot)) (p : ℕ)
    (change : PoolState → PoolState) → length workers1 ≡ length workers → p < length workers
    → pool_seen lists1 notes1 workers1 p ≡ change (pool_seen lists notes workers p)
    → ((q : ℕ) → q < length workers → q ≢ p → pool_seen lists1 notes1 workers1 q ≡ pool_seen lists notes workers q)
    → pools_seen lists1 notes1 workers1 ≡ with_pool change p (pools_seen lists notes workers)
parts_changed lists lists1 notes notes1 workers workers1 p change many less here others =
    grind (arith, one_changed, seen_many, seen_at)

module _ (lists : Listed) (notes : List Note) (workers : List (List Slot)) (p : ℕ) (less : p < length workers) where
  -- the slots of one pool change
  pub slots_changed : (change : List Slot → List Slot) (workers1 : List (List Slot))
      → workers1 ≡ slice_set workers p (change (slice_index_or workers p []))
      → pools_seen lists notes workers1
      ≡ with_pool (λ l. record l { slots = change l.slots }) p (pools_seen lists notes workers)
  slots_changed change workers1 is = ap (pools_seen lists notes) is
      ∙ parts_changed lists lists notes notes workers (slice_set workers p new) p
      (λ l. record l { slots = change l.slots }) (length-set workers p new) less
      (same_pool_state (pool_seen lists notes (slice_set workers p new) p)
      (record (pool_seen lists notes workers p) { slots = new }) refl refl (get_or-set_same workers p new [] less))
      (λ q low differs. same_pool_state (pool_seen lists notes (slice_set workers p new) q)
      (pool_seen lists notes workers q) refl refl (get_or-set_other workers p q new [] differs))
    where
      new : List Slot
      new = change (slice_index_or workers p [])

  -- an item that no pool lists joins the list of one
  pub item_added : (i : ℕ) (y : Note) → length lists.lists ≡ length workers → i < length notes
      → ((q : ℕ) → has_item i (list_at lists.lists q) ≡ false)
      → pools_seen (lists_with lists p i) (set notes i y) workers
      ≡ with_pool (λ l. pool_with_task l (task y.number i y.intensive)) p (pools_seen lists notes workers)
  item_added i y many low nowhere =
      parts_changed lists (lists_with lists p i) notes (set notes i y) workers workers p
      (λ l. pool_with_task l (task y.number i y.intensive)) refl less
      (same_pool_state (pool_seen (lists_with lists p i) (set notes i y) workers p)
      (pool_with_task (pool_seen lists notes workers p) (task y.number i y.intensive)) refl
      (ap (map (noted_task (set notes i y)))
      (get_or-set_same lists.lists p (list_at lists.lists p ++ i ∷ []) [] (rw many less))
      ∙ added notes i y (list_at lists.lists p) low (nowhere p)) refl)
      (λ q less1 differs. same_pool_state (pool_seen (lists_with lists p i) (set notes i y) workers q)
      (pool_seen lists notes workers q) refl
      (ap (map (noted_task (set notes i y)))
      (get_or-set_other lists.lists p q (list_at lists.lists p ++ i ∷ []) [] differs)
      ∙ kept_notes notes i y (list_at lists.lists q) (nowhere q)) refl)

  -- an item leaves the list that it is in
  left_at : (i q : ℕ) → length lists.lists ≡ length workers → q < length workers
      → list_at (lists_without lists i).lists q ≡ without_item i (list_at lists.lists q)
  left_at i q many low = get_or-map (without_item i) lists.lists q [] [] (rw many low)

  left_others : (i q : ℕ) → length lists.lists ≡ length workers → AreListedOnce lists
      → has_item i (list_at lists.lists p) ≡ true → q < length workers → q ≢ p → list_at (lists_without lists i).lists q
      ≡ list_at lists.lists q
  left_others i q many once here low differs =
      left_at i q many low
      ∙ without_none i (list_at lists.lists q)
      (false_from_ne_true (has_item i (list_at lists.lists q)) (λ also. differs (once.apart i q p also here)))

  pub item_removed : (n i : ℕ) → length lists.lists ≡ length workers → AreListedOnce lists
      → has_item i (list_at lists.lists p) ≡ true → (note_at notes i).number ≡ n
      → pools_seen (lists_without lists i) notes workers
      ≡ with_pool (λ l. pool_without_task l n i) p (pools_seen lists notes workers)
  item_removed n i many once here number =
      parts_changed lists (lists_without lists i) notes notes workers workers p (λ l. pool_without_task l n i) refl less
      (same_pool_state (pool_seen (lists_without lists i) notes workers p)
      (pool_without_task (pool_seen lists notes workers p) n i) refl
      (ap (map (noted_task notes)) (left_at i p many less) ∙ taken notes n i (list_at lists.lists p) number) refl)
      (λ q low differs. same_pool_state (pool_seen (lists_without lists i) notes workers q)
      (pool_seen lists notes workers q) refl
      (ap (map (noted_task notes)) (left_others i q many once here low differs)) refl)

  pub none_removed : (n i : ℕ) → list_any (is_task n i) (map (noted_task notes) (list_at lists.lists p)) ≡ false
      → pools_seen lists notes workers ≡ with_pool (λ l. pool_without_task l n i) p (pools_seen lists notes workers)
  none_removed n i lacks =
      parts_changed lists lists notes notes workers workers p (λ l. pool_without_task l n i) refl less
      (same_pool_state (pool_seen lists notes workers p) (pool_without_task (pool_seen lists notes workers p) n i) refl
      (sym (filter_lacking n i (map (noted_task notes) (list_at lists.lists p)) lacks)) refl)
      (λ q low differs. refl)

  -- an item leaves its list, and a worker runs it
  pub item_started : (w i : ℕ) (workers1 : List (List Slot)) → length lists.lists ≡ length workers → AreListedOnce lists
      → has_item i (list_at lists.lists p) ≡ true
      → workers1 ≡ slice_set workers p (slots_started (slice_index_or workers p []) w (noted_task notes i))
      → pools_seen (lists_without lists i) notes workers1
      ≡ with_pool (λ l. pool_with_run l w (noted_task notes i)) p (pools_seen lists notes workers)
  item_started w i workers1 many once here is = ap (pools_seen (lists_without lists i) notes) is
      ∙ parts_changed lists (lists_without lists i) notes notes workers (slice_set workers p new) p
      (λ l. pool_with_run l w (noted_task notes i)) (length-set workers p new) less
      (same_pool_state (pool_seen (lists_without lists i) notes (slice_set workers p new) p)
      (pool_with_run (pool_seen lists notes workers p) w (noted_task notes i)) refl
      (ap (map (noted_task notes)) (left_at i p many less)
      ∙ taken notes (note_at notes i).number i (list_at lists.lists p) refl)
      (get_or-set_same workers p new [] less))
      (λ q low differs. same_pool_state (pool_seen (lists_without lists i) notes (slice_set workers p new) q)
      (pool_seen lists notes workers q) refl
      (ap (map (noted_task notes)) (left_others i q many once here low differs))
      (get_or-set_other workers p q new [] differs))
    where
      new : List Slot
      new = slots_started (slice_index_or workers p []) w (noted_task notes i)

  -- what it would start next
  pub next_seen : (slots : List Slot) → slots ≡ slice_index_or workers p []
      → next_task (pool_numbered (pools_seen lists notes workers) p)
      ≡ option_map (noted_task notes) (find (λ i. not (slots_run_item slots i)) (list_at lists.lists p))
  next_seen slots is = ap next_task (seen_at lists notes workers p less)
      ∙ (first_startable notes (slice_index_or workers p []) (list_at lists.lists p)
      ∙ ap (λ ss. option_map (noted_task notes) (find (λ i. not (slots_run_item ss i)) (list_at lists.lists p)))
      (sym is))

-- ---- whether a pool lists an item

module _ (lists : Listed) (notes : List Note) (workers : List (List Slot)) (i : ℕ) where
  lists_it : (q : ℕ) → lists_item i (pool_seen lists notes workers q) ≡ has_item i (list_at lists.lists q)
  lists_it q = any_item notes i (list_at lists.lists q)

  pub one_lists : (q : ℕ) → q < length workers → has_item i (list_at lists.lists q) ≡ true
      → list_any (lists_item i) (pools_seen lists notes workers) ≡ true
  one_lists q low here = go 0 q (length workers) (omega arith) low
    where
      go : (a k n : ℕ) → a + k ≡ q → k < n
          → list_any (lists_item i) (map (pool_seen lists notes workers) (range_with_len a n)) ≡ true
      go a k zero at less = absurd (omega arith)
      go a zero (suc n) at less =
          ap (λ b. b || list_any (lists_item i) (map (pool_seen lists notes workers) (range_with_len (a + 1) n)))
          (lists_it a ∙ (ap (λ j. has_item i (list_at lists.lists j)) (let same : a ≡ q = omega arith in same) ∙ here))
      go a (suc k) (suc n) at less =
          or_right (lists_item i (pool_seen lists notes workers a))
          (list_any (lists_item i) (map (pool_seen lists notes workers) (range_with_len (a + 1) n)))
          (go (a + 1) k n (omega arith) (omega arith))

  -- an item that may be listed is one of those there are, and is in no list
  pub may_be_listed : (pools : List PoolState) (p : ℕ) → pools_seen lists notes workers ≡ pools → p < length workers
      → length lists.lists ≡ length workers → may_list pools p i ≡ true
      → (i < lists.items) × ((q : ℕ) → has_item i (list_at lists.lists q) ≡ false)
  may_be_listed pools p is less many may =
      grind (arith, seen_at, false_from_ne_true, false≢true, one_lists, get_or_past)

-- ---- new pools

pub seen_at_first : (pools items : ℕ) (notes : List Note) (slots : List Slot)
    → pools_seen (record { items = items; lists = replicate pools [] }) notes (replicate pools slots)
    ≡ replicate pools (record { items = items; listed = []; slots = slots })
seen_at_first pools items notes slots =
    let seen = pool_seen (record { items = items; lists = replicate pools [] }) notes (replicate pools slots) in
    let new : PoolState = record { items = items; listed = []; slots = slots } in
    ap (λ n. map seen (range_with_len 0 n)) (length-replicate pools slots)
    ∙ sym (fill_by_all seen (replicate pools new) pools no_pool (length-replicate pools new) (λ k less.
    get_or-replicate pools k new no_pool less
    ∙ sym (same_pool_state (seen k) new refl (ap (map (noted_task notes)) (get_or-replicate pools k [] [] less))
    (get_or-replicate pools k slots [] less))))

-- ---- a pool's slots by its place

pub there : (lists : Listed) (notes : List Note) (workers : List (List Slot)) (pools : List PoolState) (p : ℕ)
    → pools_seen lists notes workers ≡ pools → p < length pools → p < length workers
there lists notes workers pools p is less = let same : length pools ≡ length workers =
    ap length (sym is) ∙ seen_many lists notes workers in omega (arith, less, same)

pub at_place : (workers : List (List Slot)) (p i : ℕ) (v : List Slot) → p < length workers → i ≡ p
    → v ≡ get_or workers i v → v ≡ slice_index_or workers p []
at_place workers p i v less at is = is ∙ (ap (λ k. get_or workers k v) at ∙ get_or_default workers p v [] less)

pub slots_at : (lists : Listed) (notes : List Note) (workers : List (List Slot)) (pools : List PoolState) (p i : ℕ)
    (v : List Slot) → pools_seen lists notes workers ≡ pools → p < length workers → i ≡ p → v ≡ get_or workers i v
    → (pool_numbered pools p).slots ≡ v
slots_at lists notes workers pools p i v is less at here = grind (arith, seen_at, at_place)

-- what is written back at that place
pub placed : (workers : List (List Slot)) (p i : ℕ) (v new : List Slot) (change : List Slot → List Slot)
    → p < length workers → i ≡ p → v ≡ get_or workers i v → new ≡ change v
    → slice_set workers i new ≡ slice_set workers p (change (slice_index_or workers p []))
placed workers p i v new change less at here made =
    ap₂ (λ k y. slice_set workers k y) at (made ∙ ap change (at_place workers p i v less at here))
