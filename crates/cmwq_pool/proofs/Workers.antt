-- What is kept beside the slots: counts, and the bits of the reserve.
use Rattle.cmwq_pool.specs.Common.{Bool, List, None, Option, Some, [], ap, ap₂, arith, cond, count_by, false, find}
use Rattle.cmwq_pool.specs.Common.{get_or, is_some, length, length-set, list_any, map, nat_lt, not, range_with_len}
use Rattle.cmwq_pool.specs.Common.{refl, option_map_or, slice_set, suc, sym, true, zero, ℕ, ◌&&◌, ◌||◌, ◌+◌, ◌<◌, ◌∙◌}
use Rattle.cmwq_pool.specs.Common.{◌∷◌, ◌≡◌, ◌≢◌, ◌≤◌, get_or-set_same, get_or-set_other, nat_eq}
use Rattle.std.proofs.Common.{⊎_elim, ◌*◌, ◌^◌, ◌%◌, ◌-◌, min}
use Rattle.std.proofs.lemmas.Bool.{cases_eq, cases_lt, cond-true, cond-false, eq-eqb, ne_eqb, false≢true}
use Rattle.std.proofs.lemmas.Bool.{false_from_ne_true, lt-ltb, le-ltb}
use Rattle.std.proofs.lemmas.List.{get_or-map, get_or_past, map-set, length-map, set_past}
use Rattle.std.proofs.lemmas.List.FromFn.{get_or-map-range_with_len, length-map-range_with_len}
use Rattle.std.proofs.lemmas.List.Sums.{count_by-le-length, sum_by-set}
use Rattle.std.proofs.lemmas.Nat.{one_shl}
use Rattle.std.proofs.lemmas.Nat.Bits.{bit_at-pow_other, bit_at-pow_same, bit_at-trailing_zeros, bit_at-zero}
use Rattle.std.proofs.lemmas.Nat.Bits.{bit_at_set_other, bit_at_set_same, bit_at_xor}
use Rattle.std.specs.Int.{bit_at, trailing_zeros}
use Rattle.std.specs.Int.RustNames.{bit_or, bit_xor}
use Rattle.cmwq_lemmas.proofs.Lists.{count_by-cons}
use Rattle.cmwq_pool.specs.declared.counts.WorkerCounts.{WorkerCounts}
use Rattle.cmwq_pool.specs.declared.slot.Slot.{Slot}
use Rattle.cmwq_pool.specs.declared.task.Task.{Task}
use Rattle.cmwq_pool.specs.Slots.{is_reserve_at, is_task_of, new_slot, no_slot, slot_at, slot_has_run, slot_indices}
use Rattle.cmwq_pool.specs.Slots.{slot_is_idle, slot_is_other_idle, slot_is_reserve, slots_enlisted_by, slots_run_item}
use Rattle.cmwq_pool.specs.Workers.{AreReserveBits}
use mathlib.Core.Bool.{beq}
use mir.Syntax.{w64}
use mir.Val.{bool_byte}

-- ---- counts

pub count_changed : (p : Slot → Bool) (slots : List Slot) (w : ℕ) (s : Slot) → w < length slots
    → count_by p (slice_set slots w s) + cond (p (slot_at slots w)) 1 0 ≡ count_by p slots + cond (p s) 1 0
count_changed p slots w s low = sum_by-set (λ x. cond (p x) 1 0) slots w s no_slot low

pub count_few : (p : Slot → Bool) (slots : List Slot) (w : ℕ) (s : Slot) → length slots ≤ 255
    → count_by p (slice_set slots w s) ≤ 255
count_few p slots w s few = let le = count_by-le-length p (slice_set slots w s) in let same = length-set slots w s in
    omega arith

module _ (p : Slot → Bool) (slots : List Slot) (w k : ℕ) (s : Slot) (count : ℕ) (was is : Bool)
    (few : length slots ≤ 255) (low : w < length slots) (at : k ≡ w) (counted : count ≡ count_by p slots)
    (before : was ≡ p (slot_at slots k)) (after : is ≡ p s) where
  both : count_by p (slice_set slots w s) + cond was 1 0 ≡ count + cond is 1 0
  both = rw (before, at, after, counted) (count_changed p slots w s low)

  pub count_fits : count + cond is 1 0 ≤ 255 + cond was 1 0
  count_fits = let e = both in let le = count_few p slots w s few in omega (arith, e, le)

  pub count_had : cond was 1 0 ≤ count + cond is 1 0
  count_had = let e = both in omega (arith, e)

  pub count_after : (n : ℕ) → n + cond was 1 0 ≡ count + cond is 1 0 → n ≡ count_by p (slice_set slots w s)
  count_after n e = let f = both in omega (arith, e, f)

counts : ℕ → ℕ → ℕ → ℕ → WorkerCounts
counts idle occupied running holding = record { idle = idle; occupied = occupied; running = running; holding = holding }

pub same_counts : (a b : WorkerCounts) → a.idle ≡ b.idle → a.occupied ≡ b.occupied → a.running ≡ b.running
    → a.holding ≡ b.holding → a ≡ b
unfolding counts
same_counts a b idle occupied running holding = grind arith

-- none of a new pool's workers from one on passes
pub count_new : (p : Slot → Bool) (a n : ℕ) → ((x : ℕ) → a ≤ x → p (new_slot x) ≡ false)
    → count_by p (map new_slot (range_with_len a n)) ≡ 0
count_new p a zero none = refl
count_new p a (suc n) none = grind (arith, count_new p (a + 1) n)

later_reserve : (x : ℕ) → 1 ≤ x → slot_is_idle (new_slot x) ≡ false
later_reserve x high = ap (λ b. b && true) (ne_eqb x 0 (λ e. omega arith))

pub idle_new : (n : ℕ) → count_by slot_is_idle (map new_slot (range_with_len 0 n)) ≡ min n 1
idle_new zero = refl
idle_new (suc n) =
    let rest = count_new slot_is_idle 1 n later_reserve in
    let all = count_by-cons slot_is_idle (new_slot 0) (map new_slot (range_with_len 1 n)) in
    omega (arith, rest, all)

-- a test that no new worker passes
pub none_new : (p : Slot → Bool) (n : ℕ) → ((x : ℕ) → p (new_slot x) ≡ false)
    → 0 ≡ count_by p (map new_slot (range_with_len 0 n))
none_new p n none = sym (count_new p 0 n (λ x high. none x))

-- where none has a run, none runs an item
runs_none : (o : Option Task) (i : ℕ) → is_some o ≡ false → option_map_or (is_task_of i) o false ≡ false
runs_none o i lacks = grind arith

pub none_runs : (slots : List Slot) (i : ℕ) → count_by slot_has_run slots ≡ 0 → slots_run_item slots i ≡ false
none_runs [] i none = refl
none_runs (s ∷ slots) i none =
    let all = count_by-cons slot_has_run s slots in
    let lacks : slot_has_run s ≡ false =
    false_from_ne_true (slot_has_run s) (λ has. let one : ◌≡◌ {A = ℕ} (cond (slot_has_run s) 1 0) 1 =
    cond-true (slot_has_run s) 1 0 has in omega (arith, all, none, one)) in
    ap₂ (λ a b. a || b) (runs_none s.run i lacks) (none_runs slots i (omega (arith, all, none)))

-- ---- whether another is idle

any_same : (q r : ℕ → Bool) (xs : List ℕ) → ((x : ℕ) → q x ≡ r x) → list_any q xs ≡ list_any r xs
any_same q r [] same = refl
any_same q r (x ∷ xs) same = ap₂ (λ a b. a || b) (same x) (any_same q r xs same)

any_shifted : (q : ℕ → Bool) (a n : ℕ) → list_any q (range_with_len (a + 1) n)
    ≡ list_any (λ x. q (suc x)) (range_with_len a n)
any_shifted q a zero = refl
any_shifted q a (suc n) = let one : a + 1 ≡ suc a = omega arith in ap₂ (λ k b. q k || b) one (any_shifted q (a + 1) n)

-- a test of the slot at each index is one of each slot
any_at : (p : Slot → Bool) (slots : List Slot) → list_any (λ x. p (slot_at slots x)) (slot_indices slots)
    ≡ list_any p slots
any_at p [] = refl
any_at p (s ∷ slots) =
    ap (λ b. p s || b) (any_shifted (λ x. p (slot_at (s ∷ slots) x)) 0 (length slots) ∙ any_at p slots)

any_counted : (p : Slot → Bool) (slots : List Slot) → list_any p slots ≡ nat_lt 0 (count_by p slots)
any_counted p [] = refl
any_counted p (s ∷ slots) = grind (arith, count_by-cons, any_counted p slots)

pub same_test : (a b c d : ℕ) → (a < b → c < d) → (c < d → a < b) → nat_lt a b ≡ nat_lt c d
same_test a b c d there back = grind arith

module _ (slots : List Slot) (w : ℕ) where
  -- the slots, with one that is not idle in the worker's place
  others : List Slot
  others = slice_set slots w no_slot

  other_at : (x : ℕ) → slot_is_other_idle slots w x ≡ slot_is_idle (slot_at (slice_set slots w no_slot) x)
  other_at x = ⊎_elim
      (λ same. ap (λ b. not b && slot_is_idle (slot_at slots x)) (eq-eqb x w same)
      ∙ sym (ap slot_is_idle (ap (slot_at (slice_set slots w no_slot)) same ∙ ⊎_elim
      (λ low. get_or-set_same slots w no_slot no_slot low)
      (λ past. get_or_past (slice_set slots w no_slot) w no_slot (omega (arith, past, length-set slots w no_slot)))
      (cases_lt w (length slots)))))
      (λ differs. ap (λ b. not b && slot_is_idle (slot_at slots x)) (ne_eqb x w differs)
      ∙ sym (ap slot_is_idle (get_or-set_other slots w x no_slot no_slot differs)))
      (cases_eq x w)

  pub other_idle : list_any (slot_is_other_idle slots w) (slot_indices slots)
      ≡ nat_lt (cond (slot_is_idle (slot_at slots w)) 1 0) (count_by slot_is_idle slots)
  other_idle =
      any_same (slot_is_other_idle slots w) (λ x. slot_is_idle (slot_at (slice_set slots w no_slot) x))
      (slot_indices slots) other_at
      ∙ (ap (λ n. list_any (λ x. slot_is_idle (slot_at (slice_set slots w no_slot) x)) (range_with_len 0 n))
      (sym (length-set slots w no_slot))
      ∙ (any_at slot_is_idle (slice_set slots w no_slot)
      ∙ (any_counted slot_is_idle (slice_set slots w no_slot)
      ∙ ⊎_elim
      (λ low. let e = count_changed slot_is_idle slots w no_slot low in
      same_test 0 (count_by slot_is_idle (slice_set slots w no_slot)) (cond (slot_is_idle (slot_at slots w)) 1 0)
      (count_by slot_is_idle slots) (λ less. omega (arith, e, less)) (λ less. omega (arith, e, less)))
      (λ past. let none : slot_at slots w ≡ no_slot = get_or_past slots w no_slot past in
      ap (λ xs. nat_lt 0 (count_by slot_is_idle xs)) (set_past slots w no_slot past)
      ∙ ap (λ s. nat_lt (cond (slot_is_idle s) 1 0) (count_by slot_is_idle slots)) (sym none))
      (cases_lt w (length slots)))))

pub bool_byte-cond : (b : Bool) → bool_byte b ≡ cond b 1 0
bool_byte-cond b = grind arith

-- whom a start enlists, by how many are idle and whether the worker is one of them
module _ (slots : List Slot) (w idle own : ℕ) (counted : idle ≡ count_by slot_is_idle slots)
    (one : own ≡ cond (slot_is_idle (slot_at slots w)) 1 0) where
  pub none_enlisted : own < idle → None ≡ slots_enlisted_by slots w
  none_enlisted less = grind (arith, cond-true, other_idle)

  pub reserve_enlisted : idle ≤ own → find (is_reserve_at slots) (slot_indices slots) ≡ slots_enlisted_by slots w
  reserve_enlisted more = grind (arith, cond-false, other_idle)

-- ---- the bits of the reserve

is_reserve_bit : (slots : List Slot) (i : ℕ) → i < length slots → get_or (map slot_is_reserve slots) i false
    ≡ is_reserve_at slots i
is_reserve_bit slots i low = get_or-map slot_is_reserve slots i no_slot false low

-- one slot changes
bit_changed : (slots : List Slot) (w : ℕ) (s : Slot) (i : ℕ) → w < length slots
    → get_or (map slot_is_reserve (slice_set slots w s)) i false
    ≡ cond (nat_eq i w) (slot_is_reserve s) (get_or (map slot_is_reserve slots) i false)
bit_changed slots w s i low = ap (λ bs. get_or bs i false) (map-set slot_is_reserve slots w s) ∙ ⊎_elim
    (λ same. ap (λ k. get_or (slice_set bits w new) k false) same
    ∙ (get_or-set_same bits w new false (rw length-map low)
    ∙ sym (cond-true (nat_eq i w) new (get_or bits i false) (eq-eqb i w same))))
    (λ differs. get_or-set_other bits w i new false differs
    ∙ sym (cond-false (nat_eq i w) new (get_or bits i false) (ne_eqb i w differs)))
    (cases_eq i w)
  where
    new : Bool
    new = slot_is_reserve s

    bits : List Bool
    bits = map slot_is_reserve slots

-- ---- the first of a range that passes

pub find_there : (q : ℕ → Bool) (a n k : ℕ) → k < n → q (a + k) ≡ true → ((i : ℕ) → i < k → q (a + i) ≡ false)
    → find q (range_with_len a n) ≡ Some (a + k)
find_there q a zero k low here before = absurd (omega arith)
find_there q a (suc n) zero low here before =
    let same : a + 0 ≡ a = omega arith in
    cond-true (q a) (Some a) (find q (range_with_len (a + 1) n)) (rw same at here) ∙ ap (λ x. Some x) (sym same)
find_there q a (suc n) (suc k) low here before =
    let first : a + 0 ≡ a = omega arith in
    let moved : a + 1 + k ≡ a + suc k = omega arith in
    cond-false (q a) (Some a) (find q (range_with_len (a + 1) n)) (rw first at (before 0 (omega arith)))
    ∙ (find_there q (a + 1) n k (omega arith) (rw moved here) (λ i less. let at : a + 1 + i ≡ a + suc i = omega arith in
    rw at (before (suc i) (omega arith)))
    ∙ ap (λ x. Some x) moved)

-- those before the first that passes are passed over
pub find_from : (q : ℕ → Bool) (a m n : ℕ) → ((i : ℕ) → i < m → q (a + i) ≡ false)
    → find q (range_with_len a (m + n)) ≡ find q (range_with_len (a + m) n)
find_from q a zero n before = let e : 0 + n ≡ n = omega arith in let same : a + 0 ≡ a = omega arith in rw (e, same) refl
find_from q a (suc m) n before =
    let first : a + 0 ≡ a = omega arith in
    let more : suc m + n ≡ suc (m + n) = omega arith in
    let moved : a + 1 + m ≡ a + suc m = omega arith in
    ap (λ k. find q (range_with_len a k)) more
    ∙ (cond-false (q a) (Some a) (find q (range_with_len (a + 1) (m + n))) (rw first at (before 0 (omega arith)))
    ∙ (find_from q (a + 1) m n (λ i less. let at : a + 1 + i ≡ a + suc i = omega arith in
    rw at (before (suc i) (omega arith)))
    ∙ ap (λ k. find q (range_with_len k n)) moved))

-- a worker is enlisted anew, or no more, or stays as it is
pub turns : (now before : Bool) → not (beq now before) ≡ true → not now ≡ not (not before)
turns now before e = grind arith

pub stays : (now before : Bool) → not (beq now before) ≡ false → not now ≡ not before
stays now before e = grind arith

module _ (word : ℕ) (slots : List Slot) (are : AreReserveBits word slots) where
  bit : ℕ → Bool
  bit i = get_or (map slot_is_reserve slots) i false

  one_is_true : (b : Bool) → ◌≡◌ {A = ℕ} (cond b 1 0) 1 → b ≡ true
  one_is_true b e = grind arith

  zero_is_false : (b : Bool) → ◌≡◌ {A = ℕ} (cond b 1 0) 0 → b ≡ false
  zero_is_false b e = grind arith

  not_reserve : (i : ℕ) → i < 64 → i < length slots → bit_at word i ≡ 0 → is_reserve_at slots i ≡ false
  not_reserve i small low none =
      sym (is_reserve_bit slots i low)
      ∙ zero_is_false (get_or (map slot_is_reserve slots) i false) (sym (are.bits i small) ∙ none)

  pub first_of_bits : 0 < word → word < 2 ^ 64
      → Some (trailing_zeros w64 word) ≡ find (is_reserve_at slots) (slot_indices slots)
  first_of_bits some fits =
      let lowest = bit_at-trailing_zeros w64 word some fits in
      let at : get_or (map slot_is_reserve slots) (trailing_zeros w64 word) false ≡ true =
      one_is_true (get_or (map slot_is_reserve slots) (trailing_zeros w64 word) false)
      (sym (are.bits (trailing_zeros w64 word) lowest.0) ∙ lowest.1) in
      let low : trailing_zeros w64 word < length slots =
      ⊎_elim (λ less. less)
      (λ past. absurd
      (false≢true
      (sym (get_or_past (map slot_is_reserve slots) (trailing_zeros w64 word) false (rw length-map past)) ∙ at)))
      (cases_lt (trailing_zeros w64 word) (length slots)) in
      let zero_more : 0 + trailing_zeros w64 word ≡ trailing_zeros w64 word = omega arith in
      sym (find_there (is_reserve_at slots) 0 (length slots) (trailing_zeros w64 word) low
      (rw zero_more (sym (is_reserve_bit slots (trailing_zeros w64 word) low) ∙ at))
      (λ i less. let none : 0 + i ≡ i = omega arith in
      rw none (not_reserve i (omega (arith, less, lowest.0)) (omega (arith, less, low)) (lowest.2 i less)))
      ∙ ap (λ x. Some x) zero_more)

  pub past_the_bits : word ≡ 0 → find (is_reserve_at slots) (range_with_len 64 (length slots - 64))
      ≡ find (is_reserve_at slots) (slot_indices slots)
  past_the_bits none = ⊎_elim few many (cases_lt (length slots) 64)
    where
      clear : (i : ℕ) → i < 64 → i < length slots → is_reserve_at slots (0 + i) ≡ false
      clear i small low = let e : 0 + i ≡ i = omega arith in
          rw e (not_reserve i small low (ap (λ k. bit_at k i) none ∙ bit_at-zero i))

      few : length slots < 64 → find (is_reserve_at slots) (range_with_len 64 (length slots - 64))
          ≡ find (is_reserve_at slots) (slot_indices slots)
      few less =
          let left : length slots - 64 ≡ 0 = omega arith in
          let whole : length slots ≡ length slots + 0 = omega arith in
          ap (λ n. find (is_reserve_at slots) (range_with_len 64 n)) left
          ∙ sym (ap (λ n. find (is_reserve_at slots) (range_with_len 0 n)) whole
          ∙ find_from (is_reserve_at slots) 0 (length slots) 0 (λ i low. clear i (omega arith) low))

      many : 64 ≤ length slots → find (is_reserve_at slots) (range_with_len 64 (length slots - 64))
          ≡ find (is_reserve_at slots) (slot_indices slots)
      many more =
          let whole : length slots ≡ 64 + (length slots - 64) = omega arith in
          sym (ap (λ n. find (is_reserve_at slots) (range_with_len 0 n)) whole
          ∙ find_from (is_reserve_at slots) 0 64 (length slots - 64) (λ i low. clear i low (omega arith)))

  -- the bit of a worker that joins or leaves the reserve is turned
  pub bits_turned : (w : ℕ) (s : Slot) → w < length slots → w < 64 → slot_is_reserve s ≡ not (is_reserve_at slots w)
      → AreReserveBits (bit_xor word (1 * 2 ^ w % 2 ^ 64)) (slice_set slots w s)
  bits_turned w s low small turns = record {
    bits = λ i less. bit_at_xor word (1 * 2 ^ w % 2 ^ 64) i
        ∙ (ap (λ k. (bit_at word i + bit_at k i) % 2) (one_shl w 64 small)
        ∙ (⊎_elim (same i less) (other i less) (cases_eq i w)));
  }
    where
      turn : (b : Bool) → (cond b 1 0 + 1) % 2 ≡ cond (not b) 1 0
      turn b = grind arith

      keep : (b : Bool) → (cond b 1 0 + 0) % 2 ≡ cond b 1 0
      keep b = grind arith

      same : (i : ℕ) → i < 64 → i ≡ w → (bit_at word i + bit_at (2 ^ w) i) % 2
          ≡ cond (get_or (map slot_is_reserve (slice_set slots w s)) i false) 1 0
      same i less is = grind (arith, bit_at-pow_same, is_reserve_bit, bit_changed, cond-true)

      other : (i : ℕ) → i < 64 → i ≢ w → (bit_at word i + bit_at (2 ^ w) i) % 2
          ≡ cond (get_or (map slot_is_reserve (slice_set slots w s)) i false) 1 0
      other i less differs = grind (arith, bit_at-pow_other, bit_changed, cond-false)

  -- and all others stay
  pub bits_kept : (w : ℕ) (s : Slot) → w < length slots → (w < 64 → slot_is_reserve s ≡ is_reserve_at slots w)
      → AreReserveBits word (slice_set slots w s)
  bits_kept w s low stays = grind (arith, bit_changed, cond-true, is_reserve_bit, cond-false)

-- of a new pool all but worker 0 are of the reserve
pub new_bits : (n m word : ℕ) → ((i : ℕ) → 1 ≤ i → nat_lt i m ≡ nat_lt i (min n 64))
    → ((i : ℕ) → bit_at word i ≡ cond (nat_lt 0 i && nat_lt i m) 1 0)
    → AreReserveBits word (map new_slot (range_with_len 0 n))
new_bits n m word alike bits =
    record { bits = λ i less. bits i ∙ ap (λ b. cond b 1 0) (below i ∙ ⊎_elim (there i less) (past i) (cases_lt i n)) }
  where
    below : (i : ℕ) → (nat_lt 0 i && nat_lt i m) ≡ (nat_lt 0 i && nat_lt i (min n 64))
    below i = grind arith

    there : (i : ℕ) → i < 64 → i < n → (nat_lt 0 i && nat_lt i (min n 64))
        ≡ get_or (map slot_is_reserve (map new_slot (range_with_len 0 n))) i false
    there i less low = grind (arith, min, is_reserve_bit, length-map-range_with_len, get_or-map-range_with_len)

    past : (i : ℕ) → n ≤ i → (nat_lt 0 i && nat_lt i (min n 64))
        ≡ get_or (map slot_is_reserve (map new_slot (range_with_len 0 n))) i false
    past i high =
        ap (λ b. nat_lt 0 i && b) (le-ltb i (min n 64) (omega arith))
        ∙ (never (nat_lt 0 i)
        ∙ sym (get_or_past (map slot_is_reserve (map new_slot (range_with_len 0 n))) i false
        (rw length-map (omega (arith, high, length-map-range_with_len new_slot 0 n)))))
      where
        never : (b : Bool) → (b && false) ≡ false
        never true = refl
        never false = refl

-- one more worker is of the reserve
pub bit_more : (word w : ℕ) → 1 ≤ w → w < 64 → ((i : ℕ) → bit_at word i ≡ cond (nat_lt 0 i && nat_lt i w) 1 0) → (i : ℕ)
    → bit_at (bit_or word (1 * 2 ^ w % 2 ^ 64)) i ≡ cond (nat_lt 0 i && nat_lt i (w + 1)) 1 0
bit_more word w first small bits i = ⊎_elim
    (λ same. ap (bit_at (bit_or word (1 * 2 ^ w % 2 ^ 64))) same
    ∙ (bit_at_set_same w64 word w small
    ∙ sym (ap₂ (λ a b. cond (a && b) 1 0) (lt-ltb 0 i (omega arith)) (lt-ltb i (w + 1) (omega arith)))))
    (λ differs. bit_at_set_other w64 word w small i differs
    ∙ (bits i
    ∙ ap (λ b. cond (nat_lt 0 i && b) 1 0)
    (same_test i w i (w + 1) (λ less. omega arith) (λ less. omega (arith, less, differs)))))
    (cases_eq i w)
