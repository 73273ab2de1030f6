-- The first item of each queue and CPU, as more items come before the others.
use Rattle.std.proofs.Common.{ℕ, zero, suc, ◌≡◌, ◌≢◌, ◌≤◌, ◌∙◌, ◌+◌, ◌*◌, ◌-◌, ◌<◌, Bool, true, false, List, [], ◌∷◌}
use Rattle.std.proofs.Common.{Option, Some, None, find, length, replicate, refl, sym, ap, subst, arith, eqb, ◌&&◌, get_or}
use Rattle.std.proofs.Common.{get_or-set_same, get_or-set_other, length-set, option_and_then}
use Rattle.std.proofs.lemmas.Bool.{eqb-true, eqb-false}
use Rattle.std.proofs.lemmas.List.{length-replicate, get_or-replicate, get_or_default}
use Rattle.std.proofs.lemmas.Option.{same_Some}
use Rattle.std.specs.Prelude.{IfSome, if◌then◌else◌, slice_set}
use Rattle.std.specs.List.{range_with_len}
use Rattle.std.specs.Option.{option_map_or}
use Rattle.cmwq_lemmas.proofs.Truth.{and_false, and_true}
use Rattle.cmwq_model.specs.Active.{same_place}
use Rattle.cmwq_model.specs.Prelude.{Layout, is_active, most_cpus, unstarted_queueing}
use Rattle.cmwq_model.specs.declared.entry.Entry.{Entry}
use Rattle.cmwq_model.specs.declared.record.Place.{Place}
use Rattle.cmwq_model.specs.declared.record.Queueing.{Queueing}
use Rattle.cmwq_refinement.specs.Places.{IsQueueingThere}
use Rattle.cmwq_obstacle.specs.Firsts.{AreFirsts, AreFirstsOf, IsPlaceThere, active_place, first_at, listed_at, row_of}
use Rattle.cmwq_obstacle.specs.Obstacles.{is_listed_there}
use Rattle.cmwq_obstacle.proofs.Ranges.{here, later}

-- where a queueing is active is a place that the shape has
pub place_is_there : (s : Layout) (past : List Entry) (x : Queueing) (o : Option Place) → IsQueueingThere s x
    → o ≡ active_place s past x → IfSome o (λ place. IsPlaceThere s place)
place_is_there s past x o there is = subst (λ (o : Option Place). IfSome o (λ place. IsPlaceThere s place)) (sym is)
    (by (is_active s past x))
  where
    by : (b : Bool) → IfSome (if b then Some x.place else None) (λ place. IsPlaceThere s place)
    by true = record { queue = there.queue; cpu = there.cpu }
    by false = tt

-- ---- rows

row_is_there : (s : Layout) (place : Place) (rows : ℕ) → s.cpus ≤ most_cpus → rows ≡ most_cpus * length s.queues
    → IsPlaceThere s place → row_of place < rows
row_is_there s place rows few many there = let queue = there.queue in let cpu = there.cpu in omega arith

same_row : (p r : Place) → same_place p r ≡ true → row_of p ≡ row_of r
same_row p r same = by (eqb p.queue.0 r.queue.0) (eqb p.cpu.0 r.cpu.0) refl refl same
  where
    by : (a b : Bool) → eqb p.queue.0 r.queue.0 ≡ a → eqb p.cpu.0 r.cpu.0 ≡ b → (a && b) ≡ true
        → row_of p ≡ row_of r
    by true true queues cpus both =
        let q = eqb-true p.queue.0 r.queue.0 queues in let c = eqb-true p.cpu.0 r.cpu.0 cpus in omega arith
    by true false queues cpus both = cc
    by false b queues cpus both = cc

other_row : (p r : Place) → p.cpu.0 < most_cpus → r.cpu.0 < most_cpus → same_place p r ≡ false → row_of p ≢ row_of r
other_row p r few few' other same =
    let q : p.queue.0 ≡ r.queue.0 = omega arith in
    let c : p.cpu.0 ≡ r.cpu.0 = omega arith in
    by (eqb p.queue.0 r.queue.0) (eqb p.cpu.0 r.cpu.0) refl refl q c other
  where
    by : (a b : Bool) → eqb p.queue.0 r.queue.0 ≡ a → eqb p.cpu.0 r.cpu.0 ≡ b → p.queue.0 ≡ r.queue.0
        → p.cpu.0 ≡ r.cpu.0 → (a && b) ≡ false → ⊥
    by true true queues cpus q c both = cc
    by true false queues cpus q c both = eqb-false p.cpu.0 r.cpu.0 cpus c
    by false b queues cpus q c both = eqb-false p.queue.0 r.queue.0 queues q

-- ---- one item more

module _ (s : Layout) (past : List Entry) where
  listed_by : (place : Place) (i : ℕ) → is_listed_there s past place i
      ≡ option_map_or (same_place place) (listed_at s past i) false
  listed_by place i = by (unstarted_queueing past i)
    where
      active : (y : Queueing) (b : Bool) → (same_place place y.place && b)
          ≡ option_map_or (same_place place) (if b then Some y.place else None) false
      active y true = and_true (same_place place y.place)
      active y false = and_false (same_place place y.place)

      by : (o : Option Queueing) → option_map_or (λ (y : Queueing). same_place place y.place && is_active s past y) o false
          ≡ option_map_or (same_place place) (option_and_then (active_place s past) o) false
      by None = refl
      by (Some y) = active y (is_active s past y)

  -- an item that is listed nowhere
  pub none_put : (i : ℕ) (items : List ℕ) (rows : List (Option ℕ)) → listed_at s past i ≡ None
      → AreFirstsOf s past items rows → AreFirstsOf s past (i ∷ items) rows
  none_put i items rows none are = record {
    many = are.many;
    each = λ place there. are.each place there ∙ sym (later (is_listed_there s past place) i items
        (listed_by place i ∙ ap (λ o. option_map_or (same_place place) o false) none));
  }

  -- an item that is listed at a place
  pub one_put : (i : ℕ) (items : List ℕ) (rows : List (Option ℕ)) (p : Place) → s.cpus ≤ most_cpus
      → listed_at s past i ≡ Some p → IsPlaceThere s p → AreFirstsOf s past items rows
      → AreFirstsOf s past (i ∷ items) (slice_set rows (row_of p) (Some i))
  one_put i items rows p few is there are = record {
    many = length-set rows (row_of p) (Some i) ∙ are.many;
    each = λ place at. by place at (same_place place p) refl;
  }
    where
      listed : (place : Place) → is_listed_there s past place i ≡ same_place place p
      listed place = listed_by place i ∙ ap (λ o. option_map_or (same_place place) o false) is

      by : (place : Place) → IsPlaceThere s place → (b : Bool) → same_place place p ≡ b
          → first_at (slice_set rows (row_of p) (Some i)) place ≡ find (is_listed_there s past place) (i ∷ items)
      by place at true same =
          ap (λ k. get_or (slice_set rows (row_of p) (Some i)) k None) (same_row place p same)
          ∙ get_or-set_same rows (row_of p) (Some i) None (row_is_there s p (length rows) few are.many there)
          ∙ sym (here (is_listed_there s past place) i items (listed place ∙ same))
      by place at false other =
          get_or-set_other rows (row_of p) (row_of place) (Some i) None
          (let c = at.cpu in let c' = there.cpu in other_row place p (omega arith) (omega arith) other)
          ∙ are.each place at ∙ sym (later (is_listed_there s past place) i items (listed place ∙ other))

  -- no items
  pub none_are_first : (rows : ℕ) → s.cpus ≤ most_cpus → rows ≡ most_cpus * length s.queues
      → AreFirstsOf s past [] (replicate rows None)
  none_are_first rows few many = record {
    many = length-replicate rows None ∙ many;
    each = λ place there. get_or-replicate rows (row_of place) None None (row_is_there s place rows few many there);
  }

-- the items from the last one down
pub item_before : (items put : ℕ) → put < items
    → (items - 1 - put) ∷ range_with_len (items - put) put ≡ range_with_len (items - (put + 1)) (put + 1)
item_before items put less =
    let first : items - 1 - put ≡ items - (put + 1) = omega arith in
    let next : items - put ≡ items - (put + 1) + 1 = omega arith in
    let more : put + 1 ≡ suc put = omega arith in
    rw (first, next, more) refl

-- the first of some numbers is one of them
find_below_end : (t : ℕ → Bool) (from n k : ℕ) → find t (range_with_len from n) ≡ Some k → k < from + n
find_below_end t from zero k found = absurd (let never : None ≡ Some k = found in cc)
find_below_end t from (suc n) k found = by (t from) refl (find_below_end t (from + 1) n k)
  where
    by : (b : Bool) → t from ≡ b → (find t (range_with_len (from + 1) n) ≡ Some k → k < from + 1 + n) → k < from + suc n
    by true is below =
        let same : from ≡ k = same_Some from k (sym (here t from (range_with_len (from + 1) n) is) ∙ found) in
        omega arith
    by false not below =
        let less = below (sym (later t from (range_with_len (from + 1) n) not) ∙ found) in omega arith

pub found_below : (t : ℕ → Bool) (n : ℕ) (o : Option ℕ) → o ≡ find t (range_with_len 0 n) → IfSome o (λ k. k < n)
found_below t n None is = tt
found_below t n (Some k) is = let less = find_below_end t 0 n k (sym is) in omega arith

-- what is read of a row
pub row_is : (s : Layout) (past : List Entry) (rows : List (Option ℕ)) (place : Place) (row : ℕ) (o : Option ℕ)
    → s.cpus ≤ most_cpus → AreFirsts s past rows → IsPlaceThere s place → row ≡ row_of place → o ≡ get_or rows row o
    → o ≡ find (is_listed_there s past place) (range_with_len 0 s.items)
row_is s past rows place row o few are there same is =
    is ∙ ap (λ k. get_or rows k o) same
    ∙ get_or_default rows (row_of place) o None (row_is_there s place (length rows) few are.many there)
    ∙ are.each place there
