-- The slots of a pool as a worker starts, and what a start takes.
use Rattle.cmwq_pool.specs.Common.{◌≡◌, ℕ, zero, suc, ◌+◌, ◌<◌, Bool, true, false, cond, List, [], ◌∷◌, length, Option}
use Rattle.cmwq_pool.specs.Common.{Some, None, arith, find, IfSome, list_any, range_with_len}
use Rattle.cmwq_pool.specs.declared.task.Task.{Task}
use Rattle.cmwq_pool.specs.declared.slot.Slot.{Slot}
use Rattle.cmwq_pool.specs.Slots.{no_slot, slot_at, is_reserve_at, slot_is_other_idle, slot_indices, slots_enlisted_by}
use Rattle.cmwq_pool.specs.PoolState.{PoolState}

-- ---- a slot that passes a test which none in its place would

pub in_range : (p : Slot → Bool) (slots : List Slot) (w : ℕ) → p no_slot ≡ false → p (slot_at slots w) ≡ true
    → w < length slots
in_range p [] w none here = cc
in_range p (x ∷ slots) zero none here = omega arith
in_range p (x ∷ slots) (suc w) none here = let h = in_range p slots w none here in omega arith

-- ---- a start

chosen_in_range : (b : Bool) (a n : ℕ) (o : Option ℕ) → IfSome o (λ x. x < (a + 1) + n)
    → IfSome (cond b (Some a) o) (λ x. x < a + suc n)
chosen_in_range b a n o h = grind arith

found_in_range : (p : ℕ → Bool) (a n : ℕ) → IfSome (find p (range_with_len a n)) (λ x. x < a + n)
found_in_range p a zero = tt
found_in_range p a (suc n) = chosen_in_range (p a) a n (find p (range_with_len (a + 1) n)) (found_in_range p (a + 1) n)

reserve_in_range : (b : Bool) (n : ℕ) (o : Option ℕ) → IfSome o (λ x. x < 0 + n) → IfSome (cond b None o) (λ x. x < n)
reserve_in_range b n o h = grind arith

-- whom a start enlists is one of the pool
pub enlisted_by-in_range : (slots : List Slot) (w : ℕ) → IfSome (slots_enlisted_by slots w) (λ x. x < length slots)
enlisted_by-in_range slots w =
    reserve_in_range (list_any (slot_is_other_idle slots w) (slot_indices slots)) (length slots)
    (find (is_reserve_at slots) (slot_indices slots)) (found_in_range (is_reserve_at slots) 0 (length slots))

-- ---- a list that was written in place

pool_state : ℕ → List Task → List Slot → PoolState
pool_state items listed slots = record { items = items; listed = listed; slots = slots }

pub same_pool_state : (p q : PoolState) → p.items ≡ q.items → p.listed ≡ q.listed → p.slots ≡ q.slots → p ≡ q
unfolding pool_state
same_pool_state p q items listed slots = grind arith

-- ---- what is next
