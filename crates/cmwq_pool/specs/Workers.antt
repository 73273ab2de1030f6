-- What is kept of a pool's workers beside their slots: counts of them, and which of the first 64 are of the reserve.
use Rattle.std.specs.Prelude.{◌≡◌, ◌<◌, ◌≤◌, if◌then◌else◌}
use Rattle.std.specs.Int.{bit_at}
use Rattle.cmwq_pool.specs.Common.{ℕ, false, List, length, map, count_by, slice_index_or}
use Rattle.cmwq_pool.specs.declared.counts.WorkerCounts.{WorkerCounts}
use Rattle.cmwq_pool.specs.declared.slot.Slot.{Slot}
use Rattle.cmwq_pool.specs.Slots.{slot_has_run, slot_is_holding, slot_is_idle, slot_is_occupied, slot_is_reserve}

abbrev pub counts_of : List Slot → WorkerCounts
counts_of slots =
    record {
      idle = count_by slot_is_idle slots;
      occupied = count_by slot_is_occupied slots;
      running =
          count_by slot_has_run slots;
      holding = count_by slot_is_holding slots;
    }

-- bit i of a word of 64 says whether slot i is there and of the reserve
pub record AreReserveBits (word : ℕ) (slots : List Slot) : Type 0 where
  pub bits : (i : ℕ) → i < 64 → bit_at word i ≡ (if slice_index_or (map slot_is_reserve slots) i false then 1 else 0)

pub record AreWorkersKept (slots : List Slot) (counts : WorkerCounts) (reserve : ℕ) : Type 0 where
  pub few : length slots ≤ 255
  pub counted : counts ≡ counts_of slots
  pub reserve_bits : AreReserveBits reserve slots
