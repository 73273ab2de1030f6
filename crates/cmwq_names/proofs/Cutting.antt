-- Where the whole letters end that stand in a front of a name.
use Rattle.std.proofs.Common.{◌≡◌, ℕ, zero, suc, ◌-◌, ◌<◌, true, false, List, refl, arith}
use Rattle.std.specs.Prelude.{slice_index_or}
use Rattle.cmwq_names.specs.Labels.{is_inner}
unfoldable use Rattle.cmwq_names.specs.Labels.{whole_front}

-- not before a byte that is inside of a letter
inner_before : (name : List ℕ) (n : ℕ) → is_inner (slice_index_or name (suc n) 0) ≡ true
    → whole_front name n ≡ whole_front name (suc n)
unfolding whole_front
inner_before name n inner = rw inner refl

pub one_before : (name : List ℕ) (n : ℕ) → 0 < n → is_inner (slice_index_or name n 0) ≡ true
    → whole_front name (n - 1) ≡ whole_front name n
one_before name zero some inner = absurd (omega arith)
one_before name (suc n) some inner = let same : suc n - 1 ≡ n = omega arith in rw same (inner_before name n inner)

-- but before one that is not
pub ends_there : (name : List ℕ) (n : ℕ) → is_inner (slice_index_or name n 0) ≡ false → n ≡ whole_front name n
unfolding whole_front
ends_there name zero other = refl
ends_there name (suc n) other = rw other refl

-- or before the first
pub ends_at_first : (name : List ℕ) → 0 ≡ whole_front name 0
unfolding whole_front
ends_at_first name = refl
