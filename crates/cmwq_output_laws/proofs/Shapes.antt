-- What a format allows of a shape is allowed by the one in which it is written.
use Rattle.cmwq_output_laws.specs.Common.{◌≡◌, ◌≤◌, Bool, true, false, nat_le, ℕ, refl, arith, IsTrue, ◌||◌, le-leb}
use Rattle.cmwq_output_laws.specs.Common.{allows_numbers, are_old_counts}
use Rattle.std.proofs.lemmas.Bool.Decides.{nat_tests}
use Rattle.cmwq_model.specs.declared.shape.Counts.{Counts}

pub newest_allows : (v : ℕ) (c : Counts) → 3 ≤ v → IsTrue (allows_numbers v c)
newest_allows v c newer = rw (le-leb 3 v newer) refl

pub later_allows : (v w : ℕ) (c : Counts) → v ≤ w → IsTrue (allows_numbers v c) → IsTrue (allows_numbers w c)
later_allows v w c later = by (nat_le 3 v) (nat_le 3 w) refl refl
  where
    by : (a b : Bool) → nat_le 3 v ≡ a → nat_le 3 w ≡ b → IsTrue (a || are_old_counts c)
        → IsTrue (b || are_old_counts c)
    by a true h k allowed = refl
    by true false h k allowed = absurd (grind (arith, nat_tests))
    by false false h k allowed = allowed
