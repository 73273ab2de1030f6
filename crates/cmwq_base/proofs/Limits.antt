-- The limits of formats.
use Rattle.cmwq_base.specs.Common.{◌≡◌, ◌≤◌, ℕ, refl, arith, lt-leb, le-leb, of_version}

pub older_has : (old new v : ℕ) → v ≤ 2 → of_version old new v ≡ old
unfolding of_version
older_has old new v older = rw (lt-leb 3 v (omega (arith, older))) refl

pub oldest_has : (old new v : ℕ) → v ≡ 1 → of_version old new v ≡ old
oldest_has old new v is = older_has old new v (omega (arith, is))

pub newest_has : (old new v : ℕ) → 3 ≤ v → of_version old new v ≡ new
unfolding of_version
newest_has old new v newer = rw (le-leb 3 v newer) refl

pub none_passes : (old new v : ℕ) → old ≤ new → of_version old new v ≤ new
unfolding of_version
none_passes old new v older = grind arith

pub none_falls : (old new v w : ℕ) → old ≤ new → v ≤ w → of_version old new v ≤ of_version old new w
unfolding of_version
none_falls old new v w older later = grind arith
