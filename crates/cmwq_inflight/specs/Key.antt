-- A key, or none, as one number of 32 bits.
use Rattle.std.specs.Prelude.{◌≡◌, ℕ, Bool, true, false, Option, Some, None, ◌==◌, if◌then◌else◌, refl}
use Rattle.std.proofs.Common.{sym}
use Rattle.std.proofs.lemmas.Bool.{eqb-true}

abbrev pub key_of : ℕ → Option ℕ
key_of n = if n == 4294967295 then None else Some n

abbrev pub key_code : Option ℕ → ℕ
key_code None = 4294967295
key_code (Some n) = n

-- the number is got back
pub key_code-of : (n : ℕ) → key_code (key_of n) ≡ n
key_code-of n = by (n == 4294967295) refl
  where
    by : (b : Bool) → (n == 4294967295) ≡ b → key_code (if b then None else Some n) ≡ n
    by true e = sym (eqb-true n 4294967295 e)
    by false e = refl
