-- Steps that may fail, and tests: what follows where one did not fail, or passed.
use Rattle.std.proofs.Common.{◌≡◌, Bool, true, false, Option, Some, None, cond, refl}
use Rattle.cmwq_text.specs.Words.{◌>>=◌}

pub bind_some : {A B : Type 0} (o : Option A) (f : A → Option B) (y : B) → (o >>= f) ≡ Some y
    → (x : A) × (o ≡ Some x) × (f x ≡ Some y)
bind_some (Some x) f y e = (x, refl, e)
bind_some None f y e = absurd cc

pub chosen : {A : Type 0} (b : Bool) (o : Option A) (y : A) → cond b o None ≡ Some y → (b ≡ true) × (o ≡ Some y)
chosen true o y e = (refl, e)
chosen false o y e = absurd cc
