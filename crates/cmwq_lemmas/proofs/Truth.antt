-- Truth values.
use Rattle.std.proofs.Common.{◌≡◌, Bool, true, false, ◌&&◌, ◌||◌, cond, Some, None, arith}

pub flip : (a b : Bool) → (a && b) ≡ (b && a)
flip a b = grind arith

pub and_false : (b : Bool) → (b && false) ≡ false
and_false b = grind arith

pub and_true : (b : Bool) → (b && true) ≡ b
and_true b = grind arith

pub or_true : (b : Bool) → (b || true) ≡ true
or_true b = grind arith

pub or_false : (b : Bool) → (b || false) ≡ b
or_false b = grind arith

pub same_bools : (a b : Bool) → (a ≡ true → b ≡ true) → (b ≡ true → a ≡ true) → a ≡ b
same_bools a b f g = grind arith

pub not_chosen : {A : Type 0} (b : Bool) (x : A) → cond b (Some x) None ≡ None → b ≡ false
not_chosen b x e = grind arith
