-- The first call of a batch that fails a test.
use Rattle.std.proofs.Common.{refl, Bool, true, false, not, List, [], ◌∷◌, None, Some, ◌≡◌, arith}
use Rattle.std.specs.List.{find, list_all}
use Rattle.cmwq_model.specs.declared.call.Call.{Call}

pub all_pass : (p : Call → Bool) (cs : List Call) → find (λ c. not (p c)) cs ≡ None → list_all p cs ≡ true
all_pass p [] e = refl
all_pass p (c ∷ cs) e = grind (arith, all_pass p cs)

pub one_fails : (p : Call → Bool) (cs : List Call) (c : Call) → find (λ d. not (p d)) cs ≡ Some c
    → list_all p cs ≡ false
one_fails p [] c e = grind arith
one_fails p (d ∷ cs) c e = grind (arith, one_fails p cs c)

pub it_fails : (p : Call → Bool) (cs : List Call) (c : Call) → find (λ d. not (p d)) cs ≡ Some c → p c ≡ false
it_fails p [] c e = grind arith
it_fails p (d ∷ cs) c e = grind (arith, it_fails p cs c)
