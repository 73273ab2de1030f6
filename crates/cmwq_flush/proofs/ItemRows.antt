-- What a wait for an item finds among the item's open numbers.
use Rattle.cmwq_flush.specs.Common.{◌≡◌, ℕ, ◌<◌, ◌≤◌, Bool, true, false, cond, List, [], ◌∷◌, suc, Option, Some, None}
use Rattle.cmwq_flush.specs.Common.{IfSome, is_some, refl, arith, ⊎_elim, find, All, cases_lt, nat_tests}
use Rattle.cmwq_flush.specs.Numbers.{AreRising}
use Rattle.cmwq_flush.specs.ItemNumbers.{is_up_to}
use Rattle.cmwq_flush.proofs.Search.{find_none}

all_above : (n x : ℕ) (ns : List ℕ) → AreRising (x ∷ ns) → n ≤ x → All (λ m. n ≤ m) (x ∷ ns)
all_above n x ns rise le k d lt =
    ⊎_elim (λ (later : 0 < k). let above = rise 0 k d later lt in omega arith) (λ (first : k ≤ 0). let here : k ≡ 0 =
    omega arith in rw here le) (cases_lt 0 k)

-- the first number up to t is the least
least_by : (first : Bool) (t x : ℕ) (ns : List ℕ) → is_up_to t x ≡ first → AreRising (x ∷ ns)
    → IfSome (cond first (Some x) (find (is_up_to t) ns)) (λ n. All (λ m. n ≤ m) (x ∷ ns))
least_by true t x ns is rise = all_above x x ns rise (omega arith)
least_by false t x ns is rise =
    let above : All (λ m. is_up_to t m ≡ false) ns = λ k d lt. let more =
    rise 0 (suc k) d (omega arith) (omega arith) in grind (arith, nat_tests) in
    rw (find_none (is_up_to t) ns above) tt

pub first_is_least : (t : ℕ) (ns : List ℕ) (o : Option ℕ) → o ≡ find (is_up_to t) ns → AreRising ns
    → IfSome o (λ n. All (λ m. n ≤ m) ns)
first_is_least t [] o e rise = rw e tt
first_is_least t (x ∷ ns) o e rise = rw e (least_by (is_up_to t x) t x ns refl rise)

nothing : (o : Option ℕ) → is_some o ≡ false → o ≡ None
nothing o e = grind arith
