-- What is open after an entry was open before it.
use Rattle.cmwq_theory_steps.specs.Common.{◌≡◌, ◌<◌, ℕ, true, List, ◌∷◌, length, arith, nat_tests, Entry, is_cancelled}
use Rattle.cmwq_theory_steps.specs.Common.{is_open}

pub open_before : (e : Entry) (past : List Entry) (i n : ℕ) → n < length past → is_open (e ∷ past) i n ≡ true
    → is_open past i n ≡ true
unfolding is_cancelled
open_before e past i n less h = grind (arith, nat_tests)
