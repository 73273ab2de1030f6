-- How many queueings are open at once.
use Rattle.std.specs.Prelude.{◌≡◌, ◌+◌, ◌*◌, ◌≤◌, ◌∷◌}
use Rattle.cmwq_theory_steps.specs.Common.{ℕ, length, count_by, is_some, still_open, opening, is_of}
use Rattle.cmwq_theory_steps.specs.Endings.{ending}
use Rattle.cmwq_theory_steps.specs.Histories.{OfLegal, one, OfEntries}

-- one more for what an entry opens, and one less for what it ends
abbrev pub OpenAreCounted : Type 0
OpenAreCounted =
    OfEntries (λ s past e. length (still_open (e ∷ past)) + one (is_some (ending past e))
    ≡ length (still_open past) + one (is_some (opening past e)))

-- two of an item at most: its run, and one that hasn't started
abbrev pub TwoOfAnItem : Type 0
TwoOfAnItem = OfLegal (λ s past. (i : ℕ) → count_by (is_of i) (still_open past) ≤ 2)

-- so no more than two for each item of the layout
abbrev pub TwoForEachItem : Type 0
TwoForEachItem = OfLegal (λ s past. length (still_open past) ≤ 2 * s.items)
