-- Which items one more entry can change.
use Rattle.std.specs.Prelude.{◌≡◌, ◌∷◌}
use Rattle.cmwq_theory_steps.specs.Common.{ℕ, false, List, Option, option_and_then, option_or, Entry, Layout, is_at}
use Rattle.cmwq_theory_steps.specs.Common.{item_of, item_at, number_started, number_finished, IsLegal, bits}

-- the item of an entry, or that of the queueing that the entry starts or finishes
abbrev pub item_marked : List Entry → Entry → Option ℕ
item_marked past e =
    option_or (item_of e)
    (option_and_then (item_at past) (option_or (number_started e.reply) (number_finished e.reply)))

-- the bits of all other items stay
abbrev pub OthersStay : Type 0
OthersStay = (s : Layout) (past : List Entry) (e : Entry) (i : ℕ) → IsLegal s (e ∷ past)
    → is_at (item_marked past e) i ≡ false → bits (e ∷ past) i ≡ bits past i
