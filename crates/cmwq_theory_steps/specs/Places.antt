-- What is open on a queue and CPU, and how many are active there.
use Rattle.std.specs.Prelude.{◌-◌, ◌&&◌, ◌==◌, ◌∷◌}
use Rattle.cmwq_theory_steps.specs.Common.{ℕ, min, max, Bool, not, List, [], length, filter, count_by, Entry, Queueing}
use Rattle.cmwq_theory_steps.specs.Common.{Layout, width, is_live, still_open, is_active}

-- the open queueings of a queue on a CPU
abbrev pub is_on : ℕ → ℕ → Queueing → Bool
is_on q c x = (x.place.queue.0 == q) && (x.place.cpu.0 == c)

abbrev pub open_on : List Entry → ℕ → ℕ → List Queueing
open_on past q c = filter (is_on q c) (still_open past)

-- How many are active there: those that were and that the entry didn't end, and more while there are more and fewer
-- than the width that holds after it.
abbrev pub active_ended : Layout → List Entry → Entry → ℕ → ℕ → ℕ
active_ended s past e q c = count_by (λ x. is_active s past x && not (is_live (e ∷ past) x)) (open_on past q c)

unfoldable pub active_count : Layout → List Entry → ℕ → ℕ → ℕ
active_count s [] q c = 0
active_count s (e ∷ past) q c =
    max (active_count s past q c - active_ended s past e q c)
    (min (length (open_on (e ∷ past) q c)) (width s (e ∷ past) q))
