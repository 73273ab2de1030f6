-- The history that shows a moment says who waits in it.
use Rattle.cmwq_sim.specs.Common.{◌≡◌, ℕ, List, [], ◌∷◌, map, refl, ap, ap₂, ◌∙◌, Entry}
use Rattle.cmwq_sim.specs.Plan.{Plan}
use Rattle.cmwq_sim.specs.Lines.{Moment}
use Rattle.cmwq_sim.specs.Shows.{queueing_for, queueing_number, moment_of, Shows}

numbers : (s : Plan) (is : List ℕ) → map queueing_number (map (queueing_for s) is) ≡ is
numbers s [] = refl
numbers s (i ∷ is) = ap (λ ks. i ∷ ks) (numbers s is)

-- so the code that keeps the lists of those that run needs none of those that wait
pub determined : (s : Plan) (past : List Entry) (m : Moment) (slot : ℕ → ℕ) → Shows s past m slot
    → moment_of s past m.cpu m.sleeping m.lines ≡ m
determined s past m slot h =
    ap₂ (λ r b. record m { ready = r; behind = b }) (ap (map queueing_number) h.ready ∙ numbers s m.ready)
    (ap (map queueing_number) h.behind ∙ numbers s m.behind)
