-- Moves one after another.
use Rattle.std.proofs.Common.{ℕ, suc, ◌≡◌, ◌<◌, ◌+◌, true, List, [], ◌∷◌, ◌++◌, length, get_or, take, add-one, refl}
use Rattle.std.proofs.Common.{subst, sym, ap, ◌∙◌}
use Rattle.std.proofs.Math.Seq.{take-suc}
use Rattle.cmwq_play.specs.Stands.{Stand, may, moved}
use Rattle.cmwq_play.specs.Searches.{IsPathTo, IsSchedule, after}

-- after one move more
pub after_more : (p : Stand) (schedule : List ℕ) (party : ℕ)
    → after p (schedule ++ party ∷ []) ≡ moved (after p schedule) party
after_more p [] party = refl
after_more p (first ∷ more) party = after_more (moved p first) more party

-- after a move that is put to the end of those before
pub after_push : (start p q : Stand) (schedule longer : List ℕ) (party : ℕ) → p ≡ after start schedule
    → q ≡ moved p party → longer ≡ schedule ++ party ∷ [] → q ≡ after start longer
after_push start p q schedule longer party was is pushed =
    is ∙ ap (λ s. moved s party) was ∙ sym (after_more start schedule party) ∙ ap (after start) (sym pushed)

-- it is a schedule too, where that one may move
schedule_more : (p : Stand) (schedule : List ℕ) (party : ℕ) → IsSchedule p schedule
    → may (after p schedule) party ≡ true → IsSchedule p (schedule ++ party ∷ [])
schedule_more p [] party goes is = (is, tt)
schedule_more p (first ∷ more) party goes is = (goes.0, schedule_more (moved p first) more party goes.1 is)

pub schedule_push : (start p : Stand) (schedule longer : List ℕ) (party : ℕ) → p ≡ after start schedule
    → IsSchedule start schedule → may p party ≡ true → longer ≡ schedule ++ party ∷ [] → IsSchedule start longer
schedule_push start p schedule longer party was goes is pushed =
    subst (IsSchedule start) (sym pushed) (schedule_more start schedule party goes
    (subst (λ q. may q party ≡ true) was is))

-- a path that is longer by one who may move
pub path_push : (start p q : Stand) (path longer : List ℕ) (party : ℕ) → IsPathTo start path p → may p party ≡ true
    → q ≡ moved p party → longer ≡ path ++ party ∷ [] → IsPathTo start longer q
path_push start p q path longer party goes is moves pushed = (
  schedule_push start p path longer party goes.1 goes.0 is pushed,
  after_push start p q path longer party goes.1 moves pushed,
)

-- after the first so many moves and the next one
pub after_next : (p : Stand) (schedule : List ℕ) (n d : ℕ) → n < length schedule
    → after p (take (suc n) schedule) ≡ moved (after p (take n schedule)) (get_or schedule n d)
after_next p schedule n d less =
    ap (after p) (take-suc schedule n d less) ∙ after_more p (take n schedule) (get_or schedule n d)

-- a turn of a replay
pub after_turn : (start : Stand) (schedule : List ℕ) (n : ℕ) (p q : Stand) (d : ℕ) → n < length schedule
    → p ≡ after start (take n schedule) → q ≡ moved p (get_or schedule n d) → q ≡ after start (take (n + 1) schedule)
after_turn start schedule n p q d less was is =
    is ∙ ap (λ s. moved s (get_or schedule n d)) was ∙ sym (after_next start schedule n d less)
    ∙ ap (λ m. after start (take m schedule)) (sym (add-one n))
