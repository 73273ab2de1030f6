-- The first worker that would start an item starts what the lists say, and where there is none they say none.
use Rattle.cmwq_sim.specs.Common.{◌≡◌, ℕ, true, false, List, [], ◌∷◌, ◌++◌, Option, Some, None, refl, sym, ap, arith}
use Rattle.cmwq_sim.specs.Common.{◌∙◌, if◌then◌else◌, list_any, Entry, is_idle}
use Rattle.cmwq_sim.specs.Plan.{Plan}
use Rattle.cmwq_sim.specs.Lines.{Moment, Job, is_job_held, job_of, starting_items}
use Rattle.cmwq_sim.specs.Shows.{layout_for, pool, Shows, to_start, next_of}
use Rattle.cmwq_sim.specs.Takers.{IsTaker, NoTaker}
use Rattle.cmwq_sim.proofs.TakeReads.{take_answered, some_idle}

pub taker_starts : (s : Plan) (past : List Entry) (m : Moment) (slot : ℕ → ℕ) (x n : ℕ) → Shows s past m slot
    → IsTaker (layout_for s) past x n → (is_idle past pool x ≡ true) × (to_start s m ≡ Some n)
taker_starts s past m slot x n h t = let k = sym (take_answered s past m slot x h) ∙ t.starts in grind arith

pub no_taker : (s : Plan) (past : List Entry) (m : Moment) (slot : ℕ → ℕ) → Shows s past m slot
    → NoTaker (layout_for s) past 8 → to_start s m ≡ None
no_taker s past m slot h nobody = at (next_of m.ready) refl
  where
    at : (o : Option ℕ) → next_of m.ready ≡ o → to_start s m ≡ None
    at None is = grind arith
    at (Some i) is = let w = some_idle s past m slot i h is in let a = take_answered s past m slot w.0 h in let b =
        nobody w.0 w.1 in grind arith

-- so the starts of a millisecond are takes in turn
pub starting_goes : (s : Plan) (cpu : List Job) (i : ℕ) (rest : List ℕ) → list_any (is_job_held s) cpu ≡ false
    → starting_items s cpu (i ∷ rest) ≡ i ∷ starting_items s (cpu ++ job_of s i ∷ []) rest
unfolding starting_items
starting_goes s cpu i rest clear = ap (λ b. if b then [] else i ∷ starting_items s (cpu ++ job_of s i ∷ []) rest) clear

pub starting_stops : (s : Plan) (m : Moment) → to_start s m ≡ None → starting_items s m.cpu m.ready ≡ []
unfolding starting_items
starting_stops s m none = at m.ready none
  where
    at : (xs : List ℕ) → (if list_any (is_job_held s) m.cpu then None else next_of xs) ≡ None
        → starting_items s m.cpu xs ≡ []
    at [] k = refl
    at (i ∷ xs) k = grind arith
