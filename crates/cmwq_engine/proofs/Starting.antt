-- Participants given out for threads.
use Rattle.cmwq_engine.specs.Common.{◌≡◌, ◌+◌, ap, sym, ◌∙◌, refl, MatchOption, Option, Some, None, WorkerId, Worker}
use Rattle.cmwq_engine.specs.Common.{Layout, View, newcomer, Places, after_worker, next_after}

-- the worker that was given out was the next one
pub worker_given : (s : Layout) (old new : Places) (w : View)
    → MatchOption old.next ⊥
    (λ x. (w ≡ newcomer (Worker x)) × (new ≡ record old { next = after_worker s x; workers = old.workers + 1 }))
    → (new.next ≡ next_after s old.next) × (new.workers ≡ old.workers + 1) × (new.callers ≡ old.callers)
    × ((x : WorkerId) × (old.next ≡ Some x) × (w ≡ newcomer (Worker x)))
worker_given s old new w given = of old.next refl given
  where
    of : (o : Option WorkerId) → old.next ≡ o
        → MatchOption o ⊥
        (λ x. (w ≡ newcomer (Worker x)) × (new ≡ record old { next = after_worker s x; workers = old.workers + 1 }))
        → (new.next ≡ next_after s old.next) × (new.workers ≡ old.workers + 1) × (new.callers ≡ old.callers)
        × ((x : WorkerId) × (old.next ≡ Some x) × (w ≡ newcomer (Worker x)))
    of None is given = absurd given
    of (Some y) is (same, places) = (
      ap (λ (p : Places). p.next) places ∙ ap (next_after s) (sym is),
      ap (λ (p : Places). p.workers) places,
      ap (λ (p : Places). p.callers) places,
      (y, is, same),
    )
