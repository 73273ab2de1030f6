-- Illegal histories that break the laws of legal ones, by computation.
use Rattle.cmwq_theory_laws.specs.Common.{◌≤◌, [], ◌∷◌, refl, ap, arith, WorkerId, booking, is_cancelled, last_start}
use Rattle.cmwq_theory_laws.specs.Common.{item_start, queueings, is_active, became_active, width, max_active, is_gone}
use Rattle.cmwq_theory_laws.specs.Common.{tickets, active_count, IsDistinct}
use Rattle.cmwq_theory_laws.specs.Illegal.{worker_of_pool_zero, GoneButOpen, worker_of_pool_zero, RunInTwoWorkers}
use Rattle.cmwq_theory_laws.specs.Illegal.{StartedTwice, StartedUnqueued, RunBeyondMaxActive, EndedEarly, Unsettled}
use Rattle.std.proofs.lemmas.Bool.{false≢true, true≢false}

pub run_in_two_workers : RunInTwoWorkers
unfolding last_start is_cancelled
run_in_two_workers law =
    absurd (omega
    (arith, ap (λ (w : WorkerId). w.index) (law 0 (worker_of_pool_zero 0) (worker_of_pool_zero 1) refl refl)))

pub started_twice : StartedTwice
started_twice law = absurd (omega (arith, law 0))

pub started_unqueued : StartedUnqueued
unfolding queueings
started_unqueued law = false≢true (law.0 0 refl)

pub run_beyond_max_active : RunBeyondMaxActive
unfolding last_start is_cancelled queueings item_start became_active is_active width max_active active_count IsDistinct
run_beyond_max_active = (
  (λ law. false≢true (law.0 1 _ refl refl)),
  (λ law. let two_of_one : 2 ≤ 1 =
      law 0 0 (worker_of_pool_zero 0 ∷ worker_of_pool_zero 1 ∷ []) ((refl, tt), (tt, tt)) (refl, (refl, tt)) in
      absurd (omega arith)),
)

pub ended_early : EndedEarly
unfolding queueings is_cancelled item_start
ended_early = (
  (λ law. false≢true ((law.0 1 _ (refl, refl) refl).0 refl)),
  (λ law. false≢true ((law.0 1 _ (refl, refl) refl).0 refl)),
  (λ law. false≢true ((law.0 1 _ (refl, refl) refl).0 refl)),
  (λ law. false≢true ((law.0 1 _ (refl, refl) refl).0 refl)),
  (λ law. false≢true ((law.0 1 _ (refl, refl) refl).0 refl)),
)

pub unsettled : Unsettled
unfolding queueings is_cancelled item_start booking
unsettled = (
  (λ law. true≢false (law.0 1 0 _ (refl, refl) refl refl).0),
  (λ law. true≢false (law.0 2 0 _ (refl, refl) refl refl).1),
)

pub gone_but_open : GoneButOpen
unfolding queueings is_cancelled item_start is_gone tickets
gone_but_open law = true≢false (law 0 refl).0.0
