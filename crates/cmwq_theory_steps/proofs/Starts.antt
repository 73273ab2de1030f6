-- Only a take starts a queueing, by an idle worker, and then the next of its pool; whom it enlists is a worker of the
-- layout.
use Rattle.cmwq_theory_steps.specs.Common.{◌≡◌, ◌+◌, ◌<◌, ℕ, List, ◌∷◌, Some, arith, WorkerId, Entry, Layout}
use Rattle.cmwq_theory_steps.specs.Common.{number_started, IsLegal}
use Rattle.cmwq_model.specs.Layout.{indices}
use Rattle.cmwq_model.specs.Workers.{enlisted_by, is_reserve}
use Rattle.cmwq_lemmas.proofs.Lists.{range_below}
use Rattle.cmwq_lemmas.proofs.Passing.{all_found}
use Rattle.cmwq_theory_steps.specs.Reasons.{StartsNext}
use Rattle.cmwq_theory_steps.proofs.Causes.{cause_of}
use Rattle.cmwq_theory_steps.proofs.Reasons.{start_reason}

pub starts_next : (s : Layout) (past : List Entry) (e : Entry) (n : ℕ) → IsLegal s (e ∷ past)
    → number_started e.reply ≡ Some n → StartsNext s past e.who e.call e.reply n
starts_next s past e n legal h = start_reason s past e.who e.call e.reply n (cause_of s past e legal) h

pub reserve_there : (s : Layout) (past : List Entry) (w : WorkerId) (y : ℕ) → enlisted_by s past w ≡ Some y
    → y < s.workers
unfolding enlisted_by
reserve_there s past w y h =
    grind (arith, all_found (λ x. x < 0 + s.workers) (is_reserve past w.pool) (indices s) y (range_below 0 s.workers))
