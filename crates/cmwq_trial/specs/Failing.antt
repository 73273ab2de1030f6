-- What a trial that failed leaves.
use Rattle.std.specs.Prelude.{ℕ, List}
use Rattle.cmwq_model.specs.declared.entry.Entry.{Entry}
use Rattle.cmwq_trial.specs.declared.failure.Failure.{Failure}
use Rattle.cmwq_trial.specs.declared.failure.Failure.TheVariants.{Stuck, Stopped}

-- its seed
abbrev pub seed_of : Failure → ℕ
seed_of (Stuck seed _ _) = seed
seed_of (Stopped seed _ _) = seed

-- the history until it failed
abbrev pub history_of : Failure → List Entry
history_of (Stuck _ history _) = history.items
history_of (Stopped _ _ history) = history.items
