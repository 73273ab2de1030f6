-- Only active queueings are started.
use Rattle.cmwq_theory_laws.specs.Common.{List, [], ◌∷◌, Entry, Layout, IsLegal}
use Rattle.cmwq_theory_laws.specs.Headline.{StartsActive}
use Rattle.cmwq_theory_steps.proofs.WorklistSteps.{starts_only_active}

pub only_active_start : (s : Layout) (past : List Entry) → IsLegal s past → StartsActive s past
unfolding IsLegal
only_active_start s [] legal = tt
only_active_start s (e ∷ past) legal = (starts_only_active s past e legal, only_active_start s past legal.2)
