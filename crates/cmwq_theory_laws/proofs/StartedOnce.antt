-- A number is started at most once, and only where an earlier entry opened a queueing under it.
use Rattle.cmwq_theory_laws.specs.Common.{◌≡◌, ◌≤◌, Bool, true, false, List, [], ◌∷◌, count_by, refl, ap, arith}
use Rattle.cmwq_theory_laws.specs.Common.{is_some, Entry, Layout, starts, IsLegal, count_by-cons, count_by-none}
use Rattle.cmwq_theory_laws.specs.Headline.{StartedOnce, StartsEarlier}
use Rattle.cmwq_lemmas.proofs.Passing.{none_pass}
use Rattle.cmwq_theory_steps.proofs.StartsListed.{starts_listed, starts_anew}

pub started_once : (s : Layout) (past : List Entry) → IsLegal s past → StartedOnce past
unfolding IsLegal
started_once s [] legal n = omega arith
started_once s (e ∷ past) legal n = at (starts n e) refl (started_once s past legal.2 n)
  where
    at : (b : Bool) → starts n e ≡ b → count_by (starts n) past ≤ 1 → count_by (starts n) (e ∷ past) ≤ 1
    at true new once =
        grind (
          arith,
          count_by-cons (starts n) e past,
          count_by-none (starts n) past (none_pass (starts n) past (starts_anew s past e n legal new)),
        )
    at false new once = grind (arith, count_by-cons (starts n) e past)

pub starts_earlier : (s : Layout) (past : List Entry) → IsLegal s past → StartsEarlier past
unfolding IsLegal
starts_earlier s [] legal = tt
starts_earlier s (e ∷ past) legal =
    ((λ n h. ap is_some (starts_listed s past e n legal h).found), starts_earlier s past legal.2)
