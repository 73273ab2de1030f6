use Rattle.std.proofs.Common.{rules}
use Rattle.std.proofs.lemmas.List.Sorted.{IsNonDecreasingBy-from_sort_by_key}
use Rattle.cmwq_refinement.specs.ByNumber.{number_of_queueing}
use Rattle.cmwq_resume.proofs.left.sort_by_number.Goals as goal

pub returns-clause-sorted : goal.returns-clause-sorted
returns-clause-sorted c =
    IsNonDecreasingBy-from_sort_by_key number_of_queueing _ c.in_ok-sort_by_key.ensures.sorted
    (λ a r q k. search rules)
