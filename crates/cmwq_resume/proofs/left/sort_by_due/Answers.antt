use Rattle.std.proofs.Common.{rules}
use Rattle.std.proofs.lemmas.Fn.{always_returns_same}
use Rattle.cmwq_resume.proofs.Due.{due_and_number, no_later_sorted}
use Rattle.cmwq_resume.proofs.left.sort_by_due.Goals as goal

pub returns-clause-sorted : goal.returns-clause-sorted
returns-clause-sorted c =
    no_later_sorted _
    (c.in_ok-sort_by_key.ensures.sorted due_and_number (always_returns_same _ _ _ (λ a r q k. search rules)))
