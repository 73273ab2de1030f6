use Rattle.std.proofs.Common.{◌≡◌, ◌∙◌, ◌+◌, ap, refl, subst}
use Rattle.std.specs.Prelude.{IfErr, IfSome, Option}
use Rattle.cmwq_trial.specs.Counting.{IsReliableOf, first_of, shortest_after}
use Rattle.cmwq_trial.specs.Failing.{seed_of}
use Rattle.cmwq_trial.specs.declared.failure.Failure.{Failure}
use Rattle.cmwq_trial.proofs.OneMore.{ended_more, failed_more}
use Rattle.cmwq_trial.proofs.counting.Trials.count.Goals as goal

pub returns-in-Ok : goal.returns-in-Ok
returns-in-Ok c = λ s from n before told. ended_more s from n c.args.self.now _ refl refl refl refl refl before

pub returns : goal.returns
returns c = λ s from n before told.
    let t = c.args.self.now in
    let u = c.record_failure.new.self in
    let f = c.in-Err.failure in
    let counted = c.count_failure.ensures in
    let records = c.record_failure.ensures in
    let same = counted.same in
    let of = subst (λ o. IfErr o (λ g. IsReliableOf s g × (seed_of g ≡ from + n))) c.in-Err.is told in
    failed_more s from n t u f (records.counts.0 ∙ same.0) (records.counts.1 ∙ counted.stuck)
    (records.counts.2 ∙ counted.stopped) (records.first ∙ ap (λ (o : Option Failure). first_of o f) same.1)
    (λ none. records.none (same.1 ∙ none) ∙ same.2)
    (subst (λ (o : Option Failure). IfSome o (λ first. u.shortest_failure ≡ shortest_after first t.shortest_failure f))
    same.1
    (subst (λ (o : Option Failure). IfSome c.count_failure.new.self.first_failure
    (λ first. u.shortest_failure ≡ shortest_after first o f)) same.2 records.shortest))
    of.0 of.1 before
