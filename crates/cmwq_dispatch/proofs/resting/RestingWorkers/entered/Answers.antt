use Rattle.std.proofs.Common.{◌≡◌, ◌∙◌, refl, sym, subst, true}
use Rattle.std.proofs.lemmas.Bool.{both_ways, eqb-true, false_from_ne_true}
use Rattle.cmwq_dispatch.specs.Sets.{has}
use Rattle.cmwq_dispatch.proofs.OnePool.{goes_on, moves_none, moves_one}
use Rattle.cmwq_dispatch.proofs.resting.RestingWorkers.entered.Goals as goal

pub returns-in_default-clause-recorded : goal.returns-in_default-clause-recorded
returns-in_default-clause-recorded c s past legal =
    goes_on s past c.args.entry.now c.args.pool c.args.self.now c.args.self.now legal c.requires
    (moves_none c.args.entry.now c.args.pool c.args.self.now (λ y h. c.in_default.ensures y))

pub returns-then-contains-clause-recorded : goal.returns-then-contains-clause-recorded
returns-then-contains-clause-recorded c s past legal =
    goes_on s past c.args.entry.now c.args.pool c.args.self.now _ legal c.requires
    (moves_one c.args.entry.now c.args.pool c.args.self.now _ c.in-Some.index
    (sym c.contains.ensures.has ∙ c.if-contains.true) c.in-Some.ensures c.insert.ensures c.remove.ensures refl)

pub returns-else-contains-clause-recorded : goal.returns-else-contains-clause-recorded
returns-else-contains-clause-recorded c s past legal =
    goes_on s past c.args.entry.now c.args.pool c.args.self.now c.args.self.now legal c.requires
    (moves_none c.args.entry.now c.args.pool c.args.self.now (λ y h. c.in-Some.ensures y
    ∙ false_from_ne_true _ (λ same. both_ways _ (sym c.contains.ensures.has ∙ c.if-contains.false)
    (subst (λ n. has c.args.self.now.reserve.bits n ≡ true) (sym (eqb-true c.in-Some.index y same)) h))))
