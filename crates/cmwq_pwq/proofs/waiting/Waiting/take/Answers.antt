use Rattle.cmwq_pwq.specs.Common.{◌∙◌, sym, ap}
use Rattle.cmwq_pwq.proofs.Kept.{rest_of_none}
use Rattle.cmwq_pwq.proofs.waiting.Waiting.take.Goals as goal

pub returns-then-waits-clause-rest : goal.returns-then-waits-clause-rest
returns-then-waits-clause-rest c =
    let now = c.args.self.now in
    c.unlink.ensures.rest ∙ ap (λ ys. record now { queueings = ys }) (c.waits-waits.ensures.others c.if-waits.true)

pub returns-else-waits-clause-rest : goal.returns-else-waits-clause-rest
returns-else-waits-clause-rest c =
    let now = c.args.self.now in
    ap (λ ys. record now { queueings = ys })
    (rest_of_none c.args.queueing.number now.queueings (sym c.waits-waits.ensures.waits ∙ c.if-waits.false))
