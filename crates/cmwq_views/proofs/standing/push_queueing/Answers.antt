use Rattle.std.proofs.Common.{◌++◌, ◌∙◌, ap, append_assoc}
use Rattle.std.specs.Prelude.{codes}
use Rattle.cmwq_views.specs.Page.{named_number}
use Rattle.cmwq_views.proofs.standing.push_queueing.Goals as goal

pub returns-clause-exact : goal.returns-clause-exact
returns-clause-exact c =
    let number = named_number (codes ", queueing ") c.args.queueing.number in
    let item = rw c.into.ensures at c.push_figure.ensures.exact in
    c.push_figure-2.ensures.exact ∙ ap (λ l. l ++ number) item
    ∙ append_assoc c.args.row.now (named_number (codes "item ") c.args.queueing.item.0) number
