use Rattle.std.proofs.Common.{◌++◌, ◌∙◌, ap, append_assoc}
use Rattle.std.specs.Prelude.{codes}
use Rattle.cmwq_views.specs.Page.{worker_name}
use Rattle.cmwq_views.proofs.standing.push_holder.Goals as goal

pub returns-clause-exact : goal.returns-clause-exact
returns-clause-exact c =
    let a = codes ": the run of worker " in let w = worker_name c.args.holder in let b = codes " is awake" in
    c.push-2.ensures.exact
    ∙ ap (λ l. l ++ b) (c.push_worker.ensures.exact ∙ ap (λ l. l ++ w) c.push.ensures.exact)
    ∙ append_assoc (c.args.row.now ++ a) w b ∙ append_assoc c.args.row.now a (w ++ b)
