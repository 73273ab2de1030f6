use Rattle.std.proofs.Common.{◌≡◌, ◌++◌, ◌∙◌, ap, append_assoc}
use Rattle.std.specs.Prelude.{codes}
use Rattle.cmwq_views.specs.Open.{call_text, cause_text}
use Rattle.cmwq_views.specs.Page.{named_number}
use Rattle.cmwq_views.proofs.standing.push_lent_if.Goals as goal

pub returns-then-is_lent-clause-exact : goal.returns-then-is_lent-clause-exact
returns-then-is_lent-clause-exact c =
    let t = c.args.ticket in let row = c.args.row.now in
    let a = named_number (codes ", by caller c") t.caller.0 in let b = call_text t.call in
    let d = cause_text c.args.cause in
    let first : c.push_figure.new.self ≡ row ++ a = rw c.into.ensures at c.push_figure.ensures.exact in
    rw c.if-is_lent.true
    (c.push_cause.ensures.exact
    ∙ ap (λ l. l ++ d) (c.push_call.ensures.exact ∙ ap (λ l. l ++ b) first ∙ append_assoc row a b)
    ∙ append_assoc row (a ++ b) d)
