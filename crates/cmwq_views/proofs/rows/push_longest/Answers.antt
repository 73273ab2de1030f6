use Rattle.std.proofs.Common.{◌++◌, ap, append_assoc}
use Rattle.std.proofs.lemmas.Bool.{ne_eqb}
use Rattle.std.specs.Prelude.{if◌then◌else◌, Bool, codes}
use Rattle.cmwq_views.specs.Page.{span_text}
use Rattle.cmwq_views.proofs.rows.push_longest.Goals as goal

pub returns-then-many-eq0-clause-exact : goal.returns-then-many-eq0-clause-exact
returns-then-many-eq0-clause-exact c =
    rw (c.push-then-many-eq0.ensures.exact, c.push.ensures.exact, c.if-many-eq0.true)
    (append_assoc c.args.row.now (codes ", longest wait ") (codes "-"))

pub returns-else-many-eq0-clause-exact : goal.returns-else-many-eq0-clause-exact
returns-else-many-eq0-clause-exact c =
    let l = c.args.longest in
    rw (ap (λ (b : Bool). if b then codes ", longest wait " ++ codes "-"
    else span_text (codes ", longest wait ") l) (ne_eqb c.args.many 0 c.if-many-eq0.false))
    c.push_span.ensures.exact
