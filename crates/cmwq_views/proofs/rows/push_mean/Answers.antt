use Rattle.std.proofs.Common.{◌++◌, ◌/◌, ap, append_assoc}
use Rattle.std.proofs.lemmas.Bool.{ne_eqb}
use Rattle.std.specs.Prelude.{if◌then◌else◌, Bool, codes}
use Rattle.cmwq_views.specs.Page.{span_text}
use Rattle.cmwq_views.proofs.rows.push_mean.Goals as goal

pub returns-then-many-eq0-clause-exact : goal.returns-then-many-eq0-clause-exact
returns-then-many-eq0-clause-exact c =
    rw (c.push-then-many-eq0.ensures.exact, c.push.ensures.exact, c.if-many-eq0.true)
    (append_assoc c.args.row.now (codes ", mean wait ") (codes "-"))

pub returns-else-many-eq0-clause-exact : goal.returns-else-many-eq0-clause-exact
returns-else-many-eq0-clause-exact c =
    let a = c.args.all in let n = c.args.many in
    rw (ap (λ (b : Bool). if b then codes ", mean wait " ++ codes "-"
    else span_text (codes ", mean wait ") (record { entries = a.entries / n; ticks = a.ticks / n })) (ne_eqb n 0 c.if-many-eq0.false))
    (rw (
      c.push-else-many-eq0.ensures.exact,
      c.push_sum-else-many-eq0.ensures.exact,
      c.push_sum.ensures.exact,
      c.from-else-many-eq0.ensures,
      c.from.ensures,
    ) (simp append_assoc))
