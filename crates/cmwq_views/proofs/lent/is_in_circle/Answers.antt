use Rattle.std.proofs.Common.{◌∙◌, ◌<◌, ap, refl, subst, sym}
use Rattle.cmwq_model.specs.Prelude.{is_at, past_of}
use Rattle.cmwq_obstacle.proofs.Ranges.{any_none, any_first_of}
use Rattle.cmwq_views.specs.Lent.{leads_back, worker_rows}
use Rattle.cmwq_views.proofs.Circles.{first_row, row_goes_on}
use Rattle.cmwq_views.proofs.lent.is_in_circle.Goals as goal

pub loop-init : goal.loop-init
loop-init c =
    (first_row c.args.standing.now.layout (past_of c.args.standing.now.entries) c.args.number, c.requires, refl)

pub returns-then-is_row : goal.returns-then-is_row
returns-then-is_row c =
    let s = c.args.standing.now.layout in let past = past_of c.args.standing.now.entries in
    let k = c.args.number in let n = c.loop.counter in
    let at = row_goes_on s past k n c.loop.row c.row_after-row.result c.loop.invariant.0 c.row_after-row.ensures.is in
    sym (any_first_of (leads_back s past k) n (worker_rows s)
    (ap (λ o. is_at o k) (sym at) ∙ sym c.is_row.ensures ∙ c.if-is_row.true)
    (subst (λ m. n < m) c.worker_rows-rows.ensures c.loop-test.true))

pub loop-preserved : goal.loop-preserved
loop-preserved c =
    let s = c.args.standing.now.layout in let past = past_of c.args.standing.now.entries in
    let k = c.args.number in let n = c.loop.counter in
    let at = row_goes_on s past k n c.loop.row c.row_after-row.result c.loop.invariant.0 c.row_after-row.ensures.is in (
      at,
      c.row_after-row.ensures.there,
      any_none (leads_back s past k) n c.loop.invariant.2
          (ap (λ o. is_at o k) (sym at) ∙ sym c.is_row.ensures ∙ c.if-is_row.false),
    )
