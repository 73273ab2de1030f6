use Rattle.cmwq_flush.specs.Common.{◌∙◌, ◌≡◌, ℕ, List, ap}
use Rattle.std.specs.Prelude.{◌*◌}
use Rattle.std.proofs.Common.{ap₂}
use Rattle.cmwq_flush.specs.declared.openings.Row.{Row}
use Rattle.cmwq_flush.specs.Rows.{OpenRows}
use Rattle.cmwq_flush.proofs.Opening.{openings_at_first, rows_at_first, opened_at_first}
use Rattle.cmwq_flush.proofs.openings.Openings.new.Goals as goal

pub invariant_of-result : goal.invariant_of-result
invariant_of-result c =
    let nodes : 2 * c.from-nodes.result ≡ 2 * c.args.items = ap (λ n. 2 * n) c.from-nodes.ensures in
    openings_at_first c.args.queues c.args.items c.in_ok-new.field-0 c.in_ok-new-2.field-0
    (rw nodes at c.in_ok-new.ensures) (c.in_ok-new-2.ensures ∙ nodes)

pub returns : goal.returns
returns c =
    let rows = c.in_ok-new-2.field-0 in
    rw c.in_ok-new.ensures
    (ap₂ (λ (rs : List (List Row)) (os : List (List ℕ)). let o : OpenRows = record { rows = rs; opened = os } in o)
    (rows_at_first c.args.queues rows) (opened_at_first c.args.queues c.args.items rows))
