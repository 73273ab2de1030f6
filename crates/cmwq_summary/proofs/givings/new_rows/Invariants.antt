use Rattle.std.proofs.Common.{◌≡◌, [], replicate}
use Rattle.std.specs.Prelude.{vec_capacity}
use Rattle.cmwq_summary.proofs.givings.new_rows.Given as goal

-- as many empty rows as callers so far, and room for all
abbrev pub invariant-loop : goal.invariant-loop
invariant-loop l = (l.rows.items ≡ replicate l.counter []) × (vec_capacity l.rows ≡ l.callers)
