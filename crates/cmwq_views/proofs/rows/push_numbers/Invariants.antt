use Rattle.std.proofs.Common.{◌≡◌, ◌+◌, ◌*◌, ◌≤◌, ◌++◌, length, take}
use Rattle.std.specs.Prelude.{flat_map}
use Rattle.cmwq_views.specs.Page.{named_number}
use Rattle.cmwq_views.proofs.rows.push_numbers.Given as goal

-- the numbers so far are spelled
abbrev pub invariant-loop-heading : goal.invariant-loop-heading
invariant-loop-heading l = record {
  exact : l.row ≡ l.fn.row ++ flat_map (λ n. named_number n.0.now n.1) (take l.heading-index l.numbers);
  short : length l.row ≤ length l.fn.row + 40 * l.heading-index;
}
