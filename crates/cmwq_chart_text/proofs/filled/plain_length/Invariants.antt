use Rattle.std.proofs.Common.{◌≡◌, ◌+◌, drop}
use Rattle.cmwq_chart_text.specs.Filled.{plain_length}
use Rattle.cmwq_chart_text.proofs.filled.plain_length.Given as goal

abbrev pub invariant-loop-k : goal.invariant-loop-k
invariant-loop-k l = plain_length l.template ≡ l.k + plain_length (drop l.k l.template)
