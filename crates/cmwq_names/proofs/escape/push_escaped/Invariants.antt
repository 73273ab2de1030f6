use Rattle.std.proofs.Common.{◌≡◌, ◌++◌, length}
use Rattle.cmwq_names.specs.Escapes.{escaped}
unfoldable use Rattle.cmwq_names.specs.Escapes.{escaped_behind}
use Rattle.cmwq_names.proofs.escape.push_escaped.Given as goal

-- what was added, with what is left, is the whole
abbrev pub invariant-loop-rest : goal.invariant-loop-rest
invariant-loop-rest l =
    l.out.items ++ escaped_behind l.more l.form l.rest ≡ l.fn.out.items ++ escaped l.form l.name

abbrev pub decreases-loop-rest : goal.decreases-loop-rest
decreases-loop-rest l = length l.rest
