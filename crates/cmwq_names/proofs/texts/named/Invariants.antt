use Rattle.std.proofs.Common.{◌≡◌, ◌++◌, length}
use Rattle.serde_json.specs.View.{view}
use Rattle.cmwq_names.specs.Named.{named}
use Rattle.cmwq_names.proofs.texts.named.Given as goal

-- what is there so far, and the names of what is left, are the text with names
abbrev pub invariant-loop-rest : goal.invariant-loop-rest
invariant-loop-rest l = l.out.items ++ named (view l.script) l.form l.rest ≡ named (view l.script) l.form l.text

abbrev pub decreases-loop-rest : goal.decreases-loop-rest
decreases-loop-rest l = length l.rest
