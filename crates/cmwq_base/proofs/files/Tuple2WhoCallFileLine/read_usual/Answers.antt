use Rattle.std.proofs.lemmas.Option.{IfSome_then}
use Rattle.cmwq_base.proofs.files.Tuple2WhoCallFileLine.read_usual.Goals as goal

-- src/files.rt:38:5
pub returns : goal.returns
returns c = IfSome_then c.read_usual_call.result c.read_usual_call.ensures (λ _ begins. begins c.args._version)
