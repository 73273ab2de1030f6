use Rattle.cmwq_cmd_explore.specs.Verdicts.{Tells}
use Rattle.cmwq_cmd_explore.proofs.Explored.{told_of}
use Rattle.cmwq_cmd_explore.proofs.explore.run_explore.Goals as goal

pub returns-in-Ok : goal.returns-in-Ok
returns-in-Ok g c =
    let old = g.O.Sink.written c.args.output.now in
    let new = g.O.Sink.written c.explore.new.output in
    let says = rw c.in-Ok.is at c.explore.ensures in
    λ told. told_of _ (λ v r. Tells c.args.task r old new v) c.in-Ok.verdict _ c.tell_verdict.ensures says
