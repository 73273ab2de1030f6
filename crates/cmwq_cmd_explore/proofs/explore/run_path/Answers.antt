use Rattle.cmwq_play.specs.Starts.{first_stand}
use Rattle.cmwq_cmd_explore.specs.Verdicts.{SaysPath}
use Rattle.cmwq_cmd_explore.proofs.Explored.{told_of}
use Rattle.cmwq_cmd_explore.proofs.explore.run_path.Goals as goal

pub returns-in-Ok : goal.returns-in-Ok
returns-in-Ok g c =
    let old = g.O.Sink.written c.args.output.now in
    let new = g.O.Sink.written c.play_path.new.output in
    let says = rw c.in-Ok.is at c.play_path.ensures in
    λ told. told_of _ (λ v r. SaysPath (first_stand r) r.version old new v) c.in-Ok.verdict _ c.tell_verdict.ensures
    says
