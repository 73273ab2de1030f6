use Rattle.cmwq_cmd_explore.proofs.Explored.{told_of_history}
use Rattle.cmwq_cmd_explore.proofs.explore.run_follow.Goals as goal

pub returns-in-Ok-follow_file : goal.returns-in-Ok-follow_file
returns-in-Ok-follow_file g c =
    let read = rw c.in-Ok.is at c.read_history.ensures.exact in
    let says = rw c.in-Ok-follow_file.is at c.follow_file.ensures in
    λ told. told_of_history _ _ c.in-Ok.file c.in-Ok-follow_file.verdict _ c.tell_verdict.ensures read says
