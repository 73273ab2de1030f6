use Rattle.std.proofs.Common.{IfOk, subst}
use Rattle.cmwq_json_script.specs.Scripts.{run_of}
use Rattle.cmwq_play.specs.Starts.{first_stand}
use Rattle.cmwq_cmd_explore.specs.Verdicts.{SaysHistory}
use Rattle.cmwq_cmd_explore.proofs.history.explore_history.Goals as goal

pub returns : goal.returns
returns g c =
    subst
    (λ es. IfOk c.follow_history-told.result (λ verdict. SaysHistory (first_stand (run_of c.args.script.now)) es verdict))
    c.deref.ensures.value
    (subst (λ start. IfOk c.follow_history-told.result (λ verdict. SaysHistory start c.deref.result.now verdict))
    c.in_ok-setup.ensures.start c.follow_history-told.ensures)
