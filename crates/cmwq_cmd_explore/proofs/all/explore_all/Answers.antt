use Rattle.std.proofs.Common.{ap, sym, subst}
use Rattle.cmwq_json_script.specs.Scripts.{run_of}
use Rattle.cmwq_cmd_explore.specs.Verdicts.{SaysAll}
use Rattle.cmwq_cmd_explore.specs.declared.verdict.Ends.{Ends}
use Rattle.cmwq_cmd_explore.proofs.Verdicting.{verdict_all}
use Rattle.cmwq_cmd_explore.proofs.all.explore_all.Goals as goal

pub returns : goal.returns
returns g c =
    subst (SaysAll (run_of c.args.script.now)) (sym c.verdict.ensures) (verdict_all (run_of c.args.script.now)
    c.in_ok-finding.finding c.ends_of.result
    (ap (λ (e : Ends). e.stuck) c.ends_of.ensures, ap (λ (e : Ends). e.cut) c.ends_of.ensures)
    c.in_ok-finding.ensures.tells)
