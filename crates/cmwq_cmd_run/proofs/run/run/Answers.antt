use Rattle.cmwq_cmd_run.specs.Common.{sym, ap, ◌∙◌, run_of}
use Rattle.cmwq_json.specs.Readings.{map_ok}
use Rattle.cmwq_cmd_run.proofs.Ends.{run_ends, refused_ends}
use Rattle.cmwq_cmd_run.proofs.run.run.Goals as goal

pub returns-in-Ok-clause-ends : goal.returns-in-Ok-clause-ends
returns-in-Ok-clause-ends g c =
    run_ends _ (run_of c.in-Ok.script) (sym c.in_ok-script.ensures.says ∙ ap (map_ok run_of) c.in-Ok.is) _ _ _ _
    c.in_ok-value.ensures.value c.run_as_said.ensures.ends

pub returns-clause-ends : goal.returns-clause-ends
returns-clause-ends g c =
    refused_ends _ c.in-Err.refused (sym c.in_ok-script.ensures.says ∙ ap (map_ok run_of) c.in-Err.is) _ _
    c.in_ok-value.ensures.value
