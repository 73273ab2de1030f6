use Rattle.std.proofs.Common.{rules, tests, ◌∙◌, sym}
use Rattle.std.proofs.lemmas.Iterator.{YieldsList-from_slice}
use Rattle.std.proofs.lemmas.Iterator.Search.{any_from_yields_List}
use Rattle.std.specs.List.{list_any}
use Rattle.cmwq_json_script.specs.Common.{Vec, Global}
use Rattle.cmwq_json_script.specs.Actions as spec
use Rattle.cmwq_json_script.specs.declared.action.Action.{Action}
use Rattle.cmwq_json_script.proofs.Waiting.{any_unmapped}
use Rattle.cmwq_json_script.proofs.action.any_waits.Goals as goal

pub returns : goal.returns
returns c =
    any_from_yields_List (λ (actions : Vec Action Global). list_any spec.is_wait actions.items) _ _ _ c.any.ensures.ran
    (YieldsList-from_slice c.args.does.now (cc)) (λ x b q k. search (rules, tests))
    ∙ sym (any_unmapped (list_any spec.is_wait) (λ (actions : Vec Action Global). actions.items) c.args.does.now)
