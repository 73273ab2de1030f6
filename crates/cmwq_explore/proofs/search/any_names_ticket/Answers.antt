use Rattle.std.proofs.Common.{rules, tests, ◌∙◌, sym}
use Rattle.std.specs.declared.alloc.Global.{Global}
use Rattle.std.specs.declared.vec.Vec.{Vec}
use Rattle.std.proofs.lemmas.Iterator.{YieldsList-from_slice}
use Rattle.std.proofs.lemmas.Iterator.Search.{any_from_yields_List}
use Rattle.std.specs.List.{list_any}
use Rattle.cmwq_json_script.specs.declared.action.Action.{Action}
use Rattle.cmwq_key.specs.Alike.{names_ticket}
use Rattle.cmwq_explore.proofs.Joining.{any_unmapped}
use Rattle.cmwq_explore.proofs.search.any_names_ticket.Goals as goal

pub returns : goal.returns
returns c =
    any_from_yields_List (λ (actions : Vec Action Global). list_any names_ticket actions.items) _ _ _ c.any.ensures.ran
    (YieldsList-from_slice c.args.all.now (cc)) (λ x b q k. search (rules, tests))
    ∙ sym (any_unmapped (list_any names_ticket) (λ (actions : Vec Action Global). actions.items) c.args.all.now)
