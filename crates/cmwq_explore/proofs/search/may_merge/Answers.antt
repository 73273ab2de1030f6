use Rattle.std.proofs.Common.{◌≡◌, ◌∙◌, Bool, true, false, List, ap, map, not, refl, sym}
use Rattle.std.specs.List.{list_any}
use Rattle.std.specs.declared.alloc.Global.{Global}
use Rattle.std.specs.declared.vec.Vec.{Vec}
use Rattle.cmwq_json_script.specs.Scripts.{run_of}
use Rattle.cmwq_json_script.specs.declared.action.Action.{Action}
use Rattle.cmwq_key.specs.Alike.{names_ticket}
use Rattle.cmwq_key.proofs.AlikeItself.{first_is_stand}
use Rattle.cmwq_explore.proofs.search.may_merge.Goals as goal

false_of_not : (b : Bool) → not b ≡ true → b ≡ false
false_of_not true is = cc
false_of_not false is = refl

abbrev any_in : List (Vec Action Global) → Bool
any_in all = list_any (list_any names_ticket) (map (λ (actions : Vec Action Global). actions.items) all)

pub returns : goal.returns
returns c = λ is.
    first_is_stand (run_of c.args.script.now)
    (ap any_in (sym c.deref.ensures.value) ∙ sym c.any_names_ticket.ensures ∙ c.if-any_names_ticket.false)
    (ap any_in (sym c.deref-2.ensures.value) ∙ sym c.any_names_ticket-2.ensures
    ∙ false_of_not c.any_names_ticket-2.result is)
