use Rattle.cmwq_json_script.specs.Common.{◌≡◌, [], drop, items_view, in_turn}
use Rattle.cmwq_json_script.specs.Actions.{add_action}
use Rattle.cmwq_json_script.proofs.action.read_actions.Given as goal

abbrev pub invariant-loop-part : goal.invariant-loop-part
invariant-loop-part l =
    in_turn (add_action l.actor l.names) 0 (record { actions = []; used = l.fn.used }) (items_view l.part-items)
    ≡ in_turn (add_action l.actor l.names) l.part-index (record { actions = l.actions.items; used = l.used })
    (items_view (drop l.part-index l.part-items))
