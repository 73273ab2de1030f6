use Rattle.cmwq_json_script.specs.Common.{◌≡◌, drop, items_view, in_turn}
use Rattle.cmwq_json_script.specs.Callers.{add_caller}
use Rattle.cmwq_json_script.specs.Views.{crew_of}
use Rattle.cmwq_json_script.proofs.caller.add_callers.Given as goal

abbrev pub invariant-loop-index : goal.invariant-loop-index
invariant-loop-index l = in_turn (add_caller l.most l.names) 0 (crew_of l.fn.callers) (items_view l.values)
    ≡ in_turn (add_caller l.most l.names) l.index (crew_of l.callers) (items_view (drop l.index l.values))
