use Rattle.cmwq_json_script.specs.Common.{◌≡◌, drop, items_view, in_turn}
use Rattle.cmwq_json_script.specs.Items.{add_item}
use Rattle.cmwq_json_script.specs.Views.{work_of}
use Rattle.cmwq_json_script.proofs.item.add_items.Given as goal

abbrev pub invariant-loop-index : goal.invariant-loop-index
invariant-loop-index l = in_turn (add_item l.most l.names) 0 (work_of l.fn.items) (items_view l.values)
    ≡ in_turn (add_item l.most l.names) l.index (work_of l.items) (items_view (drop l.index l.values))
