use Rattle.cmwq_replay.specs.Common.{◌∙◌, Some, None, sym, ap, arith, map, string_bytes, if◌then◌else◌, items_view}
use Rattle.cmwq_replay.specs.Common.{in_turn, nobody, map_named, plan_item, went_on, stopped, done}
use Rattle.cmwq_replay.specs.Readings.{named_items}
use Rattle.cmwq_replay.specs.Scenarios.{add_sim_item}
use Rattle.cmwq_replay.proofs.scenario.read_items.Goals as goal

pub loop-index-init : goal.loop-index-init
loop-index-init c =
    ap (λ m. in_turn (add_sim_item (map string_bytes c.args.queue_names.now.keys)) 0 m (items_view c.args.values.now))
    (sym (ap (map_named plan_item) c.new-items.ensures))

pub returns-then-not-branch : goal.returns-then-not-branch
returns-then-not-branch c =
    sym (stopped (add_sim_item (map string_bytes c.args.queue_names.now.keys))
    (in_turn (add_sim_item (map string_bytes c.args.queue_names.now.keys)) 0 nobody (items_view c.args.values.now))
    c.args.values.now c.loop-index.index (named_items c.loop-index.items) c.loop-index.invariant
    c.index-values-index.result c.index-values-index.result (omega arith) (sym c.index-values-index.is)
    (c.in_ok-add_item.ensures ∙ ap (λ added. if added then Some (named_items c.add_item.new.items) else None)
    c.if-not-branch.true))

pub loop-index-preserved : goal.loop-index-preserved
loop-index-preserved c =
    went_on (add_sim_item (map string_bytes c.args.queue_names.now.keys))
    (in_turn (add_sim_item (map string_bytes c.args.queue_names.now.keys)) 0 nobody (items_view c.args.values.now))
    c.args.values.now c.loop-index.index (named_items c.loop-index.items) c.loop-index.invariant
    c.index-values-index.result c.index-values-index.result (named_items c.add_item.new.items) (omega arith)
    (sym c.index-values-index.is)
    (c.in_ok-add_item.ensures ∙ ap (λ added. if added then Some (named_items c.add_item.new.items) else None)
    c.if-not-branch.false)

pub returns : goal.returns
returns c =
    sym (done (add_sim_item (map string_bytes c.args.queue_names.now.keys))
    (in_turn (add_sim_item (map string_bytes c.args.queue_names.now.keys)) 0 nobody (items_view c.args.values.now))
    c.args.values.now c.loop-index.index (named_items c.loop-index.items) c.loop-index.invariant (omega arith))
