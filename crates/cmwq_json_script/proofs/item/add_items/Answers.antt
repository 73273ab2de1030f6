use Rattle.cmwq_json_script.specs.Common.{◌∙◌, Some, None, sym, ap, arith, length, if◌then◌else◌, items_view, in_turn}
use Rattle.cmwq_json_script.specs.Common.{went_on, stopped}
use Rattle.cmwq_json.specs.Parts as refused
use Rattle.cmwq_json_script.specs.Items.{add_item}
use Rattle.cmwq_json_script.specs.Runs.{some_of}
use Rattle.cmwq_json_script.specs.Views.{work_of}
use Rattle.cmwq_json_script.proofs.item.add_items.Goals as goal

pub returns-then-not-branch : goal.returns-then-not-branch
returns-then-not-branch c =
    ap (some_of refused.items (λ w. length w.items.values))
    (stopped (add_item c.args.most c.args.names.now)
    (in_turn (add_item c.args.most c.args.names.now) 0 (work_of c.args.items.now) (items_view c.args.values.now)) c.args.values.now
    c.loop-index.index (work_of c.loop-index.items) c.loop-index.invariant
    c.index-values-index.result c.index-values-index.result (omega arith) (sym c.index-values-index.is)
    (c.in_ok-add_item.ensures ∙ ap (λ added. if added then Some (work_of c.add_item.new.items) else None)
    c.if-not-branch.true))

pub loop-index-preserved : goal.loop-index-preserved
loop-index-preserved c =
    went_on (add_item c.args.most c.args.names.now)
    (in_turn (add_item c.args.most c.args.names.now) 0 (work_of c.args.items.now) (items_view c.args.values.now)) c.args.values.now
    c.loop-index.index (work_of c.loop-index.items) c.loop-index.invariant
    c.index-values-index.result c.index-values-index.result (work_of c.add_item.new.items) (omega arith)
    (sym c.index-values-index.is)
    (c.in_ok-add_item.ensures ∙ ap (λ added. if added then Some (work_of c.add_item.new.items) else None)
    c.if-not-branch.false)
