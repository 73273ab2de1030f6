use Rattle.cmwq_json_script.specs.Common.{◌∙◌, Some, None, sym, ap, arith, length, if◌then◌else◌, items_view, in_turn}
use Rattle.cmwq_json_script.specs.Common.{went_on, stopped, named_of}
use Rattle.cmwq_json.specs.Parts as refused
use Rattle.cmwq_json_script.specs.Queues.{add_queue}
use Rattle.cmwq_json_script.specs.Runs.{some_of}
use Rattle.cmwq_json_script.proofs.queue.add_queues.Goals as goal

pub returns-then-not-branch : goal.returns-then-not-branch
returns-then-not-branch c =
    ap (some_of refused.queues (λ qs. length qs.values))
    (stopped (add_queue c.args.most)
    (in_turn (add_queue c.args.most) 0 (named_of c.args.queues.now) (items_view c.args.values.now)) c.args.values.now
    c.loop-index.index (named_of c.loop-index.queues) c.loop-index.invariant
    c.index-values-index.result c.index-values-index.result (omega arith) (sym c.index-values-index.is)
    (c.in_ok-add_queue.ensures ∙ ap (λ added. if added then Some (named_of c.add_queue.new.queues) else None)
    c.if-not-branch.true))

pub loop-index-preserved : goal.loop-index-preserved
loop-index-preserved c =
    went_on (add_queue c.args.most)
    (in_turn (add_queue c.args.most) 0 (named_of c.args.queues.now) (items_view c.args.values.now)) c.args.values.now
    c.loop-index.index (named_of c.loop-index.queues) c.loop-index.invariant
    c.index-values-index.result c.index-values-index.result (named_of c.add_queue.new.queues) (omega arith)
    (sym c.index-values-index.is)
    (c.in_ok-add_queue.ensures ∙ ap (λ added. if added then Some (named_of c.add_queue.new.queues) else None)
    c.if-not-branch.false)
