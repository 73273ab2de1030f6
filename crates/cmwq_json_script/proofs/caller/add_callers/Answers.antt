use Rattle.cmwq_json_script.specs.Common.{◌∙◌, Some, None, sym, ap, arith, length, if◌then◌else◌, items_view, in_turn}
use Rattle.cmwq_json_script.specs.Common.{went_on, stopped}
use Rattle.cmwq_json.specs.Parts as refused
use Rattle.cmwq_json_script.specs.Callers.{add_caller}
use Rattle.cmwq_json_script.specs.Runs.{some_of}
use Rattle.cmwq_json_script.specs.Views.{crew_of}
use Rattle.cmwq_json_script.proofs.caller.add_callers.Goals as goal

pub returns-then-not-branch : goal.returns-then-not-branch
returns-then-not-branch c =
    ap (some_of refused.callers (λ m. length m.scripts))
    (stopped (add_caller c.args.most c.args.names.now)
    (in_turn (add_caller c.args.most c.args.names.now) 0 (crew_of c.args.callers.now) (items_view c.args.values.now)) c.args.values.now
    c.loop-index.index (crew_of c.loop-index.callers) c.loop-index.invariant
    c.index-values-index.result c.index-values-index.result (omega arith) (sym c.index-values-index.is)
    (c.in_ok-add_caller.ensures ∙ ap (λ added. if added then Some (crew_of c.add_caller.new.callers) else None)
    c.if-not-branch.true))

pub loop-index-preserved : goal.loop-index-preserved
loop-index-preserved c =
    went_on (add_caller c.args.most c.args.names.now)
    (in_turn (add_caller c.args.most c.args.names.now) 0 (crew_of c.args.callers.now) (items_view c.args.values.now)) c.args.values.now
    c.loop-index.index (crew_of c.loop-index.callers) c.loop-index.invariant
    c.index-values-index.result c.index-values-index.result (crew_of c.add_caller.new.callers) (omega arith)
    (sym c.index-values-index.is)
    (c.in_ok-add_caller.ensures ∙ ap (λ added. if added then Some (crew_of c.add_caller.new.callers) else None)
    c.if-not-branch.false)
