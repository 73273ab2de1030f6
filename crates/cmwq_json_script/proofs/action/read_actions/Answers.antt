use Rattle.cmwq_json_script.specs.Common.{◌∙◌, [], Some, None, sym, ap, arith, if◌then◌else◌, result_ok, view}
use Rattle.cmwq_json_script.specs.Common.{items_view, in_turn, went_on, stopped, done, array_said}
use Rattle.cmwq_json_script.specs.Actions.{add_action}
use Rattle.cmwq_json_script.proofs.action.read_actions.Goals as goal

pub returns-then-not-branch : goal.returns-then-not-branch
returns-then-not-branch c =
    sym (ap result_ok
    (stopped (add_action c.args.actor c.args.names.now)
    (in_turn (add_action c.args.actor c.args.names.now) 0 (record { actions = []; used = c.args.used.now })
    (items_view c.deref-part-items.result.now)) c.deref-part-items.result.now c.loop-part.part-index
    (record { actions = c.loop-part.actions.items; used = c.loop-part.used }) c.loop-part.invariant
    c.part-item.result c.part-item.result (omega arith) (sym c.part-item.is)
    (c.in_ok-add_action.ensures
    ∙ ap (λ added. if added
    then Some (record { actions = c.add_action.new.actions.items; used = c.add_action.new.used }) else None)
    c.if-not-branch.true)))
    ∙ array_said c.deref-part-items.result.now c.in-Some.parts.now.items (view c.args.value.now)
    (λ ds. result_ok
    (in_turn (add_action c.args.actor c.args.names.now) 0 (record { actions = []; used = c.args.used.now }) ds))
    c.deref-part-items.ensures.value c.in-Some.ensures

pub loop-part-preserved : goal.loop-part-preserved
loop-part-preserved c =
    went_on (add_action c.args.actor c.args.names.now)
    (in_turn (add_action c.args.actor c.args.names.now) 0 (record { actions = []; used = c.args.used.now })
    (items_view c.deref-part-items.result.now)) c.deref-part-items.result.now c.loop-part.part-index
    (record { actions = c.loop-part.actions.items; used = c.loop-part.used }) c.loop-part.invariant
    c.part-item.result c.part-item.result
    (record { actions = c.add_action.new.actions.items; used = c.add_action.new.used }) (omega arith)
    (sym c.part-item.is)
    (c.in_ok-add_action.ensures
    ∙ ap (λ added. if added
    then Some (record { actions = c.add_action.new.actions.items; used = c.add_action.new.used }) else None)
    c.if-not-branch.false)

pub returns : goal.returns
returns c =
    sym (ap result_ok
    (done (add_action c.args.actor c.args.names.now)
    (in_turn (add_action c.args.actor c.args.names.now) 0 (record { actions = []; used = c.args.used.now })
    (items_view c.deref-part-items.result.now)) c.deref-part-items.result.now c.loop-part.part-index
    (record { actions = c.loop-part.actions.items; used = c.loop-part.used }) c.loop-part.invariant
    (omega arith)))
    ∙ array_said c.deref-part-items.result.now c.in-Some.parts.now.items (view c.args.value.now)
    (λ ds. result_ok
    (in_turn (add_action c.args.actor c.args.names.now) 0 (record { actions = []; used = c.args.used.now }) ds))
    c.deref-part-items.ensures.value c.in-Some.ensures
