use Rattle.cmwq_json_script.specs.Common.{◌≡◌, ◌∙◌, Option, Some, None, sym, ap, items_view, if◌then◌else◌}
use Rattle.cmwq_json_script.specs.declared.argument.Given.{Given}
use Rattle.cmwq_json_script.specs.declared.used.Used.{Used}
use Rattle.cmwq_json_script.specs.Arguments.{arguments_of, arguments_said, nothing}
use Rattle.cmwq_json_script.proofs.Grammar.{not_done, done_as_read}
use Rattle.cmwq_json_script.proofs.action.action_after.Goals as goal

pub returns-then-not-is_done_by : goal.returns-then-not-is_done_by
returns-then-not-is_done_by c =
    not_done c.args.names.now c.args.actor c.args.word c.args.used.now (items_view c.args.parts.now)
    (sym c.is_done_by.ensures ∙ c.if-not-is_done_by.true)

pub returns-then-branch : goal.returns-then-branch
returns-then-branch c =
    let known = c.args.names.now in
    let used = c.args.used.now in
    let ds = items_view c.args.parts.now in
    let read : Option (Given × Used) = Some (c.read_arguments.new.given, c.read_arguments.new.used) in
    ap (λ action. Some (action, c.read_arguments.new.used)) c.action_of.ensures
    ∙ done_as_read known c.args.actor c.args.word used ds read (sym c.is_done_by.ensures ∙ c.if-not-is_done_by.false)
    (ap (λ given. arguments_said known (arguments_of c.args.word) (given, used) ds) (sym c.nothing-given.ensures)
    ∙ ap (λ wanted. arguments_said known wanted (c.nothing-given.result, used) ds) (sym c.arguments.ensures)
    ∙ c.in_ok-read_arguments.ensures ∙ ap (λ b. if b then read else None) c.if-branch.true)

pub returns-else-branch : goal.returns-else-branch
returns-else-branch c =
    let known = c.args.names.now in
    let used = c.args.used.now in
    let ds = items_view c.args.parts.now in
    let read : Option (Given × Used) = Some (c.read_arguments.new.given, c.read_arguments.new.used) in
    done_as_read known c.args.actor c.args.word used ds None (sym c.is_done_by.ensures ∙ c.if-not-is_done_by.false)
    (ap (λ given. arguments_said known (arguments_of c.args.word) (given, used) ds) (sym c.nothing-given.ensures)
    ∙ ap (λ wanted. arguments_said known wanted (c.nothing-given.result, used) ds) (sym c.arguments.ensures)
    ∙ c.in_ok-read_arguments.ensures ∙ ap (λ b. if b then read else None) c.if-branch.false)
