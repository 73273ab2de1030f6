use Rattle.cmwq_json.specs.Common.{sym, ap, ◌∙◌, Some, option_map}
use Rattle.cmwq_json.specs.Keys as spec
use Rattle.cmwq_json.proofs.Arrays.{count_of-members_view}
use Rattle.cmwq_json.proofs.keys.len.Goals as goal

pub returns-in-Some : goal.returns-in-Some
returns-in-Some c = ap Some (c.len.ensures.len ∙ sym (count_of-members_view c.in-Some.object.now.entries))
    ∙ ap (option_map spec.count_of) c.in-Some.ensures
