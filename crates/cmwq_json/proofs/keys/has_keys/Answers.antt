use Rattle.cmwq_json.specs.Common.{is_some, get, as_object, view}
use Rattle.cmwq_json.proofs.Arrays.{keys_counted}
use Rattle.cmwq_json.proofs.keys.has_keys.Goals as goal

pub returns-then-eq : goal.returns-then-eq
returns-then-eq c =
    keys_counted c.args.keys.now (as_object (view c.args.value.now)) c.len.result c.has_each.result
    (λ key. is_some (get key (view c.args.value.now))) c.len.ensures c.if-eq.ensures c.has_each.ensures
