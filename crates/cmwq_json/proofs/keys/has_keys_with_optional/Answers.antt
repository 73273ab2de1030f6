use Rattle.cmwq_json.specs.Common.{◌∙◌, ◌+◌, ◌&&◌, List, ℕ, length, map, filter, list_all, sym, ap, is_some, get}
use Rattle.cmwq_json.specs.Common.{as_object, view}
use Rattle.cmwq_json.proofs.Arrays.{counted_keys}
use Rattle.cmwq_json.proofs.keys.has_keys_with_optional.Goals as goal

pub returns-then-has_count : goal.returns-then-has_count
returns-then-has_count c =
    let test = λ (key : List ℕ). is_some (get key (view c.args.value.now)) in
    let keys = c.args.keys.now in
    let optional = length (filter test (map (λ key. key.now) c.args.optional.now)) in
    c.has_each.ensures ∙ sym (ap (λ b. b && list_all (λ key. test key.now) keys) c.if-has_count.true)
    ∙ counted_keys keys (as_object (view c.args.value.now)) (length keys + c.count_keys.result) optional test
    c.has_count.result (ap (λ n. length keys + n) c.count_keys.ensures.is) c.has_count.ensures
