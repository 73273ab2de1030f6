use Rattle.std.proofs.Common.{◌≡◌, arith, length}
use Rattle.serde_json.specs.View.{view}
use Rattle.cmwq_names.proofs.Naming.{all_named}
use Rattle.cmwq_names.proofs.texts.named.Goals as goal

pub returns : goal.returns
returns c =
    let none : length c.loop-rest.rest.now ≡ 0 = grind (arith, c.is_empty.ensures, c.loop-rest-test.false) in
    all_named (view c.args.script.now) c.args.form c.loop-rest.out.items c.loop-rest.rest.now c.args.text.now none
    c.loop-rest.invariant
