use Rattle.cmwq_key.specs.Keys.{told_number}
use Rattle.cmwq_key.proofs.Coding.{list_goes_on}
use Rattle.cmwq_key.proofs.key.parties.push_free.Goals as goal

pub loop-caller-preserved : goal.loop-caller-preserved
loop-caller-preserved c =
    list_goes_on (told_number) c.args.free.now _ _ _ _ _ c.loop-caller.caller-index c.loop-caller-test.true
    c.loop-caller.invariant
    c.in_ok-push_lent.ensures
