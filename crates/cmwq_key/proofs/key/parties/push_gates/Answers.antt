use Rattle.cmwq_key.specs.Codes.{told_flag}
use Rattle.cmwq_key.proofs.Coding.{list_goes_on}
use Rattle.cmwq_key.proofs.key.parties.push_gates.Goals as goal

pub loop-is_open-preserved : goal.loop-is_open-preserved
loop-is_open-preserved c =
    list_goes_on (told_flag) c.args.gates.now _ _ _ _ _ c.loop-is_open.is_open-index c.loop-is_open-test.true
    c.loop-is_open.invariant
    c.in_ok-push_flag.ensures
