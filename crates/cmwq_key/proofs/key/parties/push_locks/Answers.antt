use Rattle.cmwq_key.specs.Keys.{told_lock}
use Rattle.cmwq_key.proofs.Coding.{list_goes_on}
use Rattle.cmwq_key.proofs.key.parties.push_locks.Goals as goal

pub loop-holder-preserved : goal.loop-holder-preserved
loop-holder-preserved c =
    list_goes_on (told_lock) c.args.locks.now _ _ _ _ _ c.loop-holder.holder-index c.loop-holder-test.true
    c.loop-holder.invariant
    c.in_ok-push_lock.ensures
