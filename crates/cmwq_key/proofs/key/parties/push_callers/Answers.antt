use Rattle.cmwq_model.specs.Prelude.{past_of}
use Rattle.cmwq_key.specs.Keys.{told_caller}
use Rattle.cmwq_key.proofs.Coding.{list_goes_on}
use Rattle.cmwq_key.proofs.key.parties.push_callers.Goals as goal

pub loop-at-preserved : goal.loop-at-preserved
loop-at-preserved c =
    list_goes_on (told_caller (past_of c.args.state.now.entries) c.args.numbered.now) c.args.callers.now _ _ _ _ _
    c.loop-at.at-index c.loop-at-test.true c.loop-at.invariant
    c.in_ok-push_caller.ensures
