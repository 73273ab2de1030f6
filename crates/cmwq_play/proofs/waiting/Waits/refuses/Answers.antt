use Rattle.std.proofs.Common.{◌∙◌, subst, sym}
use Rattle.cmwq_core.specs.History.{past_in}
use Rattle.cmwq_waits.specs.HeldUp.{AreWaiting}
use Rattle.cmwq_play.proofs.waiting.Waits.refuses.Goals as goal

pub refuses-requires-clause-waiting : goal.refuses-requires-clause-waiting
refuses-requires-clause-waiting c =
    subst (AreWaiting (past_in c.args.execution.now)) (sym (c.deref.ensures.value ∙ c.self.view_is)) c.requires.waiting
