use Rattle.cmwq_lemmas.proofs.Members.{contained_in}
use Rattle.cmwq_waits.proofs.Held.{opened_queue}
use Rattle.cmwq_waits.proofs.look.Look.keeps_unstarted.Goals as goal

pub have_all_places-requires-clause-queue : goal.have_all_places-requires-clause-queue
have_all_places-requires-clause-queue c =
    opened_queue c.args.self.now c.scene.ensures c.args.queueing.now
    (contained_in c.args.self.now.opened c.args.queueing.now c.requires.open)
