use Rattle.cmwq_model.specs.Prelude.{past_of}
use Rattle.cmwq_key.proofs.Gathering.{gathered_tickets, gathered_unstarted}
use Rattle.cmwq_key.proofs.key.push_numbered.Goals as goal

pub push_all_unstarted-requires : goal.push_all_unstarted-requires
push_all_unstarted-requires c =
    rw c.unstarted.ensures
    (gathered_unstarted c.args.state.now.layout (past_of c.args.state.now.entries) c.args.numbered.now c.requires)

pub push_all_tickets-requires-clause-unended : goal.push_all_tickets-requires-clause-unended
push_all_tickets-requires-clause-unended c =
    rw c.tickets.ensures
    (gathered_tickets c.args.state.now.layout (past_of c.args.state.now.entries) c.args.numbered.now c.requires)
