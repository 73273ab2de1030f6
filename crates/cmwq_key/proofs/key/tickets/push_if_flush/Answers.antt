use Rattle.std.proofs.Common.{◌∙◌, ◌++◌, ap, sym}
use Rattle.cmwq_model.specs.Prelude.{past_of}
use Rattle.cmwq_refinement.proofs.PlacesFit.{unended_tickets_fit}
use Rattle.cmwq_key.specs.Codes.{codes}
use Rattle.cmwq_key.proofs.Coding.{none_more}
use Rattle.cmwq_key.proofs.Gathering.{gathered_running, gathered_unstarted, no_flush}
use Rattle.cmwq_key.proofs.key.tickets.push_if_flush.Goals as goal

pub push_flush-requires-clause-there : goal.push_flush-requires-clause-there
push_flush-requires-clause-there c =
    unended_tickets_fit c.args.state.now.layout (past_of c.args.state.now.entries) c.args.ticket
    c.len-length.ensures.legal c.requires.unended

pub push_flush-requires-clause-unstarted : goal.push_flush-requires-clause-unstarted
push_flush-requires-clause-unstarted c =
    gathered_unstarted c.args.state.now.layout (past_of c.args.state.now.entries) c.args.numbered.now
    c.requires.numbered

pub push_flush-requires-clause-running : goal.push_flush-requires-clause-running
push_flush-requires-clause-running c =
    gathered_running c.args.state.now.layout (past_of c.args.state.now.entries) c.args.numbered.now
    c.len-length.ensures.legal c.requires.numbered

pub returns-in_default : goal.returns-in_default
returns-in_default c =
    none_more c.args.key.now.items
    ∙ ap (λ xs. c.args.key.now.items ++ codes xs)
    (sym (no_flush (past_of c.args.state.now.entries) c.args.numbered.now c.args.ticket c.args.ticket.call
    c.in_default.not-Flush))
