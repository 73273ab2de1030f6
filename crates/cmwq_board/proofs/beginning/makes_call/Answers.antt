use Rattle.std.specs.Prelude.{length}
use Rattle.std.proofs.Common.{sym, subst}
use Rattle.std.proofs.lemmas.Bool.{both_ways}
use Rattle.cmwq_core.specs.History.{next_entry}
use Rattle.cmwq_dispatch.specs.Dispatched.{past_now}
use Rattle.cmwq_model.specs.declared.id.Who.TheVariants.{Caller}
use Rattle.cmwq_board.specs.Lent.{GivesBy}
use Rattle.cmwq_board.proofs.Fires.{firing_enters}
use Rattle.cmwq_board.proofs.Tickets.{given_by_call}
use Rattle.cmwq_board.proofs.beginning.makes_call.Goals as goal

pub enter-entered-requires-clause-may : goal.enter-entered-requires-clause-may
enter-entered-requires-clause-may c =
    firing_enters c.args.dispatch.now (next_entry c.args.dispatch.now.history (Caller c.args.caller) c.args.call)
    c.requires.may

pub unreachable-requires : goal.unreachable-requires
unreachable-requires c = both_ways _ (sym c.in-Err.ensures.room) c.requires.room

pub returns-clause-tickets : goal.returns-clause-tickets
returns-clause-tickets c =
    let d = c.args.dispatch.now in
    let n = c.enter-entered.new.dispatch in
    subst (λ r. GivesBy r (record { caller = c.args.caller; call = c.args.call; number = length d.history.entries })
    (past_now d) (past_now n)) (sym c.in-Ok.ensures.reply)
    (given_by_call d.history c.args.caller c.args.call (past_now n) c.in-Ok.ensures.tickets c.requires.call)
