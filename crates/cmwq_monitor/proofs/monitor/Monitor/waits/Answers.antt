use Rattle.std.specs.Prelude.{is_some}
use Rattle.std.proofs.Common.{◌≡◌, ◌∙◌, ap, List}
use Rattle.cmwq_model.specs.Prelude.{past_of}
use Rattle.cmwq_model.specs.Tickets.{is_held_by, unended_tickets}
use Rattle.cmwq_model.specs.declared.entry.Entry.{Entry}
use Rattle.cmwq_model.specs.declared.id.Who.TheVariants.{Caller}
use Rattle.cmwq_monitor.specs.Common.{History}
use Rattle.cmwq_monitor.specs.Held.{Held, caller_waits}
use Rattle.cmwq_monitor.proofs.Tickets.{first_is_some}
use Rattle.cmwq_monitor.proofs.monitor.Monitor.waits.Goals as goal

pub returns : goal.returns
returns g c =
    let now_is : c.state-state.result.now.entries ≡ c.args.self.now.history =
    ap (λ (h : History). h.entries) (c.state-state.ensures ∙ c.execution.ensures)
    ∙ ap (λ (h : Held). h.history) c.self.view_is in
    c.is_some.ensures ∙ ap is_some c.unended.ensures
    ∙ first_is_some (is_held_by (Caller c.args.caller)) (unended_tickets (past_of c.state-state.result.now.entries))
    ∙ ap (λ (es : List Entry). caller_waits (past_of es) c.args.caller.0) now_is
