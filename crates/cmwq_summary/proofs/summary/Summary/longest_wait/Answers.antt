use Rattle.std.proofs.Common.{◌≡◌, ap₂, ap, ◌∙◌}
use Rattle.cmwq_model.specs.Prelude.{past_of}
use Rattle.cmwq_summary.specs.declared.waits.Waited.{Waited}
use Rattle.cmwq_summary.specs.Givings.{waits_since, givings_of}
use Rattle.cmwq_summary.specs.Spans.{behind, longer}
use Rattle.cmwq_summary.specs.TicketWaits.{by_ticket_ended, ended_wait}
use Rattle.cmwq_summary.specs.Waits.{waited}
use Rattle.cmwq_summary.proofs.TicketTimes.{givings_many, unended_waits_are}
use Rattle.cmwq_summary.proofs.summary.Summary.longest_wait.Goals as goal

pub waits-goes_on-requires : goal.waits-goes_on-requires
waits-goes_on-requires c =
    let r = rw (← c.self.view_is) at c.requires in let b = c.self.inside in
    let many = givings_many b.shape (past_of b.entries) in
    rw (c.from-caller.ensures, c.self.invariant.ticket_waits_are.givings, many) r

pub at-requires : goal.at-requires
at-requires c =
    let r = rw (← c.self.view_is) at c.requires in
    rw (c.from-caller.ensures, c.self.invariant.ticket_waits_are.waits.many_are) r

pub returns : goal.returns
returns c =
    let r = rw (← c.self.view_is) at c.requires in let b = c.self.inside in let past = past_of b.entries in
    let are = c.self.invariant.ticket_waits_are in
    let span : c.span.result ≡ behind past = rw (← c.self.view_is) at c.span.ensures.is in
    let waits : c.waits-goes_on.result ≡ waits_since (givings_of b.shape past) c.args.caller.0 (behind past) =
    rw (c.from-caller.ensures, are.givings, span) at c.waits-goes_on.ensures in
    let ended : c.at.result ≡ waited by_ticket_ended ended_wait past c.args.caller.0 =
    rw c.from-caller.ensures at c.at.ensures ∙ are.waits.each c.args.caller.0 r in
    rw (← c.self.view_is)
    (c.longer.ensures
    ∙ ap₂ longer (ap (λ (w : Waited). w.longest) ended)
    (waits ∙ unended_waits_are b.shape past c.args.caller.0 r))
