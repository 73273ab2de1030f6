use Rattle.std.proofs.Common.{◌≡◌, ◌∷◌, ◌∙◌, length, refl, arith}
use Rattle.cmwq_model.specs.declared.record.Ticket.{Ticket}
use Rattle.cmwq_theory_steps.specs.TicketSteps.{ticket_ended}
use Rattle.cmwq_summary.specs.TicketWaits.{by_ticket_ended, ended_wait}
use Rattle.cmwq_summary.proofs.Moments.{small_since}
use Rattle.cmwq_summary.proofs.TicketTimes.{ended_waits_are, givings_fit, givings_go_on}
use Rattle.cmwq_summary.proofs.Times.{small_then}
use Rattle.cmwq_summary.proofs.WaitTables.{waits_go_on, waits_have_room}
use Rattle.cmwq_summary.proofs.ticket_waits.TicketWaits.add.Goals as goal

pub add-requires : goal.add-requires
add-requires c =
    let r = c.requires in
    waits_have_room by_ticket_ended ended_wait r.layout.callers r.past _ r.next.few r.are.waits

pub add-requires-2 : goal.add-requires-2
add-requires-2 c =
    let r = c.requires in
    rw (c.remove.ensures, r.are.givings, r.next.effect.done, c.holder_in-2.ensures, r.next.effect.begun)
    (givings_fit r.layout r.past c.args.effect.now.entry r.next.effect.legal)

pub returns : goal.returns
returns c s past next now are =
    let e = c.args.effect.now.entry in let told = next.effect in
    let number : c.saturating_sub-number.result ≡ length past = rw now at c.saturating_sub-number.ensures
    ∙ omega arith in
    let wait = ended_waits_are s past e told.legal in
    record {
      waits = rw (c.add.ensures, c.holder_in.ensures, c.waited-waited.ensures, are.givings, told.done, now, wait)
          (waits_go_on by_ticket_ended ended_wait s.callers past e _ _ _ refl refl
          (small_since (λ (t : Ticket). t.number) (e ∷ past) (ticket_ended past e) (small_then next)) are.waits);
      givings =
          rw (c.add-2.ensures, c.remove.ensures, are.givings, told.done, c.holder_in-2.ensures, told.begun, number, now)
          (givings_go_on s past e told.legal);
    }
