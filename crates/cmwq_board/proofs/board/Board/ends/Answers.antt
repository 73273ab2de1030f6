use Rattle.std.specs.Prelude.{◌≡◌, ◌<◌, ◌≤◌, Some, false, length, slice_index_or, slice_set}
use Rattle.std.proofs.Common.{ap, arith, ◌∙◌, length-set, sym, subst}
use Rattle.cmwq_core.specs.History.{History, past_in}
use Rattle.cmwq_dispatch.specs.Dispatched.{Dispatched, past_now}
use Rattle.cmwq_model.specs.Prelude.{ticket_of}
use Rattle.cmwq_model.specs.declared.entry.Entry.{Entry}
use Rattle.cmwq_model.specs.declared.id.CallerId.{CallerId}
use Rattle.cmwq_model.specs.declared.id.Who.TheVariants.{Caller}
use Rattle.cmwq_state.specs.Tails.{Tailed}
use Rattle.cmwq_board.specs.Boarded.{Boarded, firing_for, past_of_board}
use Rattle.cmwq_board.specs.Lent.{EndsTicketOf, MayBecome, caller_of, unended_drains}
use Rattle.cmwq_board.specs.Waits.{caller_at, lending_at}
use Rattle.cmwq_board.specs.declared.lending.Lending.TheVariants.{Free}
use Rattle.cmwq_board.proofs.Once.{once_ended}
use Rattle.cmwq_board.proofs.Places.{board_now, caller_there, drain_may_fire, ended_places, left_ended}
use Rattle.cmwq_board.proofs.board.Board.ends.Goals as goal

pub end_ticket-requires-clause-there : goal.end_ticket-requires-clause-there
end_ticket-requires-clause-there c =
    let i = c.self.inside in
    let s = i.dispatch.history.layout in
    let less : c.args.place < length i.lent.items =
    subst (λ (b : Boarded). c.args.place < length b.lent) (sym c.self.view_is) c.requires.place in
    let own : c.args.ticket.caller ≡ caller_of s i.lent.items c.args.place =
    subst (λ (b : Boarded). c.args.ticket.caller ≡ caller_at b c.args.place) (sym c.self.view_is) c.requires.own in
    subst (λ (k : CallerId). k.0 < s.callers) (sym own)
    (caller_there s i.lent.items c.args.place c.self.invariant.3.lent.few less)

pub end_ticket-requires-clause-held : goal.end_ticket-requires-clause-held
end_ticket-requires-clause-held c =
    let t = c.args.ticket in
    subst (λ (b : Boarded). ticket_of (past_of_board b) (Caller t.caller) t.number ≡ Some t) (sym c.self.view_is)
    c.requires.held

pub end_ticket-requires-clause-may : goal.end_ticket-requires-clause-may
end_ticket-requires-clause-may c drain =
    let t = c.args.ticket in
    drain_may_fire c.self.inside.dispatch t.caller t.number t c.self.invariant.3.firing
    (subst (λ (b : Boarded). b.dispatch.failed ≡ false) (sym c.self.view_is) c.requires.lives)
    (subst (λ (b : Boarded). ticket_of (past_of_board b) (Caller t.caller) t.number ≡ Some t) (sym c.self.view_is)
    c.requires.held) drain

pub less_drains-self-inside-requires : goal.less_drains-self-inside-requires
less_drains-self-inside-requires c =
    let counts = c.end_ticket.ensures.drains in
    let was = c.self.invariant.1 in
    omega (arith, counts, was)

pub invariant_of-self : goal.invariant_of-self
invariant_of-self c =
    let i = c.self.inside in
    let d = i.dispatch in
    let e = c.end_ticket.new.dispatch in
    let n = c.ends_firing.new.dispatch in
    let t = c.args.ticket in
    let ls = i.lent.items in
    let place = c.args.place in
    let less : place < length ls =
    subst (λ (b : Boarded). place < length b.lent) (sym c.self.view_is) c.requires.place in
    let own : t.caller ≡ caller_of d.history.layout ls place =
    subst (λ (b : Boarded). t.caller ≡ caller_at b place) (sym c.self.view_is) c.requires.own in
    let may : MayBecome t (slice_index_or ls place Free) c.args.lending =
    subst (λ (b : Boarded). MayBecome t (lending_at b place) c.args.lending) (sym c.self.view_is) c.requires.may in
    let ends = c.end_ticket.ensures in
    let history : n.history ≡ e.history = ap (λ (x : Dispatched). x.history) c.ends_firing.ensures.settles.settled in
    let layout = ap (λ (h : History). h.layout) history ∙ ends.stays.layout in
    let counts = ends.drains in
    let was = c.self.invariant.1 in
    let left = c.less_drains-self-inside.ensures in
    let drains_e : c.less_drains-self-inside.result ≡ unended_drains (past_now e) = omega (arith, counts, was, left) in
    let drains : c.less_drains-self-inside.result ≡ unended_drains (past_now n) =
    drains_e ∙ ap (λ (h : History). unended_drains (past_in h)) (sym history) in
    let tickets : EndsTicketOf t (past_now d) (past_now n) =
    subst (λ (h : History). EndsTicketOf t (past_now d) (past_in h)) (sym history) ends.tickets in (
      ap (λ (x : Tailed Entry). x.all) ends.kept ∙ ap (λ (h : History). h.entries) (sym history),
      drains,
      c.ends_firing.ensures.token,
      board_now d n i.tail.room c.end_ticket.new.tail.room ls (slice_set ls place c.args.lending) c.self.invariant.3
          layout (ap (λ (h : History). h.room) history ∙ ends.stays.room)
          (ap (λ (x : Tailed Entry). x.room) ends.kept)
          (ended_places d.history.layout (past_now d) (past_now n) ls place c.args.lending t c.self.invariant.3.lent
          less own tickets may)
          (once_ended t ls place c.args.lending c.self.invariant.3.once less may)
          (ap (λ (x : Dispatched). x.firing) c.ends_firing.ensures.settles.settled ∙ ap (λ k. firing_for k) drains),
      λ h. c.self.invariant.4 (left_ended d.history.layout n.history.layout (past_now d) (past_now n) ls place
          c.args.lending t layout less own tickets may h),
      subst (λ k. k ≤ i.runs) (sym (length-set ls place c.args.lending)) c.self.invariant.5,
    )
