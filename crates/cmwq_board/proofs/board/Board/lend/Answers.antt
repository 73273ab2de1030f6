use Rattle.std.specs.Prelude.{◌≡◌, ◌≤◌, ◌+◌, ◌&&◌, if◌then◌else◌, List, length, slice_set}
use Rattle.std.proofs.Common.{ap, ap₂, arith, ◌∙◌, length-set, sym, subst}
use Rattle.std.proofs.lemmas.List.{length-reverse}
use Rattle.cmwq_model.specs.Prelude.{gives_ticket, is_drain}
use Rattle.cmwq_model.specs.declared.entry.Entry.{Entry}
use Rattle.cmwq_model.specs.declared.id.CallerId.{CallerId}
use Rattle.cmwq_model.specs.declared.record.Ticket.{Ticket}
use Rattle.cmwq_core.specs.History.{History, past_in}
use Rattle.cmwq_dispatch.specs.Dispatched.{Dispatched, is_over, past_now}
use Rattle.cmwq_state.specs.Tails.{Tailed}
use Rattle.cmwq_board.specs.Boarded.{Boarded, firing_for}
use Rattle.cmwq_board.specs.Lent.{AreLent, GivesBy, RunsWaitOnce, caller_of, ticket_at, unended_drains, waits_by}
use Rattle.cmwq_board.specs.Waits.{BeginsWait, Settles, begun_by, caller_at, lending_by, sleeps_first, with_firing}
use Rattle.cmwq_board.specs.declared.lending.Lending.{Lending}
use Rattle.cmwq_board.proofs.Begins.{firing_sleeps, lending_has, lending_waits, may_lend, no_early_fault}
use Rattle.cmwq_board.proofs.Sought.{drains_few}
use Rattle.cmwq_board.proofs.Once.{once_lent}
use Rattle.cmwq_board.proofs.Places.{board_now, given_counts, given_places, left_given}
use Rattle.cmwq_board.proofs.board.Board.lend.Goals as goal

pub caller_at-caller-requires : goal.caller_at-caller-requires
caller_at-caller-requires c = c.requires.there

pub begins_firing-requires-clause-lives : goal.begins_firing-requires-clause-lives
begins_firing-requires-clause-lives c =
    subst (λ (b : Boarded). is_over b.dispatch ≡ _) (sym c.self.view_is)
    (no_early_fault c.args.self.now c.args.run c.args.call c.requires.early).lasts

pub begins_firing-requires-clause-token : goal.begins_firing-requires-clause-token
begins_firing-requires-clause-token c =
    c.self.invariant.3.firing ∙ ap (λ n. firing_for n) (sym c.self.invariant.1)
    ∙ ap (λ b. if b then 1 else 0) (sym c.self.invariant.2)

pub begins_wait-called-requires-clause-call : goal.begins_wait-called-requires-clause-call
begins_wait-called-requires-clause-call c =
    (may_lend c.self.inside.dispatch c.begins_firing.new.dispatch c.self.inside.tail c.self.inside.lent.items
    c.self.inside.news c.args.self.now c.args.run c.args.call c.args.place c.caller_at-caller.result
    c.begins_firing.ensures.new c.self.view_is c.caller_at-caller.ensures c.self.invariant.0 c.self.invariant.3.lent c.requires.first
    c.requires.early c.requires.taken).call

pub begins_wait-called-requires-clause-fits : goal.begins_wait-called-requires-clause-fits
begins_wait-called-requires-clause-fits c =
    (may_lend c.self.inside.dispatch c.begins_firing.new.dispatch c.self.inside.tail c.self.inside.lent.items
    c.self.inside.news c.args.self.now c.args.run c.args.call c.args.place c.caller_at-caller.result
    c.begins_firing.ensures.new c.self.view_is c.caller_at-caller.ensures c.self.invariant.0 c.self.invariant.3.lent c.requires.first
    c.requires.early c.requires.taken).fits

pub begins_wait-called-requires-clause-there : goal.begins_wait-called-requires-clause-there
begins_wait-called-requires-clause-there c =
    (may_lend c.self.inside.dispatch c.begins_firing.new.dispatch c.self.inside.tail c.self.inside.lent.items
    c.self.inside.news c.args.self.now c.args.run c.args.call c.args.place c.caller_at-caller.result
    c.begins_firing.ensures.new c.self.view_is c.caller_at-caller.ensures c.self.invariant.0 c.self.invariant.3.lent c.requires.first
    c.requires.early c.requires.taken).there

pub begins_wait-called-requires-clause-may : goal.begins_wait-called-requires-clause-may
begins_wait-called-requires-clause-may c =
    (may_lend c.self.inside.dispatch c.begins_firing.new.dispatch c.self.inside.tail c.self.inside.lent.items
    c.self.inside.news c.args.self.now c.args.run c.args.call c.args.place c.caller_at-caller.result
    c.begins_firing.ensures.new c.self.view_is c.caller_at-caller.ensures c.self.invariant.0 c.self.invariant.3.lent c.requires.first
    c.requires.early c.requires.taken).may

pub begins_wait-called-requires-clause-room : goal.begins_wait-called-requires-clause-room
begins_wait-called-requires-clause-room c =
    (may_lend c.self.inside.dispatch c.begins_firing.new.dispatch c.self.inside.tail c.self.inside.lent.items
    c.self.inside.news c.args.self.now c.args.run c.args.call c.args.place c.caller_at-caller.result
    c.begins_firing.ensures.new c.self.view_is c.caller_at-caller.ensures c.self.invariant.0 c.self.invariant.3.lent c.requires.first
    c.requires.early c.requires.taken).room

pub begins_wait-called-requires-clause-space : goal.begins_wait-called-requires-clause-space
begins_wait-called-requires-clause-space c =
    (may_lend c.self.inside.dispatch c.begins_firing.new.dispatch c.self.inside.tail c.self.inside.lent.items
    c.self.inside.news c.args.self.now c.args.run c.args.call c.args.place c.caller_at-caller.result
    c.begins_firing.ensures.new c.self.view_is c.caller_at-caller.ensures c.self.invariant.0 c.self.invariant.3.lent c.requires.first
    c.requires.early c.requires.taken).space

pub ends_firing-requires-clause-firing : goal.ends_firing-requires-clause-firing
ends_firing-requires-clause-firing c =
    c.begins_wait-called.ensures.stays.firing ∙ ap (λ (d : Dispatched). d.firing) c.begins_firing.ensures.new
    ∙ sym (ap (λ b. if b then 1 else 0) c.begins_firing.ensures.token)

pub ends_firing-requires-clause-token : goal.ends_firing-requires-clause-token
ends_firing-requires-clause-token c any = c.begins_firing.ensures.token

pub more_drains-self-inside-requires : goal.more_drains-self-inside-requires
more_drains-self-inside-requires c =
    let d = c.self.inside.dispatch in
    let n = c.begins_firing.new.dispatch in
    let e = c.begins_wait-called.new.dispatch in
    let called = c.begins_wait-called.ensures in
    let history : n.history ≡ d.history = ap (λ (x : Dispatched). x.history) c.begins_firing.ensures.new in
    let counts =
    given_counts (past_now n) (past_now e) c.begins_wait-called.result.reply _ called.tickets in
    let few = drains_few (past_now e) in
    let was : c.self.inside.drains ≡ unended_drains (past_now n) =
    c.self.invariant.1 ∙ ap (λ (h : History). unended_drains (past_in h)) (sym history) in
    let all : length c.begins_wait-called.new.tail.all ≡ length e.history.entries =
    ap (λ (x : Tailed Entry). length x.all) called.kept in
    let reversed = length-reverse e.history.entries in
    let len = c.len.ensures in
    omega (arith, counts, few, was, all, reversed, len)

pub invariant_of-self : goal.invariant_of-self
invariant_of-self c =
    let d = c.self.inside.dispatch in
    let n = c.begins_firing.new.dispatch in
    let e = c.begins_wait-called.new.dispatch in
    let f = c.ends_firing.new.dispatch in
    let called = c.begins_wait-called.ensures in
    let lent = c.self.inside.lent.items in
    let reply = c.begins_wait-called.result.reply in
    let number = c.begins_wait-called.result.number in
    let caller = c.caller_at-caller.result in
    let history : n.history ≡ d.history = ap (λ (x : Dispatched). x.history) c.begins_firing.ensures.new in
    let m = (may_lend c.self.inside.dispatch c.begins_firing.new.dispatch c.self.inside.tail c.self.inside.lent.items
    c.self.inside.news c.args.self.now c.args.run c.args.call c.args.place c.caller_at-caller.result
    c.begins_firing.ensures.new c.self.view_is c.caller_at-caller.ensures c.self.invariant.0 c.self.invariant.3.lent c.requires.first
    c.requires.early c.requires.taken) in
    let at : caller ≡ caller_of d.history.layout lent c.args.place =
    m.at ∙ ap (λ (h : History). caller_of h.layout lent c.args.place) history in
    let settled : f.history ≡ e.history = ap (λ (x : Dispatched). x.history) c.ends_firing.ensures.settles.settled in
    let ticket : Ticket = record { caller = caller; call = c.args.call; number = number } in
    let gives : GivesBy reply ticket (past_now d) (past_now e) =
    subst (λ (h : History). GivesBy reply ticket (past_in h) (past_now e)) history called.tickets in
    let lends : lent ≡ c.args.self.now.lent = ap (λ (x : Boarded). x.lent) c.self.view_is in
    let once : RunsWaitOnce (slice_set lent c.args.place c.begins_wait-called.result.lending) =
    subst (λ (ls : List Lending). RunsWaitOnce (slice_set ls c.args.place c.begins_wait-called.result.lending))
    (sym lends)
    (subst (λ (l : Lending). RunsWaitOnce (slice_set c.args.self.now.lent c.args.place l)) (sym called.lending)
    (once_lent c.args.self.now c.args.place c.args.run (sleeps_first n c.args.run) ticket reply
    (subst (λ (ls : List Lending). RunsWaitOnce ls) lends c.self.invariant.3.once) c.requires.there
    (no_early_fault c.args.self.now c.args.run c.args.call c.requires.early).has)) in
    let drains : c.more_drains-self-inside.result ≡ unended_drains (past_now f) =
    c.more_drains-self-inside.ensures
    ∙ ap (λ k. k + (if is_drain c.args.call && gives_ticket reply then 1 else 0)) c.self.invariant.1
    ∙ sym (given_counts (past_now d) (past_now e) reply _ gives)
    ∙ ap (λ (h : History). unended_drains (past_in h)) (sym settled) in (
      ap (λ (t : Tailed Entry). t.all) called.kept ∙ ap (λ (h : History). h.entries) (sym settled),
      drains,
      c.ends_firing.ensures.token,
      board_now d f c.self.inside.tail.room c.begins_wait-called.new.tail.room lent
          (slice_set lent c.args.place c.begins_wait-called.result.lending) c.self.invariant.3
          (ap (λ (h : History). h.layout) settled ∙ called.stays.layout ∙ ap (λ (h : History). h.layout) history)
          (ap (λ (h : History). h.room) settled ∙ called.stays.room ∙ ap (λ (h : History). h.room) history)
          (ap (λ (t : Tailed Entry). t.room) called.kept)
          (subst (λ (h : History). AreLent d.history.layout (past_in h)
          (slice_set lent c.args.place c.begins_wait-called.result.lending)) (sym settled)
          (given_places d.history.layout (past_now d) (past_now e) lent c.args.place
          c.begins_wait-called.result.lending reply caller c.args.call number c.self.invariant.3.lent m.less at
          (subst (λ k. k ≤ number) (sym (length-reverse d.history.entries))
          (subst (λ (h : History). length h.entries ≤ number) history called.later)) gives
          (λ u is. lending_has c.args.run _ _ u reply (sym (ap ticket_at called.lending) ∙ is))))
          once
          (ap (λ (x : Dispatched). x.firing) c.ends_firing.ensures.settles.settled ∙ ap (λ k. firing_for k) drains),
      λ h. c.self.invariant.4 (left_given d.history.layout f.history.layout (past_now d) (past_now f) lent c.args.place
          c.begins_wait-called.result.lending reply _
          (ap (λ (h : History). h.layout) settled ∙ called.stays.layout ∙ ap (λ (h : History). h.layout) history)
          m.less (m.free) at
          (subst (λ (x : History). GivesBy reply ticket (past_now d) (past_in x)) (sym settled) gives)
          (λ g. ap (waits_by ticket) called.lending ∙ lending_waits c.args.run _ _ reply g) h),
      subst (λ k. k ≤ c.self.inside.runs)
          (sym (length-set lent c.args.place c.begins_wait-called.result.lending)) c.self.invariant.5,
    )

pub returns : goal.returns
returns c =
    let b = c.args.self.now in
    let i = c.self.inside in
    let run = c.args.run in
    let made = c.begins_wait-called in
    let e = made.new.dispatch in
    let reply = made.result.reply in
    let number = made.result.number in
    let own : c.caller_at-caller.result ≡ caller_at b c.args.place = c.caller_at-caller.ensures in
    let from : c.begins_firing.new.dispatch ≡ with_firing b.dispatch =
    c.begins_firing.ensures.new ∙ ap (λ (x : Boarded). with_firing x.dispatch) c.self.view_is in
    let lent : i.lent.items ≡ b.lent = ap (λ (x : Boarded). x.lent) c.self.view_is in
    record {
      place = c.args.place;
      is_first = c.requires.first;
      reply = reply;
      number = number;
      called = e;
      then_called = made.new.wakes;
      waits = subst (λ k. BeginsWait run k c.args.call reply number (with_firing b.dispatch) e c.args.wakes.now
          made.new.wakes) own
          (subst (λ (d : Dispatched). BeginsWait run c.caller_at-caller.result c.args.call reply number d e
          c.args.wakes.now made.new.wakes) from
          (subst (λ w. BeginsWait run c.caller_at-caller.result c.args.call reply number c.begins_firing.new.dispatch e
          w made.new.wakes) c.begins_firing.ensures.nobody made.ensures.waits));
      begun = c.begun_by.ensures ∙ ap (λ k. begun_by k reply) own;
      lent = ap₂ (λ ls l. slice_set ls c.args.place l) lent
          (made.ensures.lending
          ∙ ap₂ (λ (k : CallerId) (d : Dispatched). lending_by run (sleeps_first d run)
          (record { caller = k; call = c.args.call; number = number }) reply) own from
          ∙ ap (λ slept. lending_by run slept
          (record { caller = caller_at b c.args.place; call = c.args.call; number = number }) reply)
          (firing_sleeps b.dispatch run));
      settles = subst (λ k. Settles k e c.ends_firing.new.dispatch made.new.wakes c.ends_firing.new.wakes)
          (c.more_drains-self-inside.ensures
          ∙ ap (λ k. k + (if is_drain c.args.call && gives_ticket reply then 1 else 0))
          (c.self.invariant.1 ∙ ap (λ (x : Dispatched). unended_drains (past_now x)) (sym c.begins_firing.ensures.new))
          ∙ sym (given_counts (past_now c.begins_firing.new.dispatch) (past_now e) reply _ made.ensures.tickets))
          c.ends_firing.ensures.settles;
      news = ap (λ (x : Boarded). x.news) c.self.view_is;
      kept = (
        ap (λ (t : Tailed Entry). t.given) made.ensures.kept ∙ ap (λ (x : Boarded). x.given) c.self.view_is,
        ap (λ (t : Tailed Entry). t.room) made.ensures.kept ∙ ap (λ (x : Boarded). x.keeps) c.self.view_is,
      );
    }
