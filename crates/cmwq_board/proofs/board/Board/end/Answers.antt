use Rattle.std.specs.Prelude.{◌≡◌, ◌<◌, Bool, None, Result, Some, slice_index_or, true}
use Rattle.std.proofs.Common.{ap, ◌∙◌, refl, rules, sym, subst}
use Rattle.std.proofs.lemmas.List.{get_or_default}
use Rattle.cmwq_core.specs.History.{is_done_waiting}
use Rattle.cmwq_dispatch.specs.Dispatched.{past_now}
use Rattle.std.proofs.lemmas.Option.{same_Some}
use Rattle.cmwq_model.specs.Prelude.{ticket_of}
use Rattle.cmwq_model.specs.declared.id.Who.TheVariants.{Caller}
use Rattle.cmwq_model.specs.declared.record.Ticket.{Ticket}
use Rattle.cmwq_board.specs.Boarded.{Boarded, first_place, layout_of, past_of_board}
use Rattle.cmwq_model.specs.declared.id.CallerId.{CallerId}
use Rattle.cmwq_board.specs.Lent.{caller_of, ticket_at}
use Rattle.cmwq_board.specs.Machine.{Stepped, bare}
use Rattle.cmwq_board.specs.Waits.{Ends, EndsAt, IsAwake, ThenClears, caller_at, end_fault, lending_at, place_of}
use Rattle.cmwq_board.specs.declared.board.Ended.TheVariants.{Done, Not}
use Rattle.cmwq_board.specs.declared.fault.BoardFault.{BoardFault}
use Rattle.cmwq_board.specs.declared.lending.Lending.TheVariants.{Free, Waits}
use Rattle.cmwq_board.proofs.Ending.{ended_at, ended_core, step_is}
use Rattle.cmwq_board.proofs.Places.{caller_there, own_caller, own_ticket, place_is}
use Rattle.cmwq_board.proofs.Woken.{sleeps_no_more}
use Rattle.cmwq_board.proofs.board.Board.end.Goals as goal

pub planned_end-requires-clause-there : goal.planned_end-requires-clause-there
planned_end-requires-clause-there c =
    let b = c.args.self.now in
    let i = c.self.inside in
    let s = i.dispatch.history.layout in
    let ls = i.lent.items in
    let place = c.in-Some.place in
    let t = c.in-Waits.ticket in
    let is_place : place_of b c.args.party ≡ Some place = sym c.place_of.ensures ∙ c.in-Some.is in
    let here : first_place s ls c.args.party.0 ≡ Some place =
    subst (λ (x : Boarded). first_place (layout_of x) x.lent c.args.party.0 ≡ Some place) (sym c.self.view_is)
    is_place in
    let of = place_is s ls c.args.party place c.self.invariant.3.lent.few here in
    let at : slice_index_or ls place Free ≡ Waits t c.in-Waits.run' c.in-Waits.slept =
    get_or_default ls place Free c.index.result.now of.less ∙ sym c.index.ensures ∙ c.in-Waits.is in
    let held = c.self.invariant.3.lent.held place t of.less (ap ticket_at at) in
    subst (λ (k : CallerId). k.0 < s.callers)
    (sym (own_caller (past_now i.dispatch) (caller_of s ls place) t.number t held))
    (caller_there s ls place c.self.invariant.3.lent.few of.less)

pub planned_end-requires-clause-held : goal.planned_end-requires-clause-held
planned_end-requires-clause-held c =
    let b = c.args.self.now in
    let i = c.self.inside in
    let s = i.dispatch.history.layout in
    let ls = i.lent.items in
    let place = c.in-Some.place in
    let t = c.in-Waits.ticket in
    let is_place : place_of b c.args.party ≡ Some place = sym c.place_of.ensures ∙ c.in-Some.is in
    let here : first_place s ls c.args.party.0 ≡ Some place =
    subst (λ (x : Boarded). first_place (layout_of x) x.lent c.args.party.0 ≡ Some place) (sym c.self.view_is)
    is_place in
    let of = place_is s ls c.args.party place c.self.invariant.3.lent.few here in
    let at : slice_index_or ls place Free ≡ Waits t c.in-Waits.run' c.in-Waits.slept =
    get_or_default ls place Free c.index.result.now of.less ∙ sym c.index.ensures ∙ c.in-Waits.is in
    own_ticket (past_now i.dispatch) (caller_of s ls place) t.number t
    (c.self.invariant.3.lent.held place t of.less (ap ticket_at at))

pub ends_wait-requires-clause-own : goal.ends_wait-requires-clause-own
ends_wait-requires-clause-own c =
    let b = c.args.self.now in
    let i = c.self.inside in
    let s = i.dispatch.history.layout in
    let ls = i.lent.items in
    let place = c.in-Some.place in
    let t = c.in-Waits.ticket in
    let is_place : place_of b c.args.party ≡ Some place = sym c.place_of.ensures ∙ c.in-Some.is in
    let here : first_place s ls c.args.party.0 ≡ Some place =
    subst (λ (x : Boarded). first_place (layout_of x) x.lent c.args.party.0 ≡ Some place) (sym c.self.view_is)
    is_place in
    let of = place_is s ls c.args.party place c.self.invariant.3.lent.few here in
    let at : slice_index_or ls place Free ≡ Waits t c.in-Waits.run' c.in-Waits.slept =
    get_or_default ls place Free c.index.result.now of.less ∙ sym c.index.ensures ∙ c.in-Waits.is in
    let held = c.self.invariant.3.lent.held place t of.less (ap ticket_at at) in
    subst (λ (x : Boarded). t.caller ≡ caller_at x place) c.self.view_is
    (own_caller (past_now i.dispatch) (caller_of s ls place) t.number t held)

pub ends_wait-requires-clause-held : goal.ends_wait-requires-clause-held
ends_wait-requires-clause-held c =
    let b = c.args.self.now in
    let i = c.self.inside in
    let s = i.dispatch.history.layout in
    let ls = i.lent.items in
    let place = c.in-Some.place in
    let t = c.in-Waits.ticket in
    let is_place : place_of b c.args.party ≡ Some place = sym c.place_of.ensures ∙ c.in-Some.is in
    let here : first_place s ls c.args.party.0 ≡ Some place =
    subst (λ (x : Boarded). first_place (layout_of x) x.lent c.args.party.0 ≡ Some place) (sym c.self.view_is)
    is_place in
    let of = place_is s ls c.args.party place c.self.invariant.3.lent.few here in
    let at : slice_index_or ls place Free ≡ Waits t c.in-Waits.run' c.in-Waits.slept =
    get_or_default ls place Free c.index.result.now of.less ∙ sym c.index.ensures ∙ c.in-Waits.is in
    let held = c.self.invariant.3.lent.held place t of.less (ap ticket_at at) in
    subst (λ (x : Boarded). ticket_of (past_of_board x) (Caller t.caller) t.number ≡ Some t) c.self.view_is
    (own_ticket (past_now i.dispatch) (caller_of s ls place) t.number t held)

pub ends_wait-requires-clause-may : goal.ends_wait-requires-clause-may
ends_wait-requires-clause-may c u is =
    let b = c.args.self.now in
    let i = c.self.inside in
    let s = i.dispatch.history.layout in
    let ls = i.lent.items in
    let place = c.in-Some.place in
    let t = c.in-Waits.ticket in
    let is_place : place_of b c.args.party ≡ Some place = sym c.place_of.ensures ∙ c.in-Some.is in
    let here : first_place s ls c.args.party.0 ≡ Some place =
    subst (λ (x : Boarded). first_place (layout_of x) x.lent c.args.party.0 ≡ Some place) (sym c.self.view_is)
    is_place in
    let of = place_is s ls c.args.party place c.self.invariant.3.lent.few here in
    let at : slice_index_or ls place Free ≡ Waits t c.in-Waits.run' c.in-Waits.slept =
    get_or_default ls place Free c.index.result.now of.less ∙ sym c.index.ensures ∙ c.in-Waits.is in
    let lending : lending_at b place ≡ Waits t c.in-Waits.run' c.in-Waits.slept =
    subst (λ (x : Boarded). lending_at x place ≡ Waits t c.in-Waits.run' c.in-Waits.slept) c.self.view_is at in
    ap (λ (v : Ticket). v.number) (sym (same_Some t u (ap ticket_at (sym lending) ∙ is)))

pub returns-in_default-planned_end-clause-ends : goal.returns-in_default-planned_end-clause-ends
returns-in_default-planned_end-clause-ends c =
    let b = c.args.self.now in
    let i = c.self.inside in
    let s = i.dispatch.history.layout in
    let ls = i.lent.items in
    let place = c.in-Some.place in
    let t = c.in-Waits.ticket in
    let is_place : place_of b c.args.party ≡ Some place = sym c.place_of.ensures ∙ c.in-Some.is in
    let here : first_place s ls c.args.party.0 ≡ Some place =
    subst (λ (x : Boarded). first_place (layout_of x) x.lent c.args.party.0 ≡ Some place) (sym c.self.view_is)
    is_place in
    let of = place_is s ls c.args.party place c.self.invariant.3.lent.few here in
    let at : slice_index_or ls place Free ≡ Waits t c.in-Waits.run' c.in-Waits.slept =
    get_or_default ls place Free c.index.result.now of.less ∙ sym c.index.ensures ∙ c.in-Waits.is in
    let held = c.self.invariant.3.lent.held place t of.less (ap ticket_at at) in
    let own : t.caller ≡ c.args.party =
    own_caller (past_now i.dispatch) (caller_of s ls place) t.number t held ∙ sym of.at in
    let lending : lending_at b place ≡ Waits t c.in-Waits.run' c.in-Waits.slept =
    subst (λ (x : Boarded). lending_at x place ≡ Waits t c.in-Waits.run' c.in-Waits.slept) c.self.view_is at in
    let waits = c.waits_on.ensures in
    let new = c.waits_on.new.self in
    let w = c.args.wakes.now in
    record {
      place = place;
      is_place = is_place;
      ends = record {
        awake = waits.awake;
        awakes = subst (λ k. IsAwake k b waits.awake) own waits.awakes;
        next = subst (λ l. Ends place l (Not c.waits_on.result) new w w waits.awake) (sym lending) (waits.next, refl);
      };
    }

pub returns-clause-ends : goal.returns-clause-ends
returns-clause-ends c =
    let b = c.args.self.now in
    let i = c.self.inside in
    let s = i.dispatch.history.layout in
    let ls = i.lent.items in
    let place = c.in-Some.place in
    let t = c.in-Waits.ticket in
    let is_place : place_of b c.args.party ≡ Some place = sym c.place_of.ensures ∙ c.in-Some.is in
    let here : first_place s ls c.args.party.0 ≡ Some place =
    subst (λ (x : Boarded). first_place (layout_of x) x.lent c.args.party.0 ≡ Some place) (sym c.self.view_is)
    is_place in
    let of = place_is s ls c.args.party place c.self.invariant.3.lent.few here in
    let at : slice_index_or ls place Free ≡ Waits t c.in-Waits.run' c.in-Waits.slept =
    get_or_default ls place Free c.index.result.now of.less ∙ sym c.index.ensures ∙ c.in-Waits.is in
    let held = c.self.invariant.3.lent.held place t of.less (ap ticket_at at) in
    let own : t.caller ≡ c.args.party =
    own_caller (past_now i.dispatch) (caller_of s ls place) t.number t held ∙ sym of.at in
    let lending : lending_at b place ≡ Waits t c.in-Waits.run' c.in-Waits.slept =
    subst (λ (x : Boarded). lending_at x place ≡ Waits t c.in-Waits.run' c.in-Waits.slept) c.self.view_is at in
    let ends = c.ends_wait.ensures in
    let new = c.ends_wait.new.self in
    let w = c.args.wakes.now in
    let v = c.ends_wait.new.wakes in
    record {
      place = place;
      is_place = is_place;
      ends = record {
        awake = ends.awake;
        awakes = subst (λ k. IsAwake k b ends.awake) own ends.awakes;
        next = subst (λ l. Ends place l Done new w v ends.awake) (sym lending)
            (subst (λ run. ThenClears (EndsAt place t run) ends.awake new w v) c.if_slept.ensures ends.next);
      };
    }

pub returns-clause-awake : goal.returns-clause-awake
returns-clause-awake c =
    sleeps_no_more c.args.party c.args.self.now c.ends_wait.new.self c.args.wakes.now c.ends_wait.new.wakes
    (returns-clause-ends c) c.stands.ensures.legal

pub returns-clause-core : goal.returns-clause-core
returns-clause-core c =
    let b = c.args.self.now in
    let i = c.self.inside in
    let s = i.dispatch.history.layout in
    let ls = i.lent.items in
    let place = c.in-Some.place in
    let t = c.in-Waits.ticket in
    let is_place : place_of b c.args.party ≡ Some place = sym c.place_of.ensures ∙ c.in-Some.is in
    let here : first_place s ls c.args.party.0 ≡ Some place =
    subst (λ (x : Boarded). first_place (layout_of x) x.lent c.args.party.0 ≡ Some place) (sym c.self.view_is)
    is_place in
    let of = place_is s ls c.args.party place c.self.invariant.3.lent.few here in
    let at : slice_index_or ls place Free ≡ Waits t c.in-Waits.run' c.in-Waits.slept =
    get_or_default ls place Free c.index.result.now of.less ∙ sym c.index.ensures ∙ c.in-Waits.is in
    let lending : lending_at b place ≡ Waits t c.in-Waits.run' c.in-Waits.slept =
    subst (λ (x : Boarded). lending_at x place ≡ Waits t c.in-Waits.run' c.in-Waits.slept) c.self.view_is at in
    let none : end_fault b c.args.party ≡ None = search rules in
    let ready : is_done_waiting (past_of_board b) t ≡ true = search rules in
    ended_core t.caller place t c.if_slept.result b c.ends_wait.new.self c.args.wakes.now c.ends_wait.new.wakes
    c.ends_wait.ensures c.stands.ensures.legal
    ∙ ap (ended_at (bare b) place t) c.if_slept.ensures
    ∙ sym (ap (λ (x : Stepped (Result Bool BoardFault)). x.core)
    (step_is b c.args.party place t c.in-Waits.run' c.in-Waits.slept none is_place lending true ready))
