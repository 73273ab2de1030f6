use Rattle.std.specs.Prelude.{◌≡◌, ◌<◌, ◌≤◌, Some, length, true}
use Rattle.std.proofs.Common.{◌∙◌, sym, subst, true≢false}
use Rattle.cmwq_core.specs.History.{is_done_waiting}
use Rattle.cmwq_model.specs.Prelude.{ticket_of}
use Rattle.cmwq_model.specs.declared.id.CallerId.{CallerId}
use Rattle.cmwq_model.specs.declared.id.Who.TheVariants.{Caller}
use Rattle.cmwq_board.specs.Boarded.{Boarded, layout_of, past_of_board}
use Rattle.cmwq_board.specs.Lent.{MayBecome}
use Rattle.cmwq_board.specs.Waits.{lending_at}
use Rattle.cmwq_board.specs.declared.left.Sought.TheVariants.{Ready}
use Rattle.cmwq_board.specs.declared.lending.Lending.{Lending}
use Rattle.cmwq_board.proofs.Places.{caller_there}
use Rattle.cmwq_board.proofs.Sought.{is_to_end, is_with, place_has, ready_is_done, stays_as}
use Rattle.cmwq_board.proofs.board.Board.ends_first.Goals as goal

pub sought_at-requires-clause-place : goal.sought_at-requires-clause-place
sought_at-requires-clause-place c =
    (is_with c.args.self.now Ready c.in-Some.place (sym c.place_with.ensures.is ∙ c.in-Some.is)).less

pub unreachable-requires : goal.unreachable-requires
unreachable-requires c =
    place_has c.args.self.now Ready c.in-Some.place (sym c.place_with.ensures.is ∙ c.in-Some.is)
    (sym c.sought_at.ensures ∙ c.in_default-sought_at.is)

pub planned_end-requires-clause-there : goal.planned_end-requires-clause-there
planned_end-requires-clause-there c =
    let b = c.args.self.now in
    let place = c.in-Some.place in
    let t = c.in-Some-sought_at.ticket in
    let of = is_to_end b Ready place t (sym c.place_with.ensures.is ∙ c.in-Some.is)
    (sym c.sought_at.ensures ∙ c.in-Some-sought_at.is) in
    subst (λ (x : Boarded). t.caller.0 < (layout_of x).callers) (sym c.self.view_is)
    (subst (λ (k : CallerId). k.0 < (layout_of b).callers) (sym of.own)
    (caller_there (layout_of b) b.lent place
    (subst (λ (x : Boarded). length x.lent ≤ (layout_of x).callers) c.self.view_is c.self.invariant.3.lent.few)
    of.less))

pub planned_end-requires-clause-held : goal.planned_end-requires-clause-held
planned_end-requires-clause-held c =
    let t = c.in-Some-sought_at.ticket in
    let of = is_to_end c.args.self.now Ready c.in-Some.place t (sym c.place_with.ensures.is ∙ c.in-Some.is)
    (sym c.sought_at.ensures ∙ c.in-Some-sought_at.is) in
    subst (λ (x : Boarded). ticket_of (past_of_board x) (Caller t.caller) t.number ≡ Some t) (sym c.self.view_is)
    of.held

pub unreachable-requires-in_default-planned_end : goal.unreachable-requires-in_default-planned_end
unreachable-requires-in_default-planned_end c =
    let t = c.in-Some-sought_at.ticket in
    true≢false (sym (subst (λ (x : Boarded). is_done_waiting (past_of_board x) t ≡ true) (sym c.self.view_is)
    (ready_is_done c.args.self.now c.in-Some.place t (sym c.sought_at.ensures ∙ c.in-Some-sought_at.is)))
    ∙ sym c.in_default-planned_end.ensures.ready)

pub lending_at-lending-requires : goal.lending_at-lending-requires
lending_at-lending-requires c =
    (is_with c.args.self.now Ready c.in-Some.place (sym c.place_with.ensures.is ∙ c.in-Some.is)).less

pub ends-requires-clause-place : goal.ends-requires-clause-place
ends-requires-clause-place c =
    (is_with c.args.self.now Ready c.in-Some.place (sym c.place_with.ensures.is ∙ c.in-Some.is)).less

pub ends-requires-clause-own : goal.ends-requires-clause-own
ends-requires-clause-own c =
    (is_to_end c.args.self.now Ready c.in-Some.place c.in-Some-sought_at.ticket
    (sym c.place_with.ensures.is ∙ c.in-Some.is) (sym c.sought_at.ensures ∙ c.in-Some-sought_at.is)).own

pub ends-requires-clause-held : goal.ends-requires-clause-held
ends-requires-clause-held c =
    (is_to_end c.args.self.now Ready c.in-Some.place c.in-Some-sought_at.ticket
    (sym c.place_with.ensures.is ∙ c.in-Some.is) (sym c.sought_at.ensures ∙ c.in-Some-sought_at.is)).held

pub ends-requires-clause-may : goal.ends-requires-clause-may
ends-requires-clause-may c =
    let b = c.args.self.now in
    let place = c.in-Some.place in
    let t = c.in-Some-sought_at.ticket in
    let of = is_to_end b Ready place t (sym c.place_with.ensures.is ∙ c.in-Some.is)
    (sym c.sought_at.ensures ∙ c.in-Some-sought_at.is) in
    subst (λ (l : Lending). MayBecome t (lending_at b place) l) (sym c.lending_at-lending.ensures)
    (stays_as t (lending_at b place) of.nobody)
